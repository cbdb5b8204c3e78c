-- The lists that holes are answered with are small enough for a wire.
use Rattle.std.proofs.Common.{ℕ, zero, suc, ◌+◌, ◌<◌, ◌≤◌, ◌^◌, List, [], ◌∷◌, length, take, drop, Option, Some, None, arith}
use Rattle.std.specs.List.{All, AllByRecursion}
use Rattle.std.proofs.lemmas.List.{length-take}
use Rattle.std.proofs.lemmas.List.Elements.{All-nil, All-cons, All-drop, All-head, All-tail, All-take}
use Rattle.mix_tree.specs.Forest.{forest_of}
use Rattle.lxp_core.specs.Open.{without_holes}
use Rattle.lxp_core.specs.Small.{IsSmall, IsSmallWithin, tops_of}
use Rattle.row_document.proofs.Lists.{AreSmallCells, name_small, rows_small}
use Rattle.document_store.specs.Texts.{IsShort}
use Rattle.csv_wrap.specs.declared.document.CsvDoc.{CsvDoc}
use Rattle.csv_wrap.specs.declared.parts.Part.TheVariants.{Name, RowsFrom}
use Rattle.csv_wrap.specs.declared.parts.Part.{Part}
use Rattle.csv_wrap.specs.Parts.{hole_of}
use Rattle.csv_wrap.specs.Rows.{cells}
use Rattle.csv_wrap.specs.Document.{columns_of, has_more, rows_of, part_given}
use Rattle.csv_wrap.specs.Table.{cut_rows}

-- below a row there are no more trees side by side than columns
tops-cells : (columns fields : List (List ℕ)) → tops_of (without_holes (forest_of (cells columns fields))) ≤ length columns
tops-cells [] fields = omega arith
tops-cells (c ∷ cs) [] = omega arith
tops-cells (c ∷ cs) (f ∷ fs) = omega (arith, tops-cells cs fs)

-- short columns, each above a short field, are a small list of two levels
small-cells : (more : ℕ) (columns fields : List (List ℕ)) → All IsShort columns → All IsShort fields → IsSmallWithin (suc (suc more)) (without_holes (forest_of (cells columns fields)))
small-cells more [] fields h k = tt
small-cells more (c ∷ cs) [] h k = tt
small-cells more (c ∷ cs) (f ∷ fs) h k =
    (All-head IsShort c cs h, omega arith, (All-head IsShort f fs k, omega arith, tt, tt), small-cells more cs fs (All-tail IsShort c cs h) (All-tail IsShort f fs k))

-- the cells of rows of short fields under short columns, not too many, are small
rows-fit : (columns : List (List ℕ)) (rows : List (List (List ℕ))) → All IsShort columns → length columns < 2 ^ 32 → All (All IsShort) rows
    → AllByRecursion (λ r. AreSmallCells (cells columns r)) rows
rows-fit columns [] h few k = tt
rows-fit columns (r ∷ rows) h few k = (
  record { few = omega (arith, tops-cells columns r, few); small = small-cells 197 columns r h (All-head (All IsShort) r rows k) },
  rows-fit columns rows h few (All-tail (All IsShort) r rows k),
)

-- rows that are cut from short fields have short fields
cut-short : (width count : ℕ) (fields : List (List ℕ)) → All IsShort fields → All (All IsShort) (cut_rows width count fields)
cut-short width zero fields h = All-nil (All IsShort)
cut-short width (suc count) fields h =
    All-cons (All IsShort) (take width fields) (cut_rows width count (drop width fields)) (All-take IsShort width fields h)
    (cut-short width count (drop width fields) (All-drop IsShort width fields h))

-- the list of a part is small enough for a wire
pub small-given : (d : CsvDoc) (p : Option Part) → IsSmall (part_given d p)
small-given d None = (omega arith, tt)
small-given d (Some Name) = name_small d.name (hole_of (RowsFrom 0)) d.small.source
small-given d (Some (RowsFrom first)) =
    let left = drop first (rows_of d) in
    let cut = cut-short (length d.columns.items) d.table.rows d.table.fields d.small.texts in
    let short = All-take (All IsShort) d.chunk left (All-drop (All IsShort) first (rows_of d) cut) in
    rows_small (cells (columns_of d)) (take d.chunk left) (has_more d (first + d.chunk)) (hole_of (RowsFrom (first + d.chunk)))
    (rows-fit (columns_of d) (take d.chunk left) d.small.labels d.small.width short) (omega (arith, length-take d.chunk (drop first (rows_of d)), d.few))
