-- How many nodes the rows of a CSV document have.
use Rattle.std.proofs.Common.{◌≡◌, ◌∙◌, ℕ, zero, suc, ◌+◌, ◌-◌, ◌*◌, ◌≤◌, List, [], ◌∷◌, length, take, drop, ap, arith}
use Rattle.std.specs.List.{All}
use Rattle.std.proofs.lemmas.List.{length-drop, length-take}
use Rattle.std.proofs.lemmas.List.Elements.{All-nil, All-cons, All-drop, All-head, All-tail}
use Rattle.mix_tree.specs.Forest.{forest_of}
use Rattle.mix_tree.specs.Weight.{nodes_of}
use Rattle.csv_wrap.specs.declared.document.CsvDoc.{CsvDoc}
use Rattle.csv_wrap.specs.Rows.{cells, row_forest}
use Rattle.csv_wrap.specs.Document.{columns_of, rows_of}
use Rattle.csv_wrap.specs.Table.{cut_rows}
use Rattle.csv_wrap.proofs.RowFacts.{length-cut, suc_mul, zero_mul}

-- a row has so many fields
abbrev pub IsWide : ℕ → List (List ℕ) → Type 0
IsWide width fields = length fields ≡ width

-- below a row there are two nodes for each column
cells-nodes : (columns fields : List (List ℕ)) → length fields ≡ length columns → nodes_of (forest_of (cells columns fields)) ≡ 2 * length columns
cells-nodes [] fields e = omega arith
cells-nodes (c ∷ cs) [] e = absurd (omega (arith, e))
cells-nodes (c ∷ cs) (f ∷ fs) e = omega (arith, cells-nodes cs fs (omega (arith, e)))

-- rows of as many fields as there are columns have a node each, and two for each column
rows-nodes : (columns : List (List ℕ)) (rows : List (List (List ℕ))) → All (IsWide (length columns)) rows → nodes_of (row_forest columns rows) ≡ length rows * (1 + 2 * length columns)
rows-nodes columns [] h = zero_mul (1 + 2 * length columns)
rows-nodes columns (r ∷ rows) h =
    let first = cells-nodes columns r (All-head (IsWide (length columns)) r rows h) in
    let more = rows-nodes columns rows (All-tail (IsWide (length columns)) r rows h) in
    omega (arith, first, more, suc_mul (length rows) (1 + 2 * length columns))

-- rows that are cut from enough fields have as many of them as are wanted
cut-wide : (width count : ℕ) (fields : List (List ℕ)) → count * width ≤ length fields → All (IsWide width) (cut_rows width count fields)
cut-wide width zero fields h = All-nil (IsWide width)
cut-wide width (suc count) fields h =
    let long : length (take width fields) ≡ width = omega (arith, length-take width fields, suc_mul count width, h) in
    let more = cut-wide width count (drop width fields) (omega (arith, length-drop width fields, suc_mul count width, h)) in
    All-cons (IsWide width) (take width fields) (cut_rows width count (drop width fields)) long more

-- the rows of a document from one on have a node each, and two for each column
pub rows-left : (d : CsvDoc) (first : ℕ) → nodes_of (row_forest (columns_of d) (drop first (rows_of d))) ≡ (d.table.rows - first) * (1 + 2 * length d.columns.items)
rows-left d first =
    let width = length d.columns.items in
    let wide = cut-wide width d.table.rows d.table.fields (omega (arith, d.full)) in
    let count : length (drop first (rows_of d)) ≡ d.table.rows - first = omega (arith, length-drop first (rows_of d), length-cut width d.table.rows d.table.fields) in
    rows-nodes (columns_of d) (drop first (rows_of d)) (All-drop (IsWide width) first (rows_of d) wide) ∙ ap (λ n. n * (1 + 2 * length d.columns.items)) count
