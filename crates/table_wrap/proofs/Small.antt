-- The lists of a table's document are small enough for a wire.
use Rattle.std.proofs.Common.{◌≡◌, ℕ, suc, ◌^◌, ◌<◌, ◌≤◌, true, ℤ, List, [], ◌∷◌, length, Option, Some, None, nat_lt, SFits, w64, arith}
use Rattle.std.specs.Fmt.{signed_decimal}
use Rattle.std.specs.List.{AllByRecursion, list_all}
use Rattle.std.proofs.lemmas.Bool.Decides.{nat_tests}
use Rattle.std.proofs.lemmas.Fmt.{length_signed_le}
use Rattle.hex.specs.Hex.{lower_digits}
use Rattle.hex.proofs.HexLemmas.{length-encode_with}
use Rattle.mix_base.proofs.Choices.{and_parts}
use Rattle.mix_tree.specs.Forest.{forest_of}
use Rattle.mix_catalog.specs.declared.column.Column.{Column}
use Rattle.lxp_core.specs.Open.{without_holes}
use Rattle.lxp_core.specs.Small.{IsSmall, IsSmallWithin, tops_of}
use Rattle.row_document.proofs.Lists.{AreSmallCells, rows_small}
use Rattle.table_keep.specs.Page.{IsPageOf, all_fit, cells_fit, fits, row_fits}
use Rattle.table_keep.specs.Rows.{Row, Value, null, int, text, bytes}
use Rattle.table_wrap.specs.declared.document.TableDoc.{TableDoc}
use Rattle.table_wrap.specs.declared.parts.Part.TheVariants.{Rows}
use Rattle.table_wrap.specs.Document.{chunk_of, columns_of, is_full, last_key, name_of, page_given}
use Rattle.table_wrap.specs.Parts.{hole_of}
use Rattle.table_wrap.specs.Rows.{cells, label_of, leaf, row_cells}
use Rattle.table_wrap.specs.Wire.{AreInRange, IsInRange, is_short}

-- a number that passes a test is below the other
below : (n m : ℕ) → nat_lt n m ≡ true → n < m
below n m h = grind (arith, nat_tests)

-- a number of 64 bits has fewer than 2^32 digits
number_short : (n : ℤ) → SFits w64 n → length (signed_decimal n) < 2 ^ 32
number_short n h = let few = length_signed_le 20 n (omega (arith, h.sfits)) h.sfits in omega (arith, few)

-- at most one leaf stands below a column
leaf_few : (label : Option (List ℕ)) → tops_of (without_holes (leaf label)) < 2 ^ 32
leaf_few None = omega arith
leaf_few (Some label) = omega arith

-- a leaf below a column is small
leaf_small : (levels : ℕ) (c : Column) (v : Value) → fits c v ≡ true → IsInRange v → IsSmallWithin (suc levels) (without_holes (leaf (label_of v)))
leaf_small levels c null h r = tt
leaf_small levels c (int n) h r = (number_short n r, omega arith, tt, tt)
leaf_small levels c (text t) h r = let short = below (length t) (2 ^ 31) h in (omega arith, omega arith, tt, tt)
leaf_small levels c (bytes b) h r =
    let short = below (length b) (2 ^ 31) h in
    let twice = length-encode_with lower_digits b in
    (omega (arith, short, twice), omega arith, tt, tt)

-- the columns of a row are small
cells_small : (levels : ℕ) (columns : List Column) (values : List Value) → cells_fit columns values ≡ true → list_all (λ c. is_short c.name) columns ≡ true
    → AreInRange columns values → IsSmallWithin (suc (suc levels)) (without_holes (forest_of (cells columns values)))
cells_small levels [] values h names r = tt
cells_small levels (c ∷ cs) [] h names r = tt
cells_small levels (c ∷ cs) (v ∷ vs) h names r =
    let fit = and_parts (fits c v) (cells_fit cs vs) h in
    let short = and_parts (is_short c.name) (list_all (λ (d : Column). is_short d.name) cs) names in
    (below (length c.name) (2 ^ 32) short.0, leaf_few (label_of v), leaf_small levels c v fit.0 r.0, cells_small levels cs vs fit.1 short.1 r.1)

-- a row has no more nodes below it than there are columns
cells_few : (columns : List Column) (values : List Value) → tops_of (without_holes (forest_of (cells columns values))) ≤ length columns
cells_few [] values = omega arith
cells_few (c ∷ cs) [] = omega arith
cells_few (c ∷ cs) (v ∷ vs) = omega (arith, cells_few cs vs)

-- the cells of the rows of a page are small
rows_fit : (columns : List Column) (rows : List Row) → length columns < 2 ^ 32 → list_all (λ c. is_short c.name) columns ≡ true → all_fit columns rows ≡ true
    → AllByRecursion (λ r. AreInRange columns r.values) rows → AllByRecursion (λ r. AreSmallCells (row_cells columns r)) rows
rows_fit columns [] few names h range = tt
rows_fit columns (r ∷ rows) few names h range =
    let fit = and_parts (row_fits columns r) (all_fit columns rows) h in
    (record { few = omega (arith, cells_few columns r.values, few); small = cells_small 197 columns r.values fit.0 names range.0 }, rows_fit columns rows few names fit.1 range.1)

module _ (d : TableDoc) where
  -- the name of a document that fits a wire is short
  pub short_name : length (name_of d) < 2 ^ 32
  short_name = below (length (name_of d)) (2 ^ 32) (and_parts (is_short (name_of d)) _ d.small).0

  -- a document that fits a wire has few columns
  pub few_columns : length (columns_of d) < 2 ^ 32
  few_columns = below (length (columns_of d)) (2 ^ 32) (and_parts (nat_lt (length (columns_of d)) (2 ^ 32)) _ (and_parts (is_short (name_of d)) _ d.small).1).0

  -- the columns of a document that fits a wire have short names
  short_columns : list_all (λ c. is_short c.name) (columns_of d) ≡ true
  short_columns = (and_parts (nat_lt (length (columns_of d)) (2 ^ 32)) _ (and_parts (is_short (name_of d)) _ d.small).1).1

  -- the list of a page is small enough for a wire
  pub small_page : (after : Option ℤ) (rows : List Row) → IsPageOf after (chunk_of d) (columns_of d) rows → AllByRecursion (λ r. AreInRange (columns_of d) r.values) rows
      → IsSmall (page_given d after rows)
  small_page after rows page range =
      rows_small (row_cells (columns_of d)) rows (is_full d rows) (hole_of (Rows (last_key after rows)))
      (rows_fit (columns_of d) rows few_columns short_columns page.cells range) (omega (arith, page.few, d.few))
