-- How rows are kept: their fields one after another, and how many rows there are; and how long names and fields are.
use Rattle.std.specs.Prelude.{◌≡◌, ℕ, zero, suc, ◌*◌, ◌<◌, ◌^◌, List, [], ◌∷◌, take, drop, length}
use Rattle.std.specs.List.{All}
use Rattle.document_store.specs.Texts.{IsShort}
use Rattle.csv_wrap.specs.declared.table.Table.{Table}

-- fields cut into a number of rows of a given width
abbrev pub cut_rows : ℕ → ℕ → List (List ℕ) → List (List (List ℕ))
cut_rows width zero fields = []
cut_rows width (suc count) fields = take width fields ∷ cut_rows width count (drop width fields)

-- the rows of a table of a given number of columns
abbrev pub rows_in : ℕ → Table → List (List (List ℕ))
rows_in width t = cut_rows width t.rows t.fields

-- a table has exactly as many fields as its rows have columns in all
abbrev pub IsFull : ℕ → Table → Type 0
IsFull width t = length t.fields ≡ t.rows * width

-- a source's name, its columns and their number, and the fields of its table are less than 2^32 long
pub record IsShortTable (name : List ℕ) (columns : List (List ℕ)) (t : Table) : Type 0 where
  pub source : IsShort name
  pub labels : All IsShort columns
  pub width : length columns < 2 ^ 32
  pub texts : All IsShort t.fields
