-- Rows of tables as plain values.
use Rattle.std.specs.Prelude.{ℕ, ℤ, List, map}
use Rattle.table_keep.specs.declared.row.Cell.{Cell}
use Rattle.table_keep.specs.declared.row.Cell.TheVariants as cell
use Rattle.table_keep.specs.declared.row.TableRow.{TableRow}

-- a value that a row has in a column: NULL, a number, a text or bytes
pub data Value : Type 0 where
  null : Value
  int : ℤ → Value
  text : List ℕ → Value
  bytes : List ℕ → Value

-- a row: its key, and a value for each column
pub record Row : Type 0 where
  pub key : ℤ
  pub values : List Value

-- the plain value of a cell of the code
abbrev pub value_of : Cell → Value
value_of cell.Null = null
value_of (cell.Int n) = int n
value_of (cell.Text t) = text t
value_of (cell.Bytes b) = bytes b.items

-- the plain row of a row of the code
abbrev pub row_of : TableRow → Row
row_of r = record { key = r.key; values = map value_of r.cells.items }

-- the plain rows of rows of the code
abbrev pub rows_of : List TableRow → List Row
rows_of rows = map row_of rows
