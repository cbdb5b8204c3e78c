-- Rows given one after another.
use Rattle.std.proofs.Common.{◌≡◌, ℤ, List, [], ◌∷◌, ◌++◌, Option, Some, refl}
use Rattle.std.proofs.lemmas.List.{map-append}
use Rattle.table_keep.specs.declared.row.TableRow.{TableRow}
use Rattle.table_keep.specs.Rows.{Row, row_of, rows_of}
use Rattle.table_wrap.specs.Document.{last_key}

-- the last key of rows with one row more is that row's key
pub last_more : (after : Option ℤ) (rows : List Row) (r : Row) → last_key after (rows ++ r ∷ []) ≡ Some r.key
last_more after [] r = refl
last_more after (s ∷ rows) r = last_more (Some s.key) rows r

-- the plain rows of rows with one more are theirs, and that one's plain row
pub rows_of_more : (rows : List TableRow) (r : TableRow) → rows_of (rows ++ r ∷ []) ≡ rows_of rows ++ row_of r ∷ []
rows_of_more rows r = map-append row_of rows (r ∷ [])
