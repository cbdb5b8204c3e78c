-- What a page of a table is.
use Rattle.std.specs.Prelude.{◌≡◌, ◌≤◌, ◌^◌, ◌&&◌, ℕ, ℤ, Bool, true, false, not, List, [], ◌∷◌, length, take, Option, Some, None, nat_lt, int_lt}
use Rattle.std.specs.List.{filter, list_all}
use Rattle.mix_catalog.specs.declared.column.Column.{Column}
use Rattle.table_keep.specs.declared.page.PageAsk.{PageAsk}
use Rattle.table_keep.specs.Rows.{Value, null, int, text, bytes, Row}

-- whether a value may stand in a column: no NULL in one that is never NULL, and fewer than 2^31 bytes
abbrev pub fits : Column → Value → Bool
fits column null = not column.never_null
fits column (int n) = true
fits column (text t) = nat_lt (length t) (2 ^ 31)
fits column (bytes b) = nat_lt (length b) (2 ^ 31)

-- whether there is exactly one value for each column, which may stand there
abbrev pub cells_fit : List Column → List Value → Bool
cells_fit [] [] = true
cells_fit [] (v ∷ vs) = false
cells_fit (c ∷ cs) [] = false
cells_fit (c ∷ cs) (v ∷ vs) = fits c v && cells_fit cs vs

-- whether a row has exactly one value for each column, which may stand there
abbrev pub row_fits : List Column → Row → Bool
row_fits columns r = cells_fit columns r.values

-- whether each of some rows has exactly one value for each column, which may stand there
abbrev pub all_fit : List Column → List Row → Bool
all_fit columns rows = list_all (row_fits columns) rows

-- whether a key is greater than another, where another is given
abbrev pub is_above : Option ℤ → ℤ → Bool
is_above None k = true
is_above (Some least) k = int_lt least k

-- whether the keys of rows rise, the first of them above a given key
abbrev pub keys_rise : Option ℤ → List Row → Bool
keys_rise after [] = true
keys_rise after (r ∷ rows) = is_above after r.key && keys_rise (Some r.key) rows

-- of rows by rising key the first ones above a key, at most a given number
abbrev pub first_above : Option ℤ → ℕ → List Row → List Row
first_above after limit rows = take limit (filter (λ r. is_above after r.key) rows)

-- rows are a page: their keys rise from above a key on, they are at most a given number, and each has one value for each column, which may stand there
pub record IsPageOf (after : Option ℤ) (limit : ℕ) (columns : List Column) (rows : List Row) : Type 0 where
  pub rise : keys_rise after rows ≡ true
  pub few : length rows ≤ limit
  pub cells : all_fit columns rows ≡ true

-- rows are a page as it was asked for
abbrev pub IsPage : PageAsk → List Row → Type 0
IsPage ask rows = IsPageOf ask.after ask.limit ask.columns.now rows
