-- What a table in memory means.
use Rattle.std.specs.Prelude.{ℕ, ◌^◌, ◌&&◌, not, Bool, true, List, [], ◌∷◌, length, map, Option, Some, None, if◌then◌else◌, option_map, option_and_then, nat_lt, ◌==◌, slice_index_or}
use Rattle.std.specs.List.{find, list_all, position}
use Rattle.std.specs.Str.{bytes_eq}
use Rattle.mix_catalog.specs.declared.column.Column.{Column}
use Rattle.table_keep.specs.declared.mem_table.MemTable.{MemTable}
use Rattle.table_keep.specs.Page.{keys_rise}
use Rattle.table_keep.specs.Rows.{Value, null, int, text, bytes, Row, rows_of}
use Rattle.table_keep.specs.Views.{Declared}

-- whether a value has fewer than 2^31 bytes
abbrev pub is_short : Value → Bool
is_short null = true
is_short (int n) = true
is_short (text t) = nat_lt (length t) (2 ^ 31)
is_short (bytes b) = nat_lt (length b) (2 ^ 31)

-- whether a row has a given number of values, each of fewer than 2^31 bytes
abbrev pub is_row : ℕ → Row → Bool
is_row width r = (length r.values == width) && list_all is_short r.values

-- whether the keys of a table in memory rise, and each row has one value for each column, each of fewer than 2^31 bytes
abbrev pub is_sound : MemTable → Bool
is_sound t = keys_rise None (rows_of t.rows.items) && list_all (is_row (length t.columns.items)) (rows_of t.rows.items)

-- whether a table in memory stands in a given file under a given name
abbrev pub is_at : List ℕ → List ℕ → MemTable → Bool
is_at file table t = bytes_eq t.file file && bytes_eq t.table table

-- the place of a column among names
abbrev pub place_of : List (List ℕ) → Column → Option ℕ
place_of names c = position (bytes_eq c.name) names

-- the places of columns among names, where each stands there
abbrev pub places_of : List (List ℕ) → List Column → Option (List ℕ)
places_of names [] = Some []
places_of names (c ∷ cs) = option_and_then (λ p. option_map (λ (ps : List ℕ). p ∷ ps) (places_of names cs)) (place_of names c)

-- a row with its values at these places alone
abbrev pub projected : List ℕ → Row → Row
projected places r = record { key = r.key; values = map (λ p. slice_index_or r.values p null) places }

-- the rows of a table by a key, with these columns, where it has that key and each of them
abbrev pub rows_by : MemTable → List ℕ → List Column → Option (List Row)
rows_by t key columns =
    if bytes_eq t.key key then option_map (λ places. map (projected places) (rows_of t.rows.items)) (places_of t.columns.items columns) else None

-- the rows of a declared table that tables in memory tell: those of the first table of its file and name
abbrev pub rows_told : List MemTable → Declared → Option (List Row)
rows_told tables d = option_and_then (λ t. rows_by t d.key d.columns) (find (is_at d.file d.table) tables)

-- whether no value of a row is NULL in a column that is never NULL
abbrev pub keeps_null : List Column → List Value → Bool
keeps_null [] vs = true
keeps_null (c ∷ cs) [] = true
keeps_null (c ∷ cs) (null ∷ vs) = not c.never_null && keeps_null cs vs
keeps_null (c ∷ cs) (int n ∷ vs) = keeps_null cs vs
keeps_null (c ∷ cs) (text t ∷ vs) = keeps_null cs vs
keeps_null (c ∷ cs) (bytes b ∷ vs) = keeps_null cs vs

-- given rows, unless one of them has NULL in a column that is never NULL
abbrev pub unless_null : List Column → List Row → Option (List Row)
unless_null columns rows = if list_all (λ r. keeps_null columns r.values) rows then Some rows else None
