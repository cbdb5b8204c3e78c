-- A table in a line: its name, its key and its columns, which are SQL names.
use Rattle.std.specs.Prelude.{◌≡◌, ℕ, ◌-◌, Bool, true, false, cond, ◌&&◌, ◌==◌, IsTrue, List, [], ◌∷◌, ◌++◌, length, take, get_or, Option, Some, None, option_map, option_and_then, codes}
use Rattle.std.specs.List.{slice_split}
use Rattle.std.specs.Str.{bytes_eq}
use Rattle.mix_words.specs.Words.{is_sql_name}
use Rattle.mix_catalog.specs.declared.column.Column.{Column}
use Rattle.mix_catalog.specs.declared.table.TableAfter.{TableAfter}
use Rattle.mix_catalog.specs.Columns.{SpellsEach}
use Rattle.mix_catalog.specs.Forms.{chunk_of}

-- the mark of a column that is never NULL
abbrev pub mark : Bool → List ℕ
mark never_null = cond never_null (codes "!") []

-- the text spells the column: its name, and the mark at once after it
abbrev pub SpellsColumn : List ℕ → Column → Type 0
SpellsColumn x c = IsTrue (is_sql_name c.name) × (x ≡ c.name ++ mark c.never_null)

-- the text spells one or more columns of a table
abbrev pub SpellsTableColumns : List Column → List ℕ → Type 0
SpellsTableColumns columns x = SpellsEach SpellsColumn columns x

-- the column of a name, if it is one
abbrev pub column_named : List ℕ → Bool → Option Column
column_named name never_null = cond (is_sql_name name) (Some (record { name = name; never_null = never_null })) None

-- the column of a piece, whose last byte may be the mark
abbrev pub column_of : List ℕ → Option Column
column_of piece = cond (get_or piece (length piece - 1) 0 == 33) (column_named (take (length piece - 1) piece) true) (column_named piece false)

-- the columns of pieces, after others
abbrev pub columns_after : List Column → List (List ℕ) → Option (List Column)
columns_after done [] = Some done
columns_after done (piece ∷ pieces) = option_and_then (λ c. columns_after (done ++ c ∷ []) pieces) (column_of piece)

-- the columns that a word spells
abbrev pub columns_in : List ℕ → Option (List Column)
columns_in word = columns_after [] (slice_split (λ b. b == 44) word)

-- a table of this name, key and columns, and a chunk
abbrev pub table_with : List ℕ → List ℕ → List Column → ℕ → TableAfter
table_with table key columns chunk = record { table = table; key = key; columns = columns; chunk = chunk }

-- the table of two names, of the word of its columns, and of the words after these
abbrev pub table_form : List ℕ → List ℕ → List ℕ → List (List ℕ) → Option TableAfter
table_form table key columns words = cond (is_sql_name table && is_sql_name key) (option_and_then (λ cs. option_map (table_with table key cs) (chunk_of words)) (columns_in columns)) None

-- the table of a name, key and a name, columns and their word, chunk and a number
abbrev pub table_of : List (List ℕ) → Option TableAfter
table_of [] = None
table_of (a ∷ []) = None
table_of (a ∷ b ∷ []) = None
table_of (a ∷ b ∷ c ∷ []) = None
table_of (a ∷ b ∷ c ∷ d ∷ []) = None
table_of (table ∷ says_key ∷ key ∷ says_columns ∷ columns ∷ words) =
    cond (bytes_eq says_key (codes "key") && bytes_eq says_columns (codes "columns")) (table_form table key columns words) None
