-- The lines that are written.
use Rattle.std.specs.Prelude.{ℕ, List, [], ◌∷◌, ◌++◌, codes}
use Rattle.std.specs.List.{flat_map}
use Rattle.mix_tree.specs.Spelling.{spelling}
use Rattle.mix_catalog.specs.declared.column.Column.{Column}
use Rattle.mix_catalog.specs.Tables.{mark}
use Rattle.catalog_draft.specs.declared.reasons.Unsaid.{Unsaid}
use Rattle.catalog_draft.specs.Names.{source_name}
use Rattle.catalog_draft.specs.Reasons.{reason_text}

-- columns in a line, each as it is spelled, with a comma between each two
abbrev pub listed : {C : Type 0} → (C → List ℕ) → List C → List ℕ
listed spelled [] = []
listed spelled (c ∷ cs) = spelled c ++ flat_map (λ d. 44 ∷ spelled d) cs

-- a column of a table in a line: its name, and the mark of one that is never NULL
abbrev pub marked : Column → List ℕ
marked c = c.name ++ mark c.never_null

-- what stands at the end of each line that says a source: 100 rows are given at a time
abbrev pub line_end : List ℕ
line_end = codes " chunk 100"

-- the line of a CSV file with columns
abbrev pub csv_line : List ℕ → List (List ℕ) → List ℕ
csv_line path columns =
    codes "source " ++ source_name path ++ codes " csv " ++ spelling path ++ codes " columns " ++ listed spelling columns ++ line_end

-- the line of a table of a file with a key and columns, whose source has the table's name
abbrev pub table_line : List ℕ → List ℕ → List ℕ → List Column → List ℕ
table_line path name key columns =
    codes "source " ++ name ++ codes " table " ++ spelling path ++ codes " " ++ name ++ codes " key " ++ key ++ codes " columns " ++ listed marked columns
    ++ line_end

-- the line that says why no line says a CSV file
abbrev pub file_note : List ℕ → Unsaid → List ℕ
file_note path why = codes "# " ++ spelling path ++ codes ": " ++ reason_text why

-- the line that says why no line says a table
abbrev pub table_note : List ℕ → Unsaid → List ℕ
table_note name why = codes "# table " ++ spelling name ++ codes ": " ++ reason_text why

-- the line that says that a column of a table is left out
abbrev pub column_note : List ℕ → List ℕ → List ℕ
column_note table column = codes "# table " ++ spelling table ++ codes ": " ++ spelling column ++ codes " is no column's name that a catalog can say"

-- the text of lines, each with LF at its end
abbrev pub text_of : List (List ℕ) → List ℕ
text_of lines = flat_map (λ line. line ++ 10 ∷ []) lines
