-- What is written of the tables of a schema.
use Rattle.std.specs.Prelude.{ℕ, Bool, cond, not, List, [], ◌∷◌, ◌++◌, map, Option, Some, None, Result, Ok, Err}
use Rattle.std.specs.List.{filter, find}
use Rattle.mix_words.specs.Words.{is_sql_name}
use Rattle.mix_catalog.specs.declared.column.Column.{Column}
use Rattle.mix_catalog.specs.declared.source.SourceKind.TheVariants.{Table}
use Rattle.mix_catalog.specs.declared.source.SourceSpec.{SourceSpec}
use Rattle.schema_keep.specs.declared.shape.TableShape.{TableShape}
use Rattle.catalog_draft.specs.declared.reasons.Unsaid.{Unsaid}
use Rattle.catalog_draft.specs.declared.reasons.Unsaid.TheVariants.{NotRead, Name, Key}
use Rattle.catalog_draft.specs.Lines.{column_note, table_line, table_note, text_of}
use Rattle.catalog_draft.specs.Reasons.{unsaid_of}

-- whether a catalog can name a column of a table
abbrev pub can_name : Column → Bool
can_name c = is_sql_name c.name

-- the columns of a table that a catalog can name
abbrev pub named : TableShape → List Column
named t = filter can_name t.columns

-- the columns of a table that no catalog can name
abbrev pub unnamed : TableShape → List Column
unnamed t = filter (λ c. not (can_name c)) t.columns

-- the source that a table of a file is to be, by a key
abbrev pub table_source : List ℕ → TableShape → List ℕ → SourceSpec
table_source path t key = record { name = t.name; chunk = 100; kind = Table path t.name key (named t) }

-- a key, or why the source by it can't stand where it is to
abbrev pub unless_unsaid : List ℕ → Option Unsaid → Result (List ℕ) Unsaid
unless_unsaid key None = Ok key
unless_unsaid key (Some why) = Err why

-- a key, or why there is none
abbrev pub or_no_key : Option (List ℕ) → Result (List ℕ) Unsaid
or_no_key None = Err Key
or_no_key (Some key) = Ok key

-- the key of a table: the first name of a row's number that a catalog can say; or why no catalog can say the table
abbrev pub key_of : TableShape → Result (List ℕ) Unsaid
key_of t = cond t.is_read (cond (is_sql_name t.name) (or_no_key (find is_sql_name t.keys)) (Err Name)) (Err NotRead)

-- the key of a table in a line after others, or why there is no such line, by its key
abbrev pub keyed : List ℕ → List SourceSpec → TableShape → Result (List ℕ) Unsaid → Result (List ℕ) Unsaid
keyed path before t (Ok key) = unless_unsaid key (unsaid_of before (table_source path t key))
keyed path before t (Err why) = Err why

-- the key of a table in a line after others, or why there is no such line
abbrev pub draft : List ℕ → List SourceSpec → TableShape → Result (List ℕ) Unsaid
draft path before t = keyed path before t (key_of t)

-- the lines for a table: one for each column that is left out and then the table's, or the line that says why there is none
abbrev pub lines_for : List ℕ → TableShape → Result (List ℕ) Unsaid → List (List ℕ)
lines_for path t (Ok key) = map (λ c. column_note t.name c.name) (unnamed t) ++ table_line path t.name key (named t) ∷ []
lines_for path t (Err why) = table_note t.name why ∷ []

-- the sources after a table
abbrev pub sources_after : List ℕ → List SourceSpec → TableShape → Result (List ℕ) Unsaid → List SourceSpec
sources_after path before t (Ok key) = before ++ table_source path t key ∷ []
sources_after path before t (Err why) = before

-- the lines for tables of a file after the sources of others
abbrev pub tables_lines : List ℕ → List SourceSpec → List TableShape → List (List ℕ)
tables_lines path before [] = []
tables_lines path before (t ∷ ts) = lines_for path t (draft path before t) ++ tables_lines path (sources_after path before t (draft path before t)) ts

-- the sources that tables of a file are after others
abbrev pub tables_sources : List ℕ → List SourceSpec → List TableShape → List SourceSpec
tables_sources path before [] = before
tables_sources path before (t ∷ ts) = tables_sources path (sources_after path before t (draft path before t)) ts

-- the text for the tables of a file
abbrev pub tables_text : List ℕ → List TableShape → List ℕ
tables_text path tables = text_of (tables_lines path [] tables)
