-- The words that are written of sources.
use Rattle.std.specs.Prelude.{ℕ, List, [], ◌++◌, Option, Some, None, slice_get, codes}
use Rattle.std.specs.Fmt.{decimal}
use Rattle.catalog_draft.specs.declared.field.HeaderField.{HeaderField}
use Rattle.catalog_draft.specs.declared.field.HeaderField.TheVariants.{Missing, NotUtf8, Named}
use Rattle.mix_catalog.specs.declared.source.SourceKind.{SourceKind}
use Rattle.mix_catalog.specs.declared.source.SourceKind.TheVariants.{Bracket, Csv, Table, Remote, Json, View}
use Rattle.mix_catalog.specs.declared.source.SourceSpec.{SourceSpec}
use Rattle.mix_tree.specs.Spelling.{spelling}

-- the line of a source with given words, which end it
abbrev pub line_of : SourceSpec → List ℕ → List ℕ
line_of spec words = codes "  " ++ spec.name ++ codes ": " ++ words

-- the words that say how many bytes a file has
abbrev pub size_words : List ℕ → ℕ → List ℕ
size_words path count = path ++ codes " has " ++ decimal count ++ codes " bytes\n"

-- the words of a table that gives a page
abbrev pub read_words : List ℕ
read_words = codes "a page of its table can be read\n"

-- the words of a table that gives no page, with a reason
abbrev pub unread_words : List ℕ → List ℕ
unread_words reason = codes "no page of its table can be read: " ++ reason ++ codes "\n"

-- the words of a source of another machine
abbrev pub remote_words : List ℕ
remote_words = codes "the other side is not asked here\n"

-- the words of a view
abbrev pub view_words : List ℕ
view_words = codes "it is a view, which is to be explained by itself\n"

-- the columns of a CSV source; of another none
abbrev pub csv_columns : SourceKind → List (List ℕ)
csv_columns (Bracket file deep) = []
csv_columns (Csv file columns) = columns
csv_columns (Table file table key columns) = []
csv_columns (Remote replies requests number) = []
csv_columns (Json file) = []
csv_columns (View file) = []

-- what is said of what a header has at a place
abbrev pub field_words : HeaderField → List ℕ
field_words Missing = codes "no column"
field_words NotUtf8 = codes "a name that is not UTF-8"
field_words (Named name) = spelling name

-- what is said of what a catalog has at a place
abbrev pub column_words : Option (List ℕ) → List ℕ
column_words None = codes "no column"
column_words (Some column) = spelling column

-- the line with both names at the place where a header differs from columns
abbrev pub names_line : HeaderField → List (List ℕ) → ℕ → List ℕ
names_line field columns at = codes "    there the file has " ++ field_words field ++ codes ", and the catalog " ++ column_words (slice_get columns at) ++ codes "\n"
