-- Which line spells which source.
use Rattle.std.specs.Prelude.{◌≡◌, ◌≤◌, ℕ, Bool, true, false, cond, IsTrue, List, [], ◌∷◌, ◌++◌, length, map, codes, IsUtf8}
use Rattle.std.specs.List.{list_all}
use Rattle.std.specs.Str.Parse.{digits_value}
use Rattle.mix_tree.specs.Names.{IsName}
use Rattle.mix_tree.specs.LabelOrder.{is_digit}
use Rattle.mix_tree.specs.LabelGrammar.{SpellsLabel}
use Rattle.mix_words.specs.Words.{words_of, ends_word, is_sql_name}
use Rattle.mix_catalog.specs.declared.column.Column.{Column}
use Rattle.mix_catalog.specs.declared.source.SourceSpec.{SourceSpec}
use Rattle.mix_catalog.specs.declared.source.SourceKind.{SourceKind}
use Rattle.mix_catalog.specs.declared.source.SourceKind.TheVariants.{Bracket, Csv, Table, Remote, Json, View}
use Rattle.mix_catalog.specs.declared.form.Form.{Form}
use Rattle.mix_catalog.specs.declared.form.Form.TheVariants as form
use Rattle.mix_catalog.specs.Columns.{SpellsColumns}
use Rattle.mix_catalog.specs.Tables.{SpellsTableColumns}
use Rattle.mix_words.specs.Places.{ends_blank}

-- 1 to 9 digits write the number; they may begin with zeros
pub record IsNumber (word : List ℕ) (n : ℕ) : Type 0 where
  pub digits : IsTrue (list_all is_digit word)
  pub some : 1 ≤ length word
  pub short : length word ≤ 9
  pub means : digits_value 10 word ≡ n

-- the words of a chunk, which is deep or not
abbrev pub cutting_words : List ℕ → Bool → List (List ℕ)
cutting_words digits deep = codes "chunk" ∷ digits ∷ cond deep (codes "deep" ∷ []) []

-- chunk, a number, and deep or not
pub record SpellsCutting (chunk : ℕ) (deep : Bool) (text : List ℕ) : Type 0 where
  pub digits : List ℕ
  pub words : words_of text ≡ cutting_words digits deep
  pub numbered : IsNumber digits chunk

-- words, a spelling with blanks on both sides, and what stands after it
pub record SpellsBetween (words : List (List ℕ)) (Spelled After : List ℕ → Type 0) (text : List ℕ) : Type 0 where
  pub prefix : List ℕ
  pub spelling : List ℕ
  pub after : List ℕ
  pub parts : text ≡ prefix ++ (spelling ++ after)
  pub words_are : words_of prefix ≡ words
  pub blank_before : IsTrue (ends_blank true prefix)
  pub spelled : Spelled spelling
  pub blank_after : IsTrue (ends_word after)
  pub rest : After after

-- the words of a table: its name, key and a name, columns and these, chunk and a number
abbrev pub table_words : List ℕ → List ℕ → List ℕ → List ℕ → List (List ℕ)
table_words table key columns digits = table ∷ codes "key" ∷ key ∷ codes "columns" ∷ columns ∷ cutting_words digits false

-- words are those after the file of a table, and the names in them are SQL names
pub record AreTableWords (chunk : ℕ) (table key : List ℕ) (columns : List Column) (words : List (List ℕ)) : Type 0 where
  pub spelling : List ℕ
  pub digits : List ℕ
  pub are : words ≡ table_words table key spelling digits
  pub table_named : IsTrue (is_sql_name table)
  pub key_named : IsTrue (is_sql_name key)
  pub spelled : SpellsTableColumns columns spelling
  pub numbered : IsNumber digits chunk

-- one word of digits that write the number
pub record SpellsNumber (number : ℕ) (text : List ℕ) : Type 0 where
  pub digits : List ℕ
  pub words : words_of text ≡ digits ∷ []
  pub numbered : IsNumber digits number

-- the form of a source
abbrev pub form_in : SourceKind → Form
form_in (Bracket file deep) = form.Bracket
form_in (Csv file columns) = form.Csv
form_in (Table file table key columns) = form.Table
form_in (Remote replies requests number) = form.Remote
form_in (Json file) = form.Json
form_in (View file) = form.View

-- the word of a form
abbrev pub form_word : Form → List ℕ
form_word form.Bracket = codes "bracket"
form_word form.Csv = codes "csv"
form_word form.Table = codes "table"
form_word form.Remote = codes "remote"
form_word form.Json = codes "json"
form_word form.View = codes "view"

-- the file of a source; of a remote one, the file of its replies
abbrev pub file_of : SourceKind → List ℕ
file_of (Bracket file deep) = file
file_of (Csv file columns) = file
file_of (Table file table key columns) = file
file_of (Remote replies requests number) = replies
file_of (Json file) = file
file_of (View file) = file

-- whether a source is a view
abbrev pub is_view : SourceKind → Bool
is_view (Bracket file deep) = false
is_view (Csv file columns) = false
is_view (Table file table key columns) = false
is_view (Remote replies requests number) = false
is_view (Json file) = false
is_view (View file) = true

-- the names of the columns of a source
abbrev pub columns_of : SourceKind → List (List ℕ)
columns_of (Bracket file deep) = []
columns_of (Csv file columns) = columns
columns_of (Table file table key columns) = map (λ (c : Column). c.name) columns
columns_of (Remote replies requests number) = []
columns_of (Json file) = []
columns_of (View file) = []

-- what stands after the file: a bracket source's cutting; a CSV source's columns, and its chunk; a table, and its chunk; a remote source's requests and number, its chunk being 1;
-- a JSON file's chunk; nothing after the file of a view, whose chunk is 1
abbrev pub SpellsAfter : ℕ → SourceKind → List ℕ → Type 0
SpellsAfter chunk (Bracket file deep) text = SpellsCutting chunk deep text
SpellsAfter chunk (Csv file columns) text = SpellsBetween (codes "columns" ∷ []) (SpellsColumns columns) (SpellsCutting chunk false) text
SpellsAfter chunk (Table file table key columns) text = AreTableWords chunk table key columns (words_of text)
SpellsAfter chunk (Remote replies requests number) text = (chunk ≡ 1) × SpellsBetween [] (λ x. SpellsLabel x requests) (SpellsNumber number) text
SpellsAfter chunk (Json file) text = SpellsCutting chunk false text
SpellsAfter chunk (View file) text = (chunk ≡ 1) × (words_of text ≡ [])

-- the words before the file
abbrev pub prefix_words : List ℕ → Form → List (List ℕ)
prefix_words name form = codes "source" ∷ name ∷ form_word form ∷ []

-- source, the name, the word of a form, the file, and what the form has after it
abbrev pub SpellsKind : List ℕ → ℕ → SourceKind → List ℕ → Type 0
SpellsKind name chunk kind line = IsName name × SpellsBetween (prefix_words name (form_in kind)) (λ x. SpellsLabel x (file_of kind)) (SpellsAfter chunk kind) line

-- the line spells the source
abbrev pub Spells : List ℕ → SourceSpec → Type 0
Spells line s = IsUtf8 line × SpellsKind s.name s.chunk s.kind line

-- the line fits no form
abbrev pub SpellsNone : List ℕ → Type 0
SpellsNone line = (s : SourceSpec) → Spells line s → ⊥
