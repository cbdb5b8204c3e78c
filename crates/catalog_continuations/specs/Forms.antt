-- The forms of a catalog's line, word by word.
use Rattle.std.specs.Prelude.{List, [], ◌∷◌}
use Rattle.catalog_continuations.specs.declared.form_word.FormWord.{FormWord}
use Rattle.catalog_continuations.specs.declared.form_word.FormWord.TheVariants as word
use Rattle.catalog_continuations.specs.declared.line_form.LineForm.{LineForm}
use Rattle.catalog_continuations.specs.declared.line_form.LineForm.TheVariants.{DeepBracket, Bracket, Csv, Table, Remote, Json, View}

-- the words of a form, in order
abbrev pub words_in : LineForm → List FormWord
words_in DeepBracket = word.Source ∷ word.Name ∷ word.Bracket ∷ word.File ∷ word.Chunk ∷ word.Number ∷ word.Deep ∷ []
words_in Bracket = word.Source ∷ word.Name ∷ word.Bracket ∷ word.File ∷ word.Chunk ∷ word.Number ∷ []
words_in Csv = word.Source ∷ word.Name ∷ word.Csv ∷ word.File ∷ word.ColumnsWord ∷ word.Columns ∷ word.Chunk ∷ word.Number ∷ []
words_in Table =
    word.Source ∷ word.Name ∷ word.Table ∷ word.File ∷ word.TableName
    ∷ word.KeyWord ∷ word.Key ∷ word.ColumnsWord ∷ word.TableColumns ∷ word.Chunk ∷ word.Number ∷ []
words_in Remote = word.Source ∷ word.Name ∷ word.Remote ∷ word.File ∷ word.Requests ∷ word.Number ∷ []
words_in Json = word.Source ∷ word.Name ∷ word.Json ∷ word.File ∷ word.Chunk ∷ word.Number ∷ []
words_in View = word.Source ∷ word.Name ∷ word.View ∷ word.File ∷ []

-- the word that names a form, the third of a line
abbrev pub word_of : LineForm → FormWord
word_of DeepBracket = word.Bracket
word_of Bracket = word.Bracket
word_of Csv = word.Csv
word_of Table = word.Table
word_of Remote = word.Remote
word_of Json = word.Json
word_of View = word.View
