-- The words of which the forms of a catalog's line are made.
use Rattle.std.specs.Prelude.{ℕ, List, [], codes}
use Rattle.catalog_continuations.specs.declared.form_word.FormWord.{FormWord}
use Rattle.catalog_continuations.specs.declared.form_word.FormWord.TheVariants.{Source, Name, Bracket, Csv, Table, Remote, Json, View, File, Requests, TableName, KeyWord, Key, ColumnsWord, Columns, TableColumns, Chunk, Number, Deep, End}

-- a spelling of a word; that of the end is empty
abbrev pub spelling_of : FormWord → List ℕ
spelling_of Source = codes "source"
spelling_of Name = codes "x"
spelling_of Bracket = codes "bracket"
spelling_of Csv = codes "csv"
spelling_of Table = codes "table"
spelling_of Remote = codes "remote"
spelling_of Json = codes "json"
spelling_of View = codes "view"
spelling_of File = codes "f"
spelling_of Requests = codes "g"
spelling_of TableName = codes "t"
spelling_of KeyWord = codes "key"
spelling_of Key = codes "k"
spelling_of ColumnsWord = codes "columns"
spelling_of Columns = codes "a"
spelling_of TableColumns = codes "a"
spelling_of Chunk = codes "chunk"
spelling_of Number = codes "1"
spelling_of Deep = codes "deep"
spelling_of End = []

-- the name of a word, as it is written for people
abbrev pub name_of : FormWord → List ℕ
name_of Source = codes "source"
name_of Name = codes "a name for the source"
name_of Bracket = codes "bracket"
name_of Csv = codes "csv"
name_of Table = codes "table"
name_of Remote = codes "remote"
name_of Json = codes "json"
name_of View = codes "view"
name_of File = codes "a file"
name_of Requests = codes "the file of requests"
name_of TableName = codes "the name of a table"
name_of KeyWord = codes "key"
name_of Key = codes "the name of the key"
name_of ColumnsWord = codes "columns"
name_of Columns = codes "the names of columns, with commas and no blanks between them"
name_of TableColumns = codes "the names of columns, with commas and no blanks between them"
name_of Chunk = codes "chunk"
name_of Number = codes "a number"
name_of Deep = codes "deep"
name_of End = codes "the end of the line"
