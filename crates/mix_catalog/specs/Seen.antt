-- The source of a line, as it is found: the words before FILE, the label that is seen there, and what stands after it.
use Rattle.std.specs.Prelude.{ℕ, cond, List, [], ◌∷◌, Option, Some, None, option_map, option_and_then, take, drop}
use Rattle.mix_tree.specs.LabelMachine.{Seen, got, unexpected, ends, start, seen_from}
use Rattle.mix_words.specs.Words.{words_of, ends_word}
use Rattle.mix_catalog.specs.declared.form.Cutting.{Cutting}
use Rattle.mix_catalog.specs.declared.form.Form.{Form}
use Rattle.mix_catalog.specs.declared.form.Form.TheVariants as form
use Rattle.mix_catalog.specs.declared.form.Prefix.{Prefix}
use Rattle.mix_catalog.specs.declared.remote.RemoteAfter.{RemoteAfter}
use Rattle.mix_catalog.specs.declared.source.SourceSpec.{SourceSpec}
use Rattle.mix_catalog.specs.declared.table.TableAfter.{TableAfter}
use Rattle.mix_catalog.specs.declared.source.SourceKind.TheVariants.{Bracket, Csv, Table, Remote, Json, View}
use Rattle.mix_catalog.specs.Columns.{columns_at}
use Rattle.mix_catalog.specs.Columns as columns
use Rattle.mix_catalog.specs.Forms.{prefix_of, cutting_of, chunk_of, chunk_after, is_columns_word}
use Rattle.mix_catalog.specs.Remotes.{remote_of}
use Rattle.mix_catalog.specs.Tables.{table_of}
use Rattle.mix_words.specs.Places.{place_of_word}

-- the bracket source of a name, a file and a cutting
abbrev pub bracket : List ℕ → List ℕ → Cutting → SourceSpec
bracket name file cutting = record { name = name; chunk = cutting.chunk; kind = Bracket file cutting.deep }

-- the CSV source of a name, a file, columns and a chunk
abbrev pub csv : List ℕ → List ℕ → List (List ℕ) → ℕ → SourceSpec
csv name file labels chunk = record { name = name; chunk = chunk; kind = Csv file labels }

-- the table source of a name, a file, and what stands after the file
abbrev pub table : List ℕ → List ℕ → TableAfter → SourceSpec
table name file t = record { name = name; chunk = t.chunk; kind = Table file t.table t.key t.columns }

-- the remote source of a name, a file of replies, and what stands after that file
abbrev pub remote : List ℕ → List ℕ → RemoteAfter → SourceSpec
remote name replies r = record { name = name; chunk = 1; kind = Remote replies r.requests r.number }

-- the JSON source of a name, a file and a chunk
abbrev pub json : List ℕ → List ℕ → ℕ → SourceSpec
json name file chunk = record { name = name; chunk = chunk; kind = Json file }

-- the view of a name and a file, where no words stand after the file
abbrev pub view : List ℕ → List ℕ → List (List ℕ) → Option SourceSpec
view name file [] = Some (record { name = name; chunk = 1; kind = View file })
view name file (word ∷ words) = None

-- the CSV source of what is seen of its columns
abbrev pub columns_seen : List ℕ → List ℕ → Option columns.Seen → Option SourceSpec
columns_seen name file None = None
columns_seen name file (Some seen) = option_map (csv name file seen.labels) (chunk_after seen.after)

-- the CSV source whose columns begin at a place after its file
abbrev pub csv_at : List ℕ → List ℕ → List ℕ → ℕ → Option SourceSpec
csv_at name file after at = cond (is_columns_word (words_of (take at after))) (columns_seen name file (columns_at after at)) None

-- the source of a form, of what stands after its file
abbrev pub form_after : Form → List ℕ → List ℕ → List ℕ → Option SourceSpec
form_after form.Bracket name file after = option_map (bracket name file) (cutting_of (words_of after))
form_after form.Csv name file after = option_and_then (csv_at name file after) (place_of_word 1 after)
form_after form.Table name file after = option_map (table name file) (table_of (words_of after))
form_after form.Remote name file after = option_map (remote name file) (remote_of after)
form_after form.Json name file after = option_map (json name file) (chunk_of (words_of after))
form_after form.View name file after = view name file (words_of after)

-- the source of what stands before its file, of the file, and of what stands after it
abbrev pub source_after : Prefix → List ℕ → List ℕ → Option SourceSpec
source_after prefix file after = cond (ends_word after) (form_after prefix.form prefix.name file after) None

-- the source of what stands before FILE, and of what is seen there
abbrev pub source_seen : Option Prefix → Seen → Option SourceSpec
source_seen None seen = None
source_seen (Some prefix) (got file end after) = source_after prefix file after
source_seen (Some prefix) (unexpected at) = None
source_seen (Some prefix) ends = None

-- the source of a line whose FILE begins at a place
abbrev pub source_at : List ℕ → ℕ → Option SourceSpec
source_at line at = source_seen (prefix_of (words_of (take at line))) (seen_from start at (drop at line))

-- the source of a line
abbrev pub line_source : List ℕ → Option SourceSpec
line_source line = option_and_then (source_at line) (place_of_word 3 line)
