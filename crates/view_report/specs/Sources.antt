-- How the sources of a plan are read, in words.
use Rattle.std.specs.Prelude.{ℕ, zero, suc, Bool, cond, List, [], ◌++◌, Option, Some, None, slice_get, codes}
use Rattle.mix_catalog.specs.declared.source.SourceKind.{SourceKind}
use Rattle.mix_catalog.specs.declared.source.SourceKind.TheVariants.{Bracket, Csv, Table, Remote, Json, View}
use Rattle.mix_catalog.specs.declared.source.SourceSpec.{SourceSpec}

-- how a source of a kind is read
abbrev pub reading_of : SourceKind → List ℕ
reading_of (Bracket file deep) = codes ": its file is read whole at the start\n"
reading_of (Csv file columns) = codes ": its file is read whole at the start\n"
reading_of (Table file table key columns) = codes ": its table is read by pages, as steps need rows\n"
reading_of (Remote replies requests number) = codes ": the other side is asked for pieces, as steps need them\n"
reading_of (Json file) = codes ": its file is read whole at the start\n"
reading_of (View file) = codes ": it is a view, of which a step asks no more than it needs\n"

-- the line that says how a source is read
abbrev pub reading_line : SourceSpec → List ℕ
reading_line spec = codes "source " ++ spec.name ++ reading_of spec.kind

-- the line that says how a source is read, where there is one
abbrev pub line_there : Option SourceSpec → List ℕ
line_there None = []
line_there (Some spec) = reading_line spec

-- the lines of the chosen ones of the first n sources
abbrev pub source_lines : (ℕ → Bool) → List SourceSpec → ℕ → List ℕ
source_lines chosen sources zero = []
source_lines chosen sources (suc n) = source_lines chosen sources n ++ cond (chosen n) (line_there (slice_get sources n)) []
