-- What is said of the sources that a plan reads, as they are today.
use Rattle.std.specs.Prelude.{◌≡◌, ◌⊎◌, ℕ, zero, suc, Bool, true, false, List, [], ◌++◌, length, Option, Some, None, slice_get, codes}
use Rattle.mix_base.specs.Counts.{HasRisen}
use Rattle.mix_catalog.specs.declared.source.SourceKind.{SourceKind}
use Rattle.mix_catalog.specs.declared.source.SourceKind.TheVariants.{Bracket, Csv, Table, Remote, Json, View}
use Rattle.mix_catalog.specs.declared.source.SourceSpec.{SourceSpec}
use Rattle.mix_catalog.specs.Grammar.{file_of}
use Rattle.mix_io.specs.Views.{FilesView, KeepsFiles}
use Rattle.mix_place.specs.Causes.{IsCause, IsRead, IsRefusalLine}
use Rattle.mix_place.specs.Documents.{StandsFor, StandsForNone}
use Rattle.mix_place.specs.declared.refusal.FileFault.{FileFault}
use Rattle.mix_tree.specs.Forest.{LabelledTree}
use Rattle.source_checks.specs.Beside.{IsBeside}
use Rattle.source_checks.specs.Words.{csv_columns, line_of, read_words, remote_words, size_words, unread_words, view_words}
use Rattle.table_keep.specs.Views.{Declared, KeepsTables, TablesView}

-- a file was read whole, its text stands for the document of a source, and lines say how many bytes it has
pub record IsSized (files : FilesView) (spec : SourceSpec) (lines : List ℕ) : Type 0 where
  pub text : List ℕ
  pub read : IsRead files (file_of spec.kind) text
  pub tree : LabelledTree
  pub stands : StandsFor spec.name spec.kind text tree
  pub lines_are : lines ≡ line_of spec (size_words (file_of spec.kind) (length text))

-- the file of a source is refused for a cause, and lines are those of its refusal, and what stands beside it
pub record IsUnfit (old new : FilesView) (spec : SourceSpec) (lines : List ℕ) : Type 0 where
  pub fault : FileFault
  pub cause : IsCause (StandsForNone spec.kind) old new (file_of spec.kind) fault
  pub line : List ℕ
  pub refusal : IsRefusalLine (file_of spec.kind) fault line
  pub words : List ℕ
  pub said : IsBeside old (file_of spec.kind) (csv_columns spec.kind) fault words
  pub lines_are : lines ≡ line_of spec line ++ words

-- lines say what the file of a source is: how large, or why it is refused
abbrev pub SaysFile : FilesView → FilesView → SourceSpec → List ℕ → Type 0
SaysFile old new spec lines = IsSized old spec lines ⊎ IsUnfit old new spec lines

-- lines say whether the declared table of a source gives a page: one was asked, or one failed, and only then a reason is said
abbrev pub SaysTable : Declared → SourceSpec → TablesView → TablesView → List ℕ → Type 0
SaysTable d spec old new lines =
    (HasRisen old.pages new.pages × (lines ≡ line_of spec read_words))
    ⊎ (HasRisen (old.faults d) (new.faults d) × (reason : List ℕ) × (lines ≡ line_of spec (unread_words reason)))

-- what files and tables mean at a moment
pub record Moment : Type 0 where
  pub files : FilesView
  pub tables : TablesView

-- a moment of given files and tables
abbrev pub moment : FilesView → TablesView → Moment
moment files tables = record { files = files; tables = tables }

-- from one moment to a later one files and tables keep what they hold, and no count of them falls
pub record Keeps (old new : Moment) : Type 0 where
  pub files : KeepsFiles old.files new.files
  pub tables : KeepsTables old.tables new.tables

-- lines say what a source of a kind is between two moments
abbrev pub SaysSource : SourceKind → SourceSpec → Moment → Moment → List ℕ → Type 0
SaysSource (Bracket file deep) spec old new lines = SaysFile old.files new.files spec lines
SaysSource (Csv file columns) spec old new lines = SaysFile old.files new.files spec lines
SaysSource (Table file table key columns) spec old new lines =
    SaysTable (record { file = file; table = table; key = key; columns = columns }) spec old.tables new.tables lines
SaysSource (Remote replies requests number) spec old new lines = lines ≡ line_of spec remote_words
SaysSource (Json file) spec old new lines = SaysFile old.files new.files spec lines
SaysSource (View file) spec old new lines = lines ≡ line_of spec view_words

-- lines say what a source is where it is chosen, and nothing where it isn't
abbrev pub SaysWhere : Bool → SourceSpec → Moment → Moment → List ℕ → Type 0
SaysWhere true spec old new lines = SaysSource spec.kind spec old new lines
SaysWhere false spec old new lines = lines ≡ []

-- lines say what a source is, where there is one and it is chosen
abbrev pub SaysAt : Bool → Option SourceSpec → Moment → Moment → List ℕ → Type 0
SaysAt chosen None old new lines = lines ≡ []
SaysAt chosen (Some spec) old new lines = SaysWhere chosen spec old new lines

-- below a heading, lines say what the chosen ones of the first n sources are, each between two moments after those of the source before it
abbrev pub SaysSources : (ℕ → Bool) → List SourceSpec → ℕ → Moment → Moment → List ℕ → Type 0
SaysSources chosen sources zero old new lines = lines ≡ codes "the sources as they are now:\n"
SaysSources chosen sources (suc n) old new lines =
    (mid : Moment) × Keeps old mid × Keeps mid new × (before : List ℕ) × SaysSources chosen sources n old mid before
    × (after : List ℕ) × SaysAt (chosen n) (slice_get sources n) mid new after × (lines ≡ before ++ after)

-- lines say what the chosen ones of all sources of a catalog are between two moments
abbrev pub SaysToday : (ℕ → Bool) → List SourceSpec → Moment → Moment → List ℕ → Type 0
SaysToday chosen sources = SaysSources chosen sources (length sources)
