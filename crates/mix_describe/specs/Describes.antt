-- What describing a file comes to.
use Rattle.std.specs.Prelude.{◌≡◌, ◌⊎◌, ℕ, true, false, List, ◌++◌, IfSome, codes}
use Rattle.mix_base.specs.Counts.{HasRisen}
use Rattle.mix_io.specs.Views.{FilesView}
use Rattle.csv_wrap.specs.declared.fault.CsvFault.{CsvFault}
use Rattle.schema_keep.specs.Views.{SchemasView}
use Rattle.schema_keep.specs.declared.shape.TableShape.{TableShape}
use Rattle.catalog_draft.specs.Header.{SaysCsv, LacksHeader}
use Rattle.catalog_draft.specs.Tables.{tables_text}
use Rattle.mix_place.specs.declared.refusal.FileFault.{FileFault}
use Rattle.mix_place.specs.declared.refusal.FileFault.TheVariants.{Unread, TooLong, Csv}
use Rattle.mix_place.specs.Causes.{IsRead, IsRefusalLine, IsTooLong, status_of}
use Rattle.mix_describe.specs.Kinds.{IsDatabase, begins_as_database}

-- a status and a line refuse a file for a fault
abbrev pub Refuses : List ℕ → FileFault → ℕ → List ℕ → Type 0
Refuses path fault status line = (status ≡ status_of fault) × IsRefusalLine path fault line

-- a text that has no record is refused as a CSV file, for a fault that says so
abbrev pub RefusesText : List ℕ → List ℕ → ℕ → List ℕ → Type 0
RefusesText path text status line = (e : CsvFault) × LacksHeader text e × Refuses path (Csv e) status line

-- what describing a text as a CSV file comes to: it is refused, or lines describe it
abbrev pub DescribesCsv : List ℕ → List ℕ → ℕ → List ℕ → Type 0
DescribesCsv path text status lines = RefusesText path text status lines ⊎ ((status ≡ 0) × SaysCsv path text lines)

-- a file is no database: it was read whole, and its text is described as a CSV file
pub record DescribesFile (files : FilesView) (path : List ℕ) (status : ℕ) (lines : List ℕ) : Type 0 where
  pub text : List ℕ
  pub read : IsRead files path text
  pub none : begins_as_database text ≡ false
  pub csv : DescribesCsv path text status lines

-- a file is no database, and is longer than a file that is read whole may be
pub record RefusesLong (old new : FilesView) (path : List ℕ) (status : ℕ) (lines : List ℕ) : Type 0 where
  pub cause : IsTooLong old new path
  pub none : IsDatabase old path false
  pub refused : Refuses path TooLong status lines

-- a file could not be read
pub record RefusesUnread (old new : FilesView) (path : List ℕ) (status : ℕ) (lines : List ℕ) : Type 0 where
  pub cause : HasRisen (old.faults path) (new.faults path)
  pub refused : Refuses path Unread status lines

-- schemas told the tables of a database, and lines are the text that describes these
pub record SaysTables (schemas : SchemasView) (path : List ℕ) (status : ℕ) (lines : List ℕ) : Type 0 where
  pub tables : List TableShape
  pub told : IfSome (schemas.told path) (λ told. tables ≡ told)
  pub status_is : status ≡ 0
  pub says : lines ≡ tables_text path tables

-- a status and a line refuse a database for a reason in words
abbrev pub RefusesSchema : List ℕ → List ℕ → ℕ → List ℕ → Type 0
RefusesSchema path why status line = (status ≡ 3) × (line ≡ path ++ codes ": " ++ why ++ codes "\n")

-- the tables of a database could not be told, and it is refused for a reason in words
pub record RefusesTables (before after : SchemasView) (path : List ℕ) (status : ℕ) (lines : List ℕ) : Type 0 where
  pub cause : HasRisen (before.faults path) (after.faults path)
  pub why : List ℕ
  pub refused : RefusesSchema path why status lines

-- what describing the tables of a database comes to: it is refused, or lines describe them
abbrev pub DescribesTables : SchemasView → SchemasView → List ℕ → ℕ → List ℕ → Type 0
DescribesTables before after path status lines = RefusesTables before after path status lines ⊎ SaysTables before path status lines

-- what describing a file comes to that is read whole: it can't be read, it is too long, or its text is described
abbrev pub DescribesWhole : FilesView → FilesView → List ℕ → ℕ → List ℕ → Type 0
DescribesWhole old new path status lines =
    RefusesUnread old new path status lines ⊎ (RefusesLong old new path status lines ⊎ DescribesFile old path status lines)

-- what `describe` comes to: the file begins as a database does, and its tables are described, or it is read whole
abbrev pub Describes : FilesView → FilesView → SchemasView → SchemasView → List ℕ → ℕ → List ℕ → Type 0
Describes old new before after path status lines =
    (IsDatabase old path true × DescribesTables before after path status lines) ⊎ DescribesWhole old new path status lines
