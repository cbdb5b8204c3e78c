-- Why a file is refused, and what is said of it.
use Rattle.std.specs.Prelude.{◌≡◌, ◌≢◌, ℕ, ◌<◌, ◌≤◌, List, ◌++◌, length, Err, IfSome, codes}
use Rattle.std.specs.Fmt.{decimal}
use Rattle.mix_base.specs.Counts.{HasRisen}
use Rattle.mix_io.specs.Views.{FilesView}
use Rattle.bracket_text.specs.Results.{Refuses}
use Rattle.bracket_text.specs.Said as bracket_said
use Rattle.bracket_text.specs.declared.fault.BracketFault.{BracketFault}
use Rattle.bracket_text.specs.declared.fault.BracketFault.TheVariants as bracket
use Rattle.csv_wrap.specs.Csv.{Explains}
use Rattle.csv_wrap.specs.Said as csv_said
use Rattle.csv_wrap.specs.declared.fault.CsvFault.{CsvFault}
use Rattle.csv_wrap.specs.declared.fault.CsvFault.TheVariants as csv
use Rattle.json_text.specs.Answers.{Refuses as RefusesJson}
use Rattle.json_text.specs.Said as json_said
use Rattle.json_text.specs.declared.fault.JsonFault.{JsonFault}
use Rattle.json_text.specs.declared.fault.JsonFault.TheVariants as json
use Rattle.mix_script.specs.Steps.{steps_of}
use Rattle.mix_script.specs.declared.step.Forms.{Forms}
use Rattle.mix_script.specs.declared.script.ScriptFault.{ScriptFault}
use Rattle.mix_script.specs.declared.script.ScriptFault.TheVariants as script
use Rattle.mix_catalog.specs.Sources.{Refuses as RefusesCatalog}
use Rattle.mix_catalog.specs.declared.fault.CatalogFault.{CatalogFault}
use Rattle.mix_catalog.specs.declared.fault.CatalogFault.TheVariants as catalog
use Rattle.mix_catalog.specs.declared.source.SourceSpec.{SourceSpec}
use Rattle.plan_read.specs.Results.{Refuses as RefusesPlan}
use Rattle.plan_read.specs.declared.fault.PlanFault.{PlanFault}
use Rattle.plan_read.specs.declared.fault.PlanFault.TheVariants as plan
use Rattle.xmas_read.specs.Results.{Refuses as RefusesRule}
use Rattle.xmas_read.specs.declared.fault.Large.{Large}
use Rattle.xmas_read.specs.declared.fault.Large.TheVariants as large
use Rattle.xmas_read.specs.declared.fault.XmasFault.{XmasFault}
use Rattle.xmas_read.specs.declared.fault.XmasFault.TheVariants as rule
use Rattle.mix_place.specs.declared.refusal.FileFault.{FileFault}
use Rattle.mix_place.specs.declared.refusal.FileFault.TheVariants.{Unread, TooLong, Document, Csv, Json, Catalog, Script, View, Plan}

-- a text is what was read of a file: all of it, and no longer than the limit of 67,108,864 bytes
pub record IsRead (files : FilesView) (path text : List ℕ) : Type 0 where
  pub all : IfSome (files.told path) (λ contents. contents ≡ text)
  pub short : length text ≤ 67108864

-- no fault says that a text is no sequence of bytes: it always is one
abbrev pub IsNoBytes : List ℕ → FileFault → Type 0
IsNoBytes text fault = ⊥

-- a fault says why a text spells no tree
abbrev pub IsNoTree : List ℕ → FileFault → Type 0
IsNoTree text fault = (e : BracketFault) × (fault ≡ Document e) × Refuses text e

-- a fault says why a text is no CSV file with given columns
abbrev pub IsNoCsv : List (List ℕ) → List ℕ → FileFault → Type 0
IsNoCsv columns text fault = (e : CsvFault) × (fault ≡ Csv e) × Explains text columns e

-- a fault says why a text is no JSON value
abbrev pub IsNoJson : List ℕ → FileFault → Type 0
IsNoJson text fault = (e : JsonFault) × (fault ≡ Json e) × RefusesJson text e

-- a fault of a script names the first line of its text that is no step, by the forms that lines may have; want of memory says nothing
abbrev pub RefusesScript : Forms → List ℕ → ScriptFault → Type 0
RefusesScript forms text (script.Line n) = steps_of forms text ≡ Err n
RefusesScript forms text script.OutOfMemory = Unit {0}

-- a fault says why a text is no script, by the forms that its lines may have
abbrev pub IsNoScript : Forms → List ℕ → FileFault → Type 0
IsNoScript forms text fault = (e : ScriptFault) × (fault ≡ Script e) × RefusesScript forms text e

-- a fault says why a text is no catalog
abbrev pub IsNoCatalog : List ℕ → FileFault → Type 0
IsNoCatalog text fault = (e : CatalogFault) × (fault ≡ Catalog e) × RefusesCatalog text e

-- a fault says why a text is no rule over sources of given names
abbrev pub IsNoRule : List (List ℕ) → List ℕ → FileFault → Type 0
IsNoRule sources text fault = (e : XmasFault) × (fault ≡ View e) × RefusesRule text sources e

-- a fault says why a text is no plan over given sources
abbrev pub IsNoPlan : List SourceSpec → List ℕ → FileFault → Type 0
IsNoPlan sources text fault = (e : PlanFault) × (fault ≡ Plan e) × RefusesPlan text sources e

-- no read of a file failed, and it is longer than the limit of 67,108,864 bytes
pub record IsTooLong (old new : FilesView) (path : List ℕ) : Type 0 where
  pub unfailed : new.faults path ≡ old.faults path
  pub long : IfSome (old.told path) (λ contents. 67108864 < length contents)
  pub far : 67108864 < new.furthest path

-- a file was read whole, and a fault says why its text is not accepted as one of its kind
abbrev pub IsNotAccepted : (List ℕ → FileFault → Type 0) → FilesView → List ℕ → FileFault → Type 0
IsNotAccepted IsNone old path fault = (text : List ℕ) × IsRead old path text × IsNone text fault

-- the cause of each fault by which a file of a kind is refused: a failed read, its length, or what its text is
abbrev pub IsCause : (List ℕ → FileFault → Type 0) → FilesView → FilesView → List ℕ → FileFault → Type 0
IsCause IsNone old new path Unread = HasRisen (old.faults path) (new.faults path)
IsCause IsNone old new path TooLong = IsTooLong old new path
IsCause IsNone old new path (Document e) = IsNotAccepted IsNone old path (Document e)
IsCause IsNone old new path (Csv e) = IsNotAccepted IsNone old path (Csv e)
IsCause IsNone old new path (Json e) = IsNotAccepted IsNone old path (Json e)
IsCause IsNone old new path (Catalog e) = IsNotAccepted IsNone old path (Catalog e)
IsCause IsNone old new path (Script e) = IsNotAccepted IsNone old path (Script e)
IsCause IsNone old new path (View e) = IsNotAccepted IsNone old path (View e)
IsCause IsNone old new path (Plan e) = IsNotAccepted IsNone old path (Plan e)

-- the exit status with which a file is refused for a fault
abbrev pub status_of : FileFault → ℕ
status_of Unread = 4
status_of TooLong = 7
status_of (Document e) = 3
status_of (Csv e) = 3
status_of (Json e) = 3
status_of (Catalog e) = 3
status_of (Script e) = 3
status_of (View e) = 3
status_of (Plan e) = 3

-- the word for what a rule has too much of
abbrev pub large_text : Large → List ℕ
large_text large.Depth = codes "depth"
large_text large.Items = codes "items"
large_text large.Variables = codes "variables"
large_text large.Conditions = codes "conditions"
large_text large.Nesting = codes "nesting"
large_text large.Positions = codes "positions"

-- the line that says of a file what is wrong with it: its path, and a text
abbrev pub line_saying : List ℕ → List ℕ → List ℕ
line_saying path text = path ++ codes ": " ++ text ++ codes "\n"

-- the line that says why bracket text is refused: the file's path, and the fault; want of memory has no line
abbrev pub IsTreeLine : List ℕ → BracketFault → List ℕ → Type 0
IsTreeLine path fault line = (fault ≢ bracket.OutOfMemory) × (line ≡ line_saying path (bracket_said.text_of fault))

-- the line that says why a CSV file is refused: its path, and the fault; want of memory has no line
abbrev pub IsCsvLine : List ℕ → CsvFault → List ℕ → Type 0
IsCsvLine path fault line = (fault ≢ csv.OutOfMemory) × (line ≡ line_saying path (csv_said.text_of fault))

-- the line that says why a JSON file is refused: its path, and the fault; want of memory has no line
abbrev pub IsJsonLine : List ℕ → JsonFault → List ℕ → Type 0
IsJsonLine path fault line = (fault ≢ json.OutOfMemory) × (line ≡ line_saying path (json_said.text_of fault))

-- the line that says why a catalog is refused: its path, and the fault; want of memory has no line
abbrev pub IsCatalogLine : List ℕ → CatalogFault → List ℕ → Type 0
IsCatalogLine path (catalog.Line n) line = line ≡ path ++ codes ": no form fits line " ++ decimal n ++ codes "\n"
IsCatalogLine path (catalog.Chunk n) line = line ≡ path ++ codes ": chunk out of range in line " ++ decimal n ++ codes "\n"
IsCatalogLine path (catalog.Columns n) line = line ≡ path ++ codes ": too many columns in line " ++ decimal n ++ codes "\n"
IsCatalogLine path (catalog.ColumnTwice n) line = line ≡ path ++ codes ": column twice in line " ++ decimal n ++ codes "\n"
IsCatalogLine path (catalog.NameTwice n) line = line ≡ path ++ codes ": name twice in line " ++ decimal n ++ codes "\n"
IsCatalogLine path (catalog.TooMany n) line = line ≡ path ++ codes ": too many sources in line " ++ decimal n ++ codes "\n"
IsCatalogLine path catalog.OutOfMemory line = ⊥

-- the line that says why a script is refused: its path, and the fault; want of memory has no line
abbrev pub IsScriptLine : List ℕ → ScriptFault → List ℕ → Type 0
IsScriptLine path (script.Line n) line = line ≡ path ++ codes ": no form fits line " ++ decimal n ++ codes "\n"
IsScriptLine path script.OutOfMemory line = ⊥

-- the line that says why a view is refused: its path, and the fault; want of memory has no line
abbrev pub IsViewLine : List ℕ → XmasFault → List ℕ → Type 0
IsViewLine path (rule.NotUtf8 at) line = line ≡ path ++ codes ": not UTF-8 at " ++ decimal at ++ codes "\n"
IsViewLine path (rule.Unexpected at) line = line ≡ path ++ codes ": unexpected at " ++ decimal at ++ codes "\n"
IsViewLine path rule.EndsEarly line = line ≡ path ++ codes ": ends too early\n"
IsViewLine path (rule.TooLarge what) line = line ≡ path ++ codes ": too large: " ++ large_text what ++ codes "\n"
IsViewLine path (rule.TagDiffers at) line = line ≡ path ++ codes ": tag differs at " ++ decimal at ++ codes "\n"
IsViewLine path (rule.UnknownSource at) line = line ≡ path ++ codes ": unknown source at " ++ decimal at ++ codes "\n"
IsViewLine path (rule.BoundTwice at) line = line ≡ path ++ codes ": bound twice at " ++ decimal at ++ codes "\n"
IsViewLine path (rule.Unbound at) line = line ≡ path ++ codes ": unbound variable at " ++ decimal at ++ codes "\n"
IsViewLine path (rule.OuterGroup at) line = line ≡ path ++ codes ": outer element grouped at " ++ decimal at ++ codes "\n"
IsViewLine path (rule.Loose at) line = line ≡ path ++ codes ": loose item at " ++ decimal at ++ codes "\n"
IsViewLine path rule.OutOfMemory line = ⊥

-- the line that says why a plan text is refused: its path, and the fault; want of memory has no line
abbrev pub IsPlanLine : List ℕ → PlanFault → List ℕ → Type 0
IsPlanLine path (plan.NotUtf8 at) line = line ≡ path ++ codes ": not UTF-8 at " ++ decimal at ++ codes "\n"
IsPlanLine path (plan.Line n) line = line ≡ path ++ codes ": no form fits line " ++ decimal n ++ codes "\n"
IsPlanLine path (plan.TooMany n) line = line ≡ path ++ codes ": too many operators in line " ++ decimal n ++ codes "\n"
IsPlanLine path (plan.Number n) line = line ≡ path ++ codes ": wrong number in line " ++ decimal n ++ codes "\n"
IsPlanLine path (plan.UnknownSource n) line = line ≡ path ++ codes ": unknown source in line " ++ decimal n ++ codes "\n"
IsPlanLine path (plan.Positions n) line = line ≡ path ++ codes ": too large: positions in line " ++ decimal n ++ codes "\n"
IsPlanLine path (plan.Variable n) line = line ≡ path ++ codes ": variable out of range in line " ++ decimal n ++ codes "\n"
IsPlanLine path (plan.Invalid n) line = line ≡ path ++ codes ": not valid in line " ++ decimal n ++ codes "\n"
IsPlanLine path plan.End line = line ≡ path ++ codes ": wrong end\n"
IsPlanLine path (plan.Unused n) line = line ≡ path ++ codes ": unused in line " ++ decimal n ++ codes "\n"
IsPlanLine path plan.NotSingle line = line ≡ path ++ codes ": not a single element\n"
IsPlanLine path plan.OutOfMemory line = ⊥

-- the line with which a file is refused for a fault
abbrev pub IsRefusalLine : List ℕ → FileFault → List ℕ → Type 0
IsRefusalLine path Unread line = line ≡ path ++ codes ": cannot be read\n"
IsRefusalLine path TooLong line = line ≡ path ++ codes ": longer than 67108864 bytes\n"
IsRefusalLine path (Document e) line = IsTreeLine path e line
IsRefusalLine path (Csv e) line = IsCsvLine path e line
IsRefusalLine path (Json e) line = IsJsonLine path e line
IsRefusalLine path (Catalog e) line = IsCatalogLine path e line
IsRefusalLine path (Script e) line = IsScriptLine path e line
IsRefusalLine path (View e) line = IsViewLine path e line
IsRefusalLine path (Plan e) line = IsPlanLine path e line
