-- Files that were read whole: accepted as what they spell, or refused.
use Rattle.std.specs.Prelude.{◌≡◌, ◌⊎◌, ◌-◌, ℕ, List, Ok}
use Rattle.mix_io.specs.Views.{FilesView, ReadsOnly}
use Rattle.mix_script.specs.declared.step.Forms.{Forms}
use Rattle.mix_script.specs.declared.step.Step.{Step}
use Rattle.mix_script.specs.Steps.{steps_of}
use Rattle.mix_catalog.specs.declared.source.SourceSpec.{SourceSpec}
use Rattle.mix_catalog.specs.Sources.{IsCatalog, base_of}
use Rattle.xmas_rule.specs.Rules.{RuleValue}
use Rattle.xmas_read.specs.Results.{Spells}
use Rattle.plan_core.specs.Plans.{PlanValue}
use Rattle.plan_core.specs.Valid.{IsValid}
use Rattle.plan_read.specs.Results.{IsTextOf}
use Rattle.mix_place.specs.declared.refusal.FileFault.{FileFault}
use Rattle.mix_place.specs.Causes.{IsRead, IsCause, IsRefusalLine, status_of}
use Rattle.mix_place.specs.Reading.{ReadsAmong}

-- a file was read whole and is a script of given steps, by the forms that its lines may have
pub record IsScript (forms : Forms) (files : FilesView) (path : List ℕ) (steps : List Step) : Type 0 where
  pub text : List ℕ
  pub read : IsRead files path text
  pub accepted : steps_of forms text ≡ Ok steps

-- a file was read whole and is a catalog of given sources
pub record IsCatalogFile (files : FilesView) (path : List ℕ) (sources : List SourceSpec) : Type 0 where
  pub text : List ℕ
  pub read : IsRead files path text
  pub accepted : IsCatalog text sources

-- a file was read whole and is a catalog, of whose sources given ones are those that are no views
pub record IsBaseFile (files : FilesView) (path : List ℕ) (sources : List SourceSpec) : Type 0 where
  pub text : List ℕ
  pub read : IsRead files path text
  pub whole : List SourceSpec
  pub accepted : IsCatalog text whole
  pub base : sources ≡ base_of whole

-- a file was read whole and spells a rule over sources of given names
pub record IsRuleFile (files : FilesView) (path : List ℕ) (sources : List (List ℕ)) (v : RuleValue) : Type 0 where
  pub text : List ℕ
  pub read : IsRead files path text
  pub spelled : Spells text sources v

-- a file was read whole and spells a valid plan over given sources
pub record IsPlanFile (files : FilesView) (path : List ℕ) (sources : List SourceSpec) (p : PlanValue) : Type 0 where
  pub text : List ℕ
  pub read : IsRead files path text
  pub spelled : IsTextOf text sources p
  pub valid : IsValid p

-- a file of a kind is refused, with a given status and line
pub record IsRefused (IsNone : List ℕ → FileFault → Type 0) (old new : FilesView) (path : List ℕ) (status : ℕ) (line : List ℕ) : Type 0 where
  pub fault : FileFault
  pub cause : IsCause IsNone old new path fault
  pub status_is : status ≡ status_of fault
  pub line_is : IsRefusalLine path fault line

-- the first file of a command is refused, and nothing was read but it
abbrev pub IsRefusedFirst : (List ℕ → FileFault → Type 0) → FilesView → FilesView → List ℕ → ℕ → List ℕ → Type 0
IsRefusedFirst IsNone old new path status line = IsRefused IsNone old new path status line × ReadsOnly path old new

-- a file of a kind is refused, and nothing was read but given files before it and it
abbrev pub IsRefusedLast : (List ℕ → Type 0) → (List ℕ → FileFault → Type 0) → FilesView → FilesView → List ℕ → ℕ → List ℕ → Type 0
IsRefusedLast Before IsNone old new path status line = IsRefused IsNone old new path status line × ReadsAmong (λ p. Before p ⊎ (p ≡ path)) old new
