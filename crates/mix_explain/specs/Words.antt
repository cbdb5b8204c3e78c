-- Which words ask for an explanation, how their call ends, and which files it may read.
use Rattle.std.specs.Prelude.{◌≡◌, ◌⊎◌, ℕ, cond, List, [], ◌∷◌, Option, Some, None, codes, length}
use Rattle.std.specs.Str.{bytes_eq}
use Rattle.mix_io.specs.Views.{FilesView, SinkView}
use Rattle.mix_catalog.specs.declared.source.SourceSpec.{SourceSpec}
use Rattle.mix_place.specs.Files.{IsCatalogFile, IsRuleFile}
use Rattle.mix_place.specs.Reading.{IsFileBefore}
use Rattle.mix_run.specs.Ends.{Ends}
use Rattle.mix_top.specs.FilesRead.{FileMayRead}
use Rattle.mix_top.specs.Texts.{unknown_text}
use Rattle.plan_rewrite.specs.Rewritten.{plan_for}
use Rattle.source_checks.specs.Checks.{Moment}
use Rattle.view_class.specs.Reads.{reads_source}
use Rattle.xmas_read.specs.Results.{names_of_sources}
use Rattle.xmas_rule.specs.Rules.{RuleValue}
use Rattle.mix_explain.specs.Explained.{Explains}

-- the view and the catalog of an explanation, where words ask for one
abbrev pub explained_of : List (List ℕ) → Option (List ℕ × List ℕ)
explained_of [] = None
explained_of (word ∷ []) = None
explained_of (word ∷ a ∷ []) = None
explained_of (word ∷ a ∷ b ∷ []) = cond (bytes_eq word (codes "explain")) (Some (a, b)) None
explained_of (word ∷ a ∷ b ∷ c ∷ words) = None

-- how the call of words ends that are to ask for an explanation: with its lines and its status, or they are refused
abbrev pub ExplainWordsEnd : Option (List ℕ × List ℕ) → Moment → Moment → SinkView → SinkView → ℕ → Type 0
ExplainWordsEnd (Some asked) old new = Ends (Explains old new asked.0 asked.1)
ExplainWordsEnd None old new = Ends (λ status lines. (status ≡ 2) × (lines ≡ unknown_text))

-- a path is that of the file of a source that the plan of a rule reads, where that is read whole
abbrev pub IsReportedFile : List SourceSpec → RuleValue → List ℕ → Type 0
IsReportedFile sources rule = IsFileBefore (reads_source (plan_for (names_of_sources sources) rule).ops) sources (length sources)

-- the files that an explanation may read: those of `read`, and after an accepted view those of its sources that are read whole
abbrev pub ReportMayRead : FilesView → List ℕ → List ℕ → List ℕ → Type 0
ReportMayRead files view catalog path =
    FileMayRead files view catalog path
    ⊎ ((sources : List SourceSpec) × IsCatalogFile files catalog sources
    × ((rule : RuleValue) × IsRuleFile files view (names_of_sources sources) rule × IsReportedFile sources rule path))

-- the files that a call of words may read that are to ask for an explanation
abbrev pub ExplainMayRead : FilesView → Option (List ℕ × List ℕ) → List ℕ → Type 0
ExplainMayRead files (Some asked) path = ReportMayRead files asked.0 asked.1 path
ExplainMayRead files None path = ⊥
