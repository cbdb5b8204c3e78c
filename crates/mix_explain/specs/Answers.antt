-- What comes of the files of an explanation.
use Rattle.std.specs.Prelude.{◌≡◌, ℕ, List, [], length}
use Rattle.mix_io.specs.Views.{FilesView}
use Rattle.mix_catalog.specs.declared.source.SourceSpec.{SourceSpec}
use Rattle.xmas_rule.specs.RuleMade.{rule_of}
use Rattle.xmas_rule.specs.Rules.{IsAccepted}
use Rattle.xmas_rule.specs.declared.rule.Rule.{Rule}
use Rattle.mix_place.specs.declared.refusal.FileFault.{FileFault}
use Rattle.mix_place.specs.Causes.{IsNoCatalog, IsNoRule}
use Rattle.mix_place.specs.Files.{IsCatalogFile, IsRuleFile}
use Rattle.mix_explain.specs.declared.explained.Answer.{Answer}
use Rattle.mix_explain.specs.declared.explained.Answer.TheVariants.{Accepted, Refused}
use Rattle.mix_explain.specs.declared.explained.Explained.{Explained}
use Rattle.mix_explain.specs.Explained.{ExplainsRefusal}

-- an explanation is that of a refused file
abbrev pub IsExplained : (List ℕ → FileFault → Type 0) → List (List ℕ) → FilesView → FilesView → List ℕ → Explained → Type 0
IsExplained IsNone names old new path e = ExplainsRefusal IsNone names old new path e.status e.lines.items

-- no read of a file failed
abbrev pub IsSteady : FilesView → FilesView → Type 0
IsSteady old new = (path : List ℕ) → new.faults path ≡ old.faults path

-- what comes of a catalog's file: the sources that it spells, and no read failed, or its refusal is explained
abbrev pub IsCatalogAnswer : FilesView → FilesView → List ℕ → Answer (List SourceSpec) → Type 0
IsCatalogAnswer old new path (Accepted sources) = IsCatalogFile old path sources × IsSteady old new
IsCatalogAnswer old new path (Refused e) = IsExplained IsNoCatalog [] old new path e

-- what comes of a view's file over sources of given names: the rule that it spells, or its refusal is explained
abbrev pub IsViewAnswer : FilesView → FilesView → List ℕ → List (List ℕ) → Answer Rule → Type 0
IsViewAnswer old new path names (Accepted rule) = IsRuleFile old path names (rule_of rule) × IsAccepted (length names) (rule_of rule)
IsViewAnswer old new path names (Refused e) = IsExplained (IsNoRule names) names old new path e
