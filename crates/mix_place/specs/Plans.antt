-- Plans that files give over the sources of a catalog.
use Rattle.std.specs.Prelude.{◌≡◌, ℕ, List}
use Rattle.mix_catalog.specs.declared.source.SourceSpec.{SourceSpec}
use Rattle.mix_io.specs.Views.{FilesView}
use Rattle.mix_mount.specs.Mounts.{document}
use Rattle.xmas_rule.specs.Rules.{RuleValue}
use Rattle.plan_core.specs.Plans.{PlanValue}
use Rattle.plan_core.specs.Valid.{IsValid}
use Rattle.plan_make.specs.Law.{MeansRule}
use Rattle.plan_rewrite.specs.Rewritten.{operators_for, plan_for}
use Rattle.xmas_read.specs.Results.{names_of_sources}
use Rattle.mix_place.specs.Files.{IsRuleFile}

-- a file was read whole and spells a rule, of which this is the plan, its selections moved: the plan's document is the rule's finished document
pub record IsViewPlan (files : FilesView) (path : List ℕ) (sources : List SourceSpec) (p : PlanValue) : Type 0 where
  pub rule : RuleValue
  pub rule_is : IsRuleFile files path (names_of_sources sources) rule
  pub made : p ≡ plan_for (names_of_sources sources) rule
  pub plan_is : p.ops ≡ operators_for rule
  pub means : MeansRule p.ops rule

-- a plan is valid, and its sources are those of a catalog
pub record IsPlanOver (sources : List SourceSpec) (p : PlanValue) : Type 0 where
  pub valid : IsValid p
  pub names : p.sources ≡ names_of_sources sources
