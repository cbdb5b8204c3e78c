-- What is read of the texts of the plans of views.
use Rattle.std.specs.Prelude.{◌≡◌, ◌≤◌, ℕ, List, length, Ok}
use Rattle.mix_catalog.specs.Sources.{AreNumbered}
use Rattle.mix_catalog.specs.declared.source.SourceSpec.{SourceSpec}
use Rattle.xmas_rule.specs.Rules.{RuleValue}
use Rattle.xmas_read.specs.Results.{names_of_sources, Spells}
use Rattle.plan_core.specs.Plans.{PlanValue}
use Rattle.plan_core.specs.PlanText.{plan_text}
use Rattle.plan_make.specs.Operators.{operators_of, plan_of}
use Rattle.plan_read.specs.Results.{Answers}
use Rattle.plan_read.specs.Writable.{names_said, renumbered}
use Rattle.plan_rewrite.specs.Rewritten.{operators_for, plan_for}

-- the text of a plan is read over the sources of a catalog as that plan with its named variables numbered as the text first has them; that has the
-- same text, and is the plan itself where its names stand in that order already
pub record IsReadAgain (sources : List SourceSpec) (p : PlanValue) : Type 0 where
  pub read : Answers (plan_text p) sources (Ok (renumbered p))
  pub text : plan_text (renumbered p) ≡ plan_text p
  pub same : names_said p ≡ p.names → renumbered p ≡ p

-- the plan of each rule that a text spells over the sources of a catalog is read again from its text, and so is its rewritten plan, where it has at most
-- 10,000 operators
pub record ViewsAreReadAgain : Type 0 where
  pub made : (x : List ℕ) (sources : List SourceSpec) (r : RuleValue) → AreNumbered sources → Spells x (names_of_sources sources) r
      → length (operators_of r) ≤ 10000 → IsReadAgain sources (plan_of (names_of_sources sources) r)
  pub rewritten : (x : List ℕ) (sources : List SourceSpec) (r : RuleValue) → AreNumbered sources → Spells x (names_of_sources sources) r
      → length (operators_for r) ≤ 10000 → IsReadAgain sources (plan_for (names_of_sources sources) r)
