-- What is promised of the plans of views.
use Rattle.std.specs.Prelude.{ℕ}
use Rattle.xmas_rule.specs.Rules.{RuleValue, IsAccepted}
use Rattle.plan_evidence.specs.Held.{UsesHeld}
use Rattle.plan_make.specs.Operators.{operators_of}
use Rattle.plan_rewrite.specs.Rewritten.{operators_for}

-- the plan of each accepted rule uses of each operator's inputs what they hold alone, and so does its rewritten plan
pub record ViewsUseHeld : Type 0 where
  pub made : (sources : ℕ) (r : RuleValue) → IsAccepted sources r → UsesHeld (operators_of r)
  pub rewritten : (sources : ℕ) (r : RuleValue) → IsAccepted sources r → UsesHeld (operators_for r)
