use Rattle.std.proofs.Common.{◌∙◌, ◌++◌, ℕ, List, ap}
use Rattle.plan_rewrite.specs.Rewritten.{plan_for}
use Rattle.xmas_rule.specs.RuleMade.{rule_of}
use Rattle.mix_explain.proofs.view.report.Goals as goal

pub returns-clause-lines : goal.returns-clause-lines
returns-clause-lines g c = record {
  plan = c.in_ok-plan.plan;
  plan_is = c.in_ok-plan.ensures.made ∙ ap (λ (names : List (List ℕ)). plan_for names (rule_of c.args.rule.now)) (c.deref.ensures.value ∙ c.in_ok-names.ensures);
  report = c.in_ok-lines.lines.items;
  reports = c.in_ok-lines.ensures;
  today = c.in_ok-today.today.items;
  says = c.in_ok-today.ensures.ok;
  lines_are = c.in_ok-extend_from_slice.ensures.items ∙ ap (λ (ys : List ℕ). c.in_ok-lines.lines.items ++ ys) c.deref-2.ensures.value;
}
