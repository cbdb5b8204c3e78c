use Rattle.std.proofs.Common.{◌∙◌, ℕ, List, ap, length, subst, sym}
use Rattle.plan_core.specs.Plans.{Operator, PlanValue}
use Rattle.plan_evidence.specs.Held.{UsesHeld}
use Rattle.xmas_rule.specs.RuleMade.{rule_of}
use Rattle.xmas_rule.specs.Rules.{IsAccepted}
use Rattle.plan_rewrite.specs.Rewritten.{plan_for}
use Rattle.mix_place.proofs.viewing.load_view.Goals as goal

pub plan_view-requires : goal.plan_view-requires
plan_view-requires g c =
    subst (λ (names : List (List ℕ)). IsAccepted (length names) (rule_of c.in_ok-rule.rule)) (sym (c.deref.ensures.value ∙ c.in_ok-names.ensures)) c.in_ok-rule.ensures.accepted

pub returns-clause-ok : goal.returns-clause-ok
returns-clause-ok g c = record {
  rule = rule_of c.in_ok-rule.rule;
  rule_is = c.in_ok-rule.ensures.ok;
  made = c.in_ok-plan_view.ensures.made ∙ ap (λ (names : List (List ℕ)). plan_for names (rule_of c.in_ok-rule.rule)) (c.deref.ensures.value ∙ c.in_ok-names.ensures);
  plan_is = ap (λ (p : PlanValue). p.ops) c.in_ok-plan_view.ensures.made;
  means = c.in_ok-plan_view.ensures.document;
}

pub returns-clause-over : goal.returns-clause-over
returns-clause-over g c = record {
  valid = c.in_ok-plan_view.ensures.valid;
  names = ap (λ (p : PlanValue). p.sources) c.in_ok-plan_view.ensures.made ∙ c.deref.ensures.value ∙ c.in_ok-names.ensures;
}

pub returns-clause-uses : goal.returns-clause-uses
returns-clause-uses g c =
    subst (λ (ops : List Operator). UsesHeld ops) (sym (ap (λ (p : PlanValue). p.ops) c.in_ok-plan_view.ensures.made))
    (c.plans_of_views_use_what_is_held.ensures.rewritten _ (rule_of c.in_ok-rule.rule) c.in_ok-rule.ensures.accepted)
