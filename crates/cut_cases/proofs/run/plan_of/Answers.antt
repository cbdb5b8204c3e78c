use Rattle.std.proofs.Common.{List, ap, subst, sym}
use Rattle.std.proofs.lemmas.Result.{IfOk-weaker}
use Rattle.plan_core.specs.Plans.{Operator, PlanValue}
use Rattle.plan_core.specs.PlanMade.{plan_value}
use Rattle.plan_core.specs.declared.plan.Plan.{Plan}
use Rattle.plan_evidence.specs.Held.{UsesHeld}
use Rattle.xmas_rule.specs.RuleMade.{rule_of}
use Rattle.cut_cases.proofs.run.plan_of.Goals as goal

pub returns-then-is_unmoved-clause-uses : goal.returns-then-is_unmoved-clause-uses
returns-then-is_unmoved-clause-uses c =
    IfOk-weaker c.make_plan.result _ (λ (plan : Plan). UsesHeld (plan_value plan).ops)
    (λ plan made. subst (λ (ops : List Operator). UsesHeld ops) (sym (ap (λ (p : PlanValue). p.ops) made)) (c.plans_of_views_use_what_is_held.ensures.made _ (rule_of c.args.read.now.rule) c.requires))
    c.make_plan.ensures.made

pub returns-else-is_unmoved-clause-uses : goal.returns-else-is_unmoved-clause-uses
returns-else-is_unmoved-clause-uses c =
    IfOk-weaker c.plan_view.result _ (λ (plan : Plan). UsesHeld (plan_value plan).ops)
    (λ plan made. subst (λ (ops : List Operator). UsesHeld ops) (sym (ap (λ (p : PlanValue). p.ops) made)) (c.plans_of_views_use_what_is_held.ensures.rewritten _ (rule_of c.args.read.now.rule) c.requires))
    c.plan_view.ensures.made
