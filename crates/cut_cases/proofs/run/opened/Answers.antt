use Rattle.std.proofs.Common.{List, ap, subst, sym}
use Rattle.plan_core.specs.Plans.{Operator}
use Rattle.plan_core.specs.PlanMade.{plan_value}
use Rattle.plan_core.specs.declared.plan.Plan.{Plan}
use Rattle.plan_evidence.specs.Held.{UsesHeld}
use Rattle.cut_cases.proofs.run.opened.Goals as goal

pub returns-clause-uses : goal.returns-clause-uses
returns-clause-uses c =
    subst (λ (ops : List Operator). UsesHeld ops) (sym (ap (λ (q : Plan). (plan_value q).ops) c.in_ok-mediator.ensures.plan)) c.in_ok-plan.ensures.uses
