use Rattle.std.proofs.Common.{◌∙◌, sym, ap}
use Rattle.std.specs.Prelude.{◌==◌}
use Rattle.plan_core.specs.declared.plan.Plan.{Plan}
use Rattle.plan_core.specs.PlanMade.{op_of, plan_value}
use Rattle.plan_core.specs.Plans.{Operator}
use Rattle.plan_core.specs.ByNumber.{op_at}
use Rattle.lazy_plan.specs.Bench.{state_of}
use Rattle.lazy_site.specs.Origins.{makes}
use Rattle.lazy_site.proofs.Making.{not_other, is_other, element_made}
use Rattle.lazy_site.proofs.Matter.{element_matter}
use Rattle.lazy_site.proofs.origin.element_under.Goals as goal

pub returns-then-ne : goal.returns-then-ne
returns-then-ne c = λ view h i e. ap (λ (o : Operator). makes o c.args.v) (sym (ap op_of (sym c.in-CreateElement.is) ∙ c.operator.ensures ∙ ap (λ (p : Plan). op_at (plan_value p).ops c.args.op) c.plan.ensures)) ∙ is_other (c.in-CreateElement.out == c.args.v) _ c.ne.ensures c.if-ne.true

pub returns-in_ok-under-in-CreateElement : goal.returns-in_ok-under-in-CreateElement
returns-in_ok-under-in-CreateElement c = λ view h i. element_made (state_of view c.args.bench.now) h.fixed.typed c.args.op c.requires.op c.args.c.now c.args.v
    c.in-CreateElement.input c.in-CreateElement.label c.in-CreateElement.list c.in-CreateElement.out c.in_ok-under-in-CreateElement.field-0 (ap op_of (sym c.in-CreateElement.is) ∙ c.operator.ensures ∙ ap (λ (p : Plan). op_at (plan_value p).ops c.args.op) c.plan.ensures) (not_other (c.in-CreateElement.out == c.args.v) _ c.ne.ensures c.if-ne.false)
    (c.in_ok-under-in-CreateElement.ensures.under view h i)
    (element_matter (state_of view c.args.bench.now) h.valid h.fixed.typed c.args.op c.requires.op c.args.c.now i c.in-CreateElement.input c.in-CreateElement.label c.in-CreateElement.list c.in-CreateElement.out c.in_ok-under-in-CreateElement.field-0 (ap op_of (sym c.in-CreateElement.is) ∙ c.operator.ensures ∙ ap (λ (p : Plan). op_at (plan_value p).ops c.args.op) c.plan.ensures) (c.in_ok-under-in-CreateElement.ensures.under view h i))
