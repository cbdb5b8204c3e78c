use Rattle.std.proofs.Common.{◌∙◌, inl, inr, sym, ap}
use Rattle.plan_core.specs.declared.plan.Op.{Op}
use Rattle.plan_core.specs.FrontsKept.{over_front}
use Rattle.plan_core.specs.PlanMade.{op_of}
use Rattle.plan_core.specs.Shapes.{shape_of}
use Rattle.plan_core.proofs.FrontCode.{groups_kept}
use Rattle.plan_core.proofs.fronts.front_over.Goals as goal

pub returns-in-Project : goal.returns-in-Project
returns-in-Project c =
    let below = c.args.below in
    let is = rw c.deref.ensures.value at c.kept_by.ensures in
    elim c.in-Project.is [
      | inl p ↦ is ∙ ap (λ (o : Op). over_front (shape_of (op_of o)) below) (sym p.1)
      | inr g ↦ is ∙ sym (groups_kept below g.0 g.2 c.in-Project.keys.items g.1) ∙ ap (λ (o : Op). over_front (shape_of (op_of o)) below) (sym g.3)
    ]
