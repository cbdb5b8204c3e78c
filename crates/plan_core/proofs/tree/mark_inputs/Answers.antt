use Rattle.std.proofs.Common.{◌∙◌, sym, subst}
use Rattle.plan_core.specs.declared.plan.Op.{Op}
use Rattle.plan_core.specs.PlanMade.{op_of}
use Rattle.plan_core.specs.Trees.{IsMarked, CannotMark}
use Rattle.plan_core.specs.Valid.{inputs_of}
use Rattle.plan_core.proofs.Marks.{one_marked, one_unmarked, both_marked, first_unmarked, second_unmarked}
use Rattle.plan_core.proofs.tree.mark_inputs.Goals as goal

pub returns-then-mark-clause-marked : goal.returns-then-mark-clause-marked
returns-then-mark-clause-marked c = λ is.
    let op = c.in-Join in
    let left = one_marked c.args.marks.now c.mark.new.marks op.left (sym c.mark.ensures.lacked ∙ c.if-mark.true) (c.mark.ensures.marks c.if-mark.true) in
    let right = one_marked c.mark.new.marks c.mark-then-mark.new.marks op.right (sym c.mark-then-mark.ensures.lacked ∙ is) (c.mark-then-mark.ensures.marks is) in
    subst (λ (o : Op). IsMarked c.args.marks.now (inputs_of (op_of o)) c.mark-then-mark.new.marks) (sym op.is)
    (both_marked c.args.marks.now c.mark.new.marks c.mark-then-mark.new.marks op.left op.right left right)

pub returns-then-mark-clause-unmarked : goal.returns-then-mark-clause-unmarked
returns-then-mark-clause-unmarked c = λ is.
    let op = c.in-Join in
    let left = one_marked c.args.marks.now c.mark.new.marks op.left (sym c.mark.ensures.lacked ∙ c.if-mark.true) (c.mark.ensures.marks c.if-mark.true) in
    subst (λ (o : Op). CannotMark c.args.marks.now (inputs_of (op_of o))) (sym op.is)
    (second_unmarked c.args.marks.now c.mark.new.marks op.left op.right left (one_unmarked c.mark.new.marks op.right (sym c.mark-then-mark.ensures.lacked ∙ is)))

pub returns-else-mark-clause-unmarked : goal.returns-else-mark-clause-unmarked
returns-else-mark-clause-unmarked c = λ is.
    let op = c.in-Join in
    subst (λ (o : Op). CannotMark c.args.marks.now (inputs_of (op_of o))) (sym op.is)
    (first_unmarked c.args.marks.now op.left op.right (one_unmarked c.args.marks.now op.left (sym c.mark.ensures.lacked ∙ is)))
