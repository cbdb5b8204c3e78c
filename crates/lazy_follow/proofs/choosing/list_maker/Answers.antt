use Rattle.std.proofs.Common.{◌∙◌, sym, ap, arith}
use Rattle.plan_core.specs.PlanMade.{op_of, plan_value}
use Rattle.plan_core.specs.Plans.{Operator}
use Rattle.plan_core.specs.Shapes.{shape_of}
use Rattle.plan_evidence.specs.Named.{listing}
use Rattle.lazy_follow.proofs.Choices.{made_under, group_makes, pieces_makes, no_list, list_by, no_list_by, is_list_by}
use Rattle.lazy_follow.proofs.Scopes.{made_scope}
use Rattle.lazy_follow.proofs.choosing.list_maker.Goals as goal

pub returns-in_default-clause-list : goal.returns-in_default-clause-list
returns-in_default-clause-list c =
    let p = plan_value c.args.plan.now in
    let h = rw c.in_default.is at c.maker_of.ensures in
    absurd (made_under p c.requires.valid (c.valid_plans_are_typed.ensures p c.requires.valid) c.args.below c.args.v c.requires.op c.requires.bound h)

pub returns-in-GroupBy-clause-list : goal.returns-in-GroupBy-clause-list
returns-in-GroupBy-clause-list c =
    let p = plan_value c.args.plan.now in
    let h = rw c.in-Some.is at c.maker_of.ensures in
    let b = c.requires.op in
    let l = h.0 in
    let m = group_makes p.ops c.in-Some.maker (omega (arith, l, b)) c.in-GroupBy.input c.in-GroupBy.keys.items c.in-GroupBy.piece c.in-GroupBy.out (sym c.operator.ensures ∙ ap op_of c.in-GroupBy.is) in
    is_list_by p.ops c.in-Some.maker _ _ m.within m.listed (list_by p.ops c.args.v c.in-Some.maker h.1 ∙ m.listed)

pub returns-in-Concatenate-clause-list : goal.returns-in-Concatenate-clause-list
returns-in-Concatenate-clause-list c =
    let p = plan_value c.args.plan.now in
    let h = rw c.in-Some.is at c.maker_of.ensures in
    let b = c.requires.op in
    let l = h.0 in
    let m = pieces_makes p.ops c.in-Some.maker (omega (arith, l, b)) c.in-Concatenate.input c.in-Concatenate.pieces.items c.in-Concatenate.out (sym c.operator.ensures ∙ ap op_of c.in-Concatenate.is) in
    is_list_by p.ops c.in-Some.maker _ _ m.within m.listed (list_by p.ops c.args.v c.in-Some.maker h.1 ∙ m.listed)

pub returns-in_default-operator-clause-list : goal.returns-in_default-operator-clause-list
returns-in_default-operator-clause-list c =
    let p = plan_value c.args.plan.now in
    let h = rw c.in-Some.is at c.maker_of.ensures in
    no_list_by p.ops _ (list_by p.ops c.args.v c.in-Some.maker h.1 ∙ ap (λ (o : Operator). listing (shape_of o)) (sym c.operator.ensures) ∙ no_list c.operator.result.now c.in_default-operator.not-GroupBy c.in_default-operator.not-Concatenate)

pub returns-in-GroupBy-clause-scope : goal.returns-in-GroupBy-clause-scope
returns-in-GroupBy-clause-scope c = λ i k below e.
    let p = plan_value c.args.plan.now in
    let h = rw c.in-Some.is at c.maker_of.ensures in
    let b = c.requires.op in
    let l = h.0 in
    made_scope p c.requires.valid (c.valid_plans_are_typed.ensures p c.requires.valid) i c.args.v k (omega (arith, below, b)) e c.in-Some.maker (omega (arith, l, b)) h.1 c.in-GroupBy.input _
    (ap shape_of (sym c.operator.ensures ∙ ap op_of c.in-GroupBy.is))

pub returns-in-Concatenate-clause-scope : goal.returns-in-Concatenate-clause-scope
returns-in-Concatenate-clause-scope c = λ i k below e.
    let p = plan_value c.args.plan.now in
    let h = rw c.in-Some.is at c.maker_of.ensures in
    let b = c.requires.op in
    let l = h.0 in
    made_scope p c.requires.valid (c.valid_plans_are_typed.ensures p c.requires.valid) i c.args.v k (omega (arith, below, b)) e c.in-Some.maker (omega (arith, l, b)) h.1 c.in-Concatenate.input _
    (ap shape_of (sym c.operator.ensures ∙ ap op_of c.in-Concatenate.is))
