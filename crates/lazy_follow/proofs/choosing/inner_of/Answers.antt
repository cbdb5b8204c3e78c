use Rattle.std.proofs.Common.{◌∙◌, ◌<◌, ℕ, Option, sym, ap, subst, arith, length}
use Rattle.std.specs.Prelude.{option_and_then}
use Rattle.plan_core.specs.PlanMade.{op_of, plan_value}
use Rattle.plan_core.specs.Plans.{Operator}
use Rattle.plan_core.specs.Shapes.{shape_of}
use Rattle.plan_evidence.specs.Named.{element_list, list_of}
use Rattle.lazy_follow.specs.Choosing.{IsListBy}
use Rattle.lazy_follow.proofs.Choices.{made_under, element_under, no_element, no_list_by}
use Rattle.lazy_follow.proofs.Scopes.{inner_scope}
use Rattle.lazy_follow.proofs.choosing.inner_of.Goals as goal

pub returns-in_default-clause-list : goal.returns-in_default-clause-list
returns-in_default-clause-list c =
    let p = plan_value c.args.plan.now in
    let h = rw c.in_default.is at c.maker_of.ensures in
    absurd (made_under p c.requires.valid (c.valid_plans_are_typed.ensures p c.requires.valid) c.args.op c.args.v c.requires.op c.requires.bound h)

pub list_maker-requires-clause-bound : goal.list_maker-requires-clause-bound
list_maker-requires-clause-bound c =
    let p = plan_value c.args.plan.now in
    let h = rw c.in-Some.is at c.maker_of.ensures in
    let b = c.requires.op in
    let l = h.0 in
    element_under p (c.valid_plans_are_typed.ensures p c.requires.valid) c.in-Some.element c.in-CreateElement.input c.in-CreateElement.label c.in-CreateElement.list c.in-CreateElement.out (omega (arith, l, b))
    (sym c.operator.ensures ∙ ap op_of c.in-CreateElement.is)

pub returns-in-CreateElement-clause-list : goal.returns-in-CreateElement-clause-list
returns-in-CreateElement-clause-list c =
    let p = plan_value c.args.plan.now in
    let h = rw c.in-Some.is at c.maker_of.ensures in
    let e = ap element_list h.1 ∙ ap (λ (o : Operator). element_list (shape_of o)) (sym c.operator.ensures ∙ ap op_of c.in-CreateElement.is) in
    subst (λ (o : Option ℕ). IsListBy p.ops (option_and_then (list_of p.ops) o) c.list_maker.result) (sym e) c.list_maker.ensures.list

pub returns-in_default-operator-clause-list : goal.returns-in_default-operator-clause-list
returns-in_default-operator-clause-list c =
    let p = plan_value c.args.plan.now in
    let h = rw c.in-Some.is at c.maker_of.ensures in
    let e = ap element_list h.1 ∙ ap (λ (o : Operator). element_list (shape_of o)) (sym c.operator.ensures) ∙ no_element c.operator.result.now c.in_default-operator.not-CreateElement in
    no_list_by p.ops _ (ap (option_and_then (list_of p.ops)) e)

pub returns-in-CreateElement-clause-scope : goal.returns-in-CreateElement-clause-scope
returns-in-CreateElement-clause-scope c =
    let p = plan_value c.args.plan.now in
    let typed = c.valid_plans_are_typed.ensures p c.requires.valid in
    let h = rw c.in-Some.is at c.maker_of.ensures in
    let b = c.requires.op in
    let l = h.0 in
    let small : c.in-Some.element < length p.ops = omega (arith, l, b) in
    let is = sym c.operator.ensures ∙ ap op_of c.in-CreateElement.is in
    inner_scope p c.requires.valid typed c.args.op b c.args.v c.in-Some.element small h.1 c.in-CreateElement.input c.in-CreateElement.label c.in-CreateElement.list c.in-CreateElement.out is c.list_maker.result
    c.list_maker.ensures.scope
