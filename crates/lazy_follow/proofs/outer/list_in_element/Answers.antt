use Rattle.std.proofs.Common.{◌∙◌, ℕ, suc, Option, sym, ap, subst}
use Rattle.std.specs.Prelude.{option_and_then}
use Rattle.plan_core.specs.PlanMade.{op_of, plan_value}
use Rattle.plan_core.specs.Plans.{Operator}
use Rattle.plan_core.specs.Shapes.{shape_of}
use Rattle.plan_evidence.specs.Named.{element_list, list_of}
use Rattle.lazy_follow.specs.Choosing.{IsListBy}
use Rattle.lazy_follow.proofs.Choices.{element_under, no_element, no_list_by}
use Rattle.lazy_follow.proofs.FromOuter.{scope_at}
use Rattle.lazy_follow.proofs.Scopes.{inner_scope}
use Rattle.lazy_follow.proofs.outer.list_in_element.Goals as goal

pub list_maker-requires-clause-bound : goal.list_maker-requires-clause-bound
list_maker-requires-clause-bound c =
    let p = plan_value c.args.plan.now in
    element_under p (c.valid_plans_are_typed.ensures p c.requires.valid) c.args.element c.in-CreateElement.input c.in-CreateElement.label c.in-CreateElement.list c.in-CreateElement.out c.requires.op
    (sym c.operator.ensures ∙ ap op_of c.in-CreateElement.is)

pub returns-in-CreateElement-clause-list : goal.returns-in-CreateElement-clause-list
returns-in-CreateElement-clause-list c = λ v made.
    let p = plan_value c.args.plan.now in
    let e = ap element_list made ∙ ap (λ (o : Operator). element_list (shape_of o)) (sym c.operator.ensures ∙ ap op_of c.in-CreateElement.is) in
    subst (λ (o : Option ℕ). IsListBy p.ops (option_and_then (list_of p.ops) o) c.list_maker.result) (sym e) c.list_maker.ensures.list

pub returns-in_default-clause-list : goal.returns-in_default-clause-list
returns-in_default-clause-list c = λ v made.
    let p = plan_value c.args.plan.now in
    let e = ap element_list made ∙ ap (λ (o : Operator). element_list (shape_of o)) (sym c.operator.ensures) ∙ no_element c.operator.result.now c.in_default.not-CreateElement in
    no_list_by p.ops _ (ap (option_and_then (list_of p.ops)) e)

pub returns-in-CreateElement-clause-scope : goal.returns-in-CreateElement-clause-scope
returns-in-CreateElement-clause-scope c = λ n v k b made bound.
    let p = plan_value c.args.plan.now in
    let typed = c.valid_plans_are_typed.ensures p c.requires.valid in
    let is = sym c.operator.ensures ∙ ap op_of c.in-CreateElement.is in
    scope_at p.ops n v k bound c.list_maker.result
    (inner_scope p c.requires.valid typed (suc n) b v c.args.element c.requires.op made c.in-CreateElement.input c.in-CreateElement.label c.in-CreateElement.list c.in-CreateElement.out is c.list_maker.result
    c.list_maker.ensures.scope)
