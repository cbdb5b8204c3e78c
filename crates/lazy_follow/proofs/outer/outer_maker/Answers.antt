use Rattle.std.proofs.Common.{rules, ◌≡◌, ◌∙◌, ◌<◌, sym, ap, arith, length}
use Rattle.plan_core.specs.PlanMade.{plan_value}
use Rattle.plan_core.specs.Plans.{Operator}
use Rattle.lazy_follow.specs.Ends.{makes_element_of}
use Rattle.lazy_follow.proofs.Makes.{element_at_top, element_made}
use Rattle.lazy_follow.proofs.outer.outer_maker.Goals as goal

pub returns-then-makes_element : goal.returns-then-makes_element
returns-then-makes_element c =
    let p = plan_value c.args.plan.now in
    let typed = c.valid_plans_are_typed.ensures p c.requires.valid in
    let l : c.loop-i.i < c.args.input = (let r = c.loop-i-test.true in first_of (omega (arith, r), search rules)) in
    let b : c.loop-i.i < length p.ops = (let r = c.requires.op in omega (arith, r, l)) in
    let h = element_made p c.requires.valid typed c.loop-i.i c.args.v b
    (ap (λ (o : Operator). makes_element_of o c.args.v) (sym c.operator.ensures) ∙ sym c.makes_element.ensures ∙ c.if-makes_element.true) in
    (b, h.0, h.1)

pub returns : goal.returns
returns c =
    let p = plan_value c.args.plan.now in
    let typed = c.valid_plans_are_typed.ensures p c.requires.valid in
    let done : c.loop-i.i ≡ c.args.input = (let r = c.loop-i-test.false in let e = c.loop-i.auto.i-end in first_of (omega (arith, r, e), search rules)) in
    let top = element_at_top p c.requires.valid typed c.args.input c.args.v c.requires.op c.requires.element (λ i l. c.loop-i.invariant i (omega (arith, l, done))) in
    let h = element_made p c.requires.valid typed c.args.input c.args.v c.requires.op top in
    (c.requires.op, h.0, h.1)
