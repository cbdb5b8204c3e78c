use Rattle.std.proofs.Common.{◌≡◌, ◌≤◌, ℕ, false, List, ap, sym, ◌∙◌, arith, length, map}
use Rattle.plan_core.specs.declared.plan.Op.{Op}
use Rattle.plan_core.specs.PlanMade.{op_of, plan_value}
use Rattle.browse_class.specs.Classes.{all_bounds, sorts_any, class_by}
use Rattle.plan_class.specs.Agree.{known_below, lists_of}
use Rattle.plan_class.specs.declared.domain.Domain.{Domain}
use Rattle.plan_class.proofs.ClassIs.{are_known, class_is, class_sorted}
use Rattle.plan_class.proofs.VarDomains.{domains_are}
use Rattle.plan_class.proofs.classing.class_of.Goals as goal

pub returns-then-sorts_any : goal.returns-then-sorts_any
returns-then-sorts_any c =
    class_sorted c.args.shapes.now (plan_value c.args.plan.now) c.requires (c.valid_plans_are_typed.ensures (plan_value c.args.plan.now) c.requires)
    (ap (λ (xs : List Op). sorts_any (map op_of xs)) (sym c.deref.ensures.value) ∙ sym c.sorts_any.ensures ∙ c.if-sorts_any.true)

pub returns : goal.returns
returns c =
    let plan = plan_value c.args.plan.now in
    let typed = c.valid_plans_are_typed.ensures plan c.requires in
    let known = known_below c.args.shapes.now plan.ops (length plan.ops) in
    let whole : length plan.ops ≤ length plan.ops = omega arith in
    let none : sorts_any plan.ops ≡ false = ap (λ (xs : List Op). sorts_any (map op_of xs)) (sym c.deref.ensures.value) ∙ sym c.sorts_any.ensures ∙ c.if-sorts_any.false in
    let constant = rw c.deref-2.ensures.value at c.constant.ensures in
    c.class_by.ensures
    ∙ ap class_by constant
    ∙ ap (λ (of : ℕ → Domain). class_by (all_bounds plan.ops (λ i. lists_of of))) (domains_are c.in_ok-profiles.profiles.domains known c.in_ok-profiles.ensures.domains)
    ∙ class_is c.args.shapes.now plan c.requires typed known (are_known c.args.shapes.now plan c.requires typed (length plan.ops) whole) none
