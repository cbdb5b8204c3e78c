use Rattle.std.proofs.Common.{◌≡◌, ◌∙◌, ◌+◌, ℕ, suc, arith, ap, sym, subst}
use Rattle.plan_core.specs.PlanMade.{op_of, plan_value}
use Rattle.plan_core.specs.Plans.{Operator}
use Rattle.plan_core.specs.Shapes.{shape_of}
use Rattle.plan_core.specs.Valid.{kinds, IsFit}
use Rattle.plan_class.specs.Agree.{known_below}
use Rattle.plan_class.proofs.ClassIs.{fit_short, op_walked}
use Rattle.unsatisfiable_paths.specs.NodeDomains.{shape_bound, nodes_in, AreNodeDomains}
use Rattle.unsatisfiable_paths.proofs.KnownNodes.{domains_more}
use Rattle.unsatisfiable_paths.proofs.path.all_domains.Goals as goal

pub bound_by-requires : goal.bound_by-requires
bound_by-requires c =
    let plan = plan_value c.args.plan.now in
    let typed = c.valid_plans_are_typed.ensures plan c.requires in
    let op = op_walked c.args.plan.now.ops.items c.deref-op-items.result.now c.ops.op-index c.op-item.result c.deref-op-items.ensures.value c.ops-test.true c.op-item.is in
    fit_short (op_of c.op-item.result) (kinds plan.ops) (subst (λ (o : Operator). IsFit o (kinds plan.ops)) op.0 (typed.fit c.ops.op-index op.1))

pub ops-preserved : goal.ops-preserved
ops-preserved c =
    let plan = plan_value c.args.plan.now in
    let shapes = c.args.shapes.now in
    let op = op_walked c.args.plan.now.ops.items c.deref-op-items.result.now c.ops.op-index c.op-item.result c.deref-op-items.ensures.value c.ops-test.true c.op-item.is in
    let next : suc c.ops.op-index ≡ c.ops.op-index + 1 = omega arith in
    let bound = c.in_ok-bound.ensures ∙ ap (λ (o : Operator). shape_bound shapes (nodes_in c.ops.domains) (shape_of o)) (sym op.0) in
    subst (λ (n : ℕ). AreNodeDomains c.push.new.self (known_below shapes plan.ops n)) next
    (domains_more shapes plan.ops c.ops.op-index c.ops.domains c.push.new.self c.ops.invariant (rw bound at c.in_ok-push.ensures))
