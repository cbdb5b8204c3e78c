use Rattle.std.proofs.Common.{◌≡◌, ◌<◌, ◌-◌, suc, arith, length, ◌∙◌}
use Rattle.plan_class.specs.Agree.{lists_of}
use Rattle.plan_class.specs.VarDomains.{domain_in}
use Rattle.plan_class.proofs.ClassIs.{bounds_at}
use Rattle.plan_class.proofs.classing.constant.Goals as goal

pub ops-preserved : goal.ops-preserved
ops-preserved c =
    let within = c.ops.invariant.1 in
    let some = c.ops-test.true in
    let at : c.ops.at ≡ suc (c.ops.at - 1) = omega (arith, some) in
    let b : c.ops.at - 1 < length c.args.ops.now = omega (arith, some, within) in (
      c.larger-found.ensures
          ∙ bounds_at (λ i. lists_of (domain_in c.args.domains.now)) c.args.ops.now (c.ops.at - 1) c.ops.at c.index-ops-at.result c.op_bound.result c.ops.found at b c.index-ops-at.is c.op_bound.ensures c.ops.invariant.0,
      omega (arith, within),
    )
