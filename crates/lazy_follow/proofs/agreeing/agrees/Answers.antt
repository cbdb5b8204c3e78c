use Rattle.std.proofs.Common.{arith, suc, ◌<◌, length}
use Rattle.plan_core.specs.PlanMade.{plan_value}
use Rattle.plan_evidence.proofs.HeldApart.{known_below}
use Rattle.lazy_plan.specs.Bench.{state_of, documents}
use Rattle.lazy_follow.proofs.agreeing.agrees.Goals as goal

pub agrees_below-requires-clause-nodes : goal.agrees_below-requires-clause-nodes
agrees_below-requires-clause-nodes c =
    let p = plan_value c.args.bench.now.fixed.plan in
    let h = c.requires.1 in
    let n = c.args.evidence.now.op in
    let w = h.2.0.within in
    let b : n < length p.ops = omega (arith, w) in
    (known_below p h.1.valid (documents (state_of h.0 c.args.bench.now)) (suc n) n (omega arith) b).nodes
