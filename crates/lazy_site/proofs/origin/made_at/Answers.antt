use Rattle.lazy_plan.specs.Bench.{plan_of}
use Rattle.lazy_site.proofs.Making.{node_here}
use Rattle.lazy_site.proofs.origin.made_at.Goals as goal

pub node_of-source-requires-clause-node : goal.node_of-source-requires-clause-node
node_of-source-requires-clause-node c =
    let b = c.requires.bench in
    node_here (plan_of c.args.bench.now) c.args.op c.args.v c.requires.here (rw c.in-None.is at (c.in_ok-origin.ensures b.0 b.1 b.2))
