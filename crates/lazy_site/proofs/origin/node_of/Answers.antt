use Rattle.lazy_plan.specs.Bench.{state_of}
use Rattle.lazy_site.proofs.Making.{node_made}
use Rattle.lazy_site.proofs.origin.node_of.Goals as goal

pub returns : goal.returns
returns c = λ view h i. node_made (state_of view c.args.bench.now) h.fixed.typed c.args.op c.requires.op c.args.c.now c.args.v c.node.result.0 c.node.result.1 c.requires.node (c.node.ensures.spot view i)
