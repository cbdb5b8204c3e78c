use Rattle.std.proofs.Common.{subst}
use Rattle.lazy_plan.specs.Bench.{state_of}
use Rattle.lazy_site.specs.Origins.{IsOriginOf}
use Rattle.lazy_site.proofs.origin.tree_of.Goals as goal

pub returns-in-Node : goal.returns-in-Node
returns-in-Node c = λ view h i. subst (IsOriginOf (state_of view c.args.bench.now) c.args.op c.args.c.now c.args.v) c.in-Node.is (c.in_ok-op.ensures view h i)
