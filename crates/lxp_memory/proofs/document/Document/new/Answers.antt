use Rattle.std.proofs.Common.{arith}
use Rattle.lxp_memory.proofs.Totals.{total_bound}
use Rattle.lxp_memory.proofs.document.Document.new.Goals as goal

pub sums_of-requires-clause-bound : goal.sums_of-requires-clause-bound
sums_of-requires-clause-bound c =
    let nodes = c.in_ok-nodes.nodes in
    rw c.deref.ensures.value (total_bound nodes.items (omega (arith, nodes.ok.0, nodes.small)) c.in_ok-nodes.ensures.bound)
