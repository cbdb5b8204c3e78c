use Rattle.std.proofs.Common.{arith, sym}
use Rattle.lxp_memory.proofs.NodeLaws.{node_at}
use Rattle.lxp_memory.proofs.document.Document.first.Goals as goal

pub overflow_add-result-2 : goal.overflow_add-result-2
overflow_add-result-2 c =
    let d = c.args.self.now in
    let read = node_at d.nodes.items c.args.node _ c.requires c.index.ensures in
    omega (arith, read.first, d.within c.args.node c.requires, d.nodes.small)

pub returns-clause-first : goal.returns-clause-first
returns-clause-first c =
    let d = c.args.self.now in
    let read = node_at d.nodes.items c.args.node _ c.requires c.index.ensures in
    sym read.first

pub returns-clause-within : goal.returns-clause-within
returns-clause-within c =
    let d = c.args.self.now in
    let read = node_at d.nodes.items c.args.node _ c.requires c.index.ensures in
    omega (arith, read.first, d.within c.args.node c.requires)
