use Rattle.std.proofs.Common.{ap, sym, ◌∙◌}
use Rattle.lxp_memory.specs.Span.{has_rest}
use Rattle.lxp_memory.proofs.NodeLaws.{node_at}
use Rattle.lxp_memory.proofs.ChunkLaws.{node_there, rest_there, no_rest}
use Rattle.lxp_memory.proofs.document.Document.remaining.Goals as goal

pub returns-then-span-index : goal.returns-then-span-index
returns-then-span-index c =
    let ns = c.args.self.now.nodes.items in
    let p = c.in_ok-span.span in
    let found = c.in_ok-span.ensures in
    let read = node_at ns p.node _ (node_there ns p found.1) c.index.ensures in
    (found.0, ap (has_rest ns) (sym found.0) ∙ rest_there ns p found.1 (c.if-span-index.true ∙ sym read.count))

pub returns : goal.returns
returns c =
    let ns = c.args.self.now.nodes.items in
    let p = c.in_ok-span.span in
    let found = c.in_ok-span.ensures in
    let read = node_at ns p.node _ (node_there ns p found.1) c.index.ensures in
    ap (has_rest ns) (sym found.0) ∙ no_rest ns p (λ e. c.if-span-index.false (e ∙ read.count))
