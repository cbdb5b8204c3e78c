use Rattle.std.proofs.Common.{ap, sym, ◌∙◌}
use Rattle.lxp_core.specs.Open.{node}
use Rattle.lxp_core.specs.Plain.{plain, put_all}
use Rattle.lxp_memory.proofs.NodeLaws.{node_at}
use Rattle.lxp_core.proofs.Plains.{put_all-push_node}
use Rattle.lxp_memory.proofs.document.Document.push_node.Goals as goal

pub returns : goal.returns
returns c = λ rest.
    let read = node_at c.args.self.now.nodes.items c.args.i _ c.requires c.index.ensures in
    let before = c.args.list.now.items in
    ap (λ ts. put_all ts rest) c.in_ok-push.ensures.items
    ∙ put_all-push_node before c.in_ok-label.label c.args.kids rest
    ∙ ap (λ label. put_all before (node label (plain c.args.kids.items) rest)) (c.in_ok-label.ensures ∙ sym read.label)
