use Rattle.std.proofs.Common.{ap, ◌∙◌}
use Rattle.lxp_core.specs.Plain.{put_all}
use Rattle.lxp_core.proofs.Plains.{put_all-push_node}
use Rattle.row_document.proofs.nodes.push_node.Goals as goal

pub returns : goal.returns
returns c = λ rest. ap (λ ts. put_all ts rest) c.in_ok-push.ensures.items ∙ put_all-push_node c.args.list.now.items c.args.label c.args.kids rest
