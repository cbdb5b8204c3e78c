use Rattle.std.proofs.Common.{ap, ◌∙◌}
use Rattle.lxp_core.specs.Open.{node}
use Rattle.lxp_core.specs.Plain.{plain, put_all}
use Rattle.lxp_core.proofs.Plains.{put_all-push_node}
use Rattle.bracket_wrap.proofs.bracket.BracketDoc.push_node.Goals as goal

pub returns : goal.returns
returns c = λ rest.
    let before = c.args.list.now.items in
    ap (λ ts. put_all ts rest) (rw (c.make_room.ensures.items) at c.push_reserved.ensures.items)
    ∙ put_all-push_node before c.in_ok-label.label c.args.kids rest
    ∙ ap (λ label. put_all before (node label (plain c.args.kids.items) rest)) c.in_ok-label.ensures
