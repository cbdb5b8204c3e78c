use Rattle.std.proofs.Common.{◌≡◌, ap, sym, ◌∙◌, [], ◌∷◌}
use Rattle.lxp_core.specs.Open.{nil as open_nil, node as open_node, open_followed}
use Rattle.lxp_core.specs.Plain.{plain as open_plain, put as open_put}
use Rattle.lxp_core.proofs.Plains.{put-node as open_put-node, plain-append}
use Rattle.wire_text.specs.Wired.{nil, node, without_weights}
use Rattle.wire_text.specs.Plain.{plain, put}
use Rattle.wire_text.proofs.Trees.{put-node, without_weights-followed}
use Rattle.wire_text.proofs.Built.{plain-push}
use Rattle.lxp_remote.proofs.opening.+open.Goals as goal

pub open_tree-returns-in_ok-kids-in-Node : goal.open_tree-returns-in_ok-kids-in-Node
open_tree-returns-in_ok-kids-in-Node t c =
    let kids = c.in-Node.kids.items in
    let is : put c.args.tree nil ≡ node c.in-Node.label (plain kids) nil = ap (λ u. put u nil) c.in-Node.is ∙ put-node c.in-Node.label c.in-Node.kids nil in
    open_put-node c.in-Node.label c.in_ok-kids-in-Node.kids open_nil
    ∙ ap (λ o. open_node c.in-Node.label o open_nil) c.in_ok-kids-in-Node.ensures
    ∙ sym (ap without_weights is)

pub open_list-loop-tree-preserved : goal.open_list-loop-tree-preserved
open_list-loop-tree-preserved t c =
    let opened = c.in_ok-open_tree.field-0 in
    ap open_plain c.in_ok-push.ensures.items
    ∙ plain-append c.loop-tree.list.items (opened ∷ [])
    ∙ ap (λ o. open_followed o (open_put opened open_nil)) c.loop-tree.invariant
    ∙ ap (open_followed (without_weights (plain c.loop-tree.yielded))) c.in_ok-open_tree.ensures
    ∙ sym (without_weights-followed (plain c.loop-tree.yielded) (put c.in-Some.tree nil))
    ∙ sym (ap without_weights (plain-push c.loop-tree.yielded c.in-Some.tree))
