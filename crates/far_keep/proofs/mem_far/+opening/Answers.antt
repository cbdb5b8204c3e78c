use Rattle.std.proofs.Common.{◌∙◌, ◌+◌, ◌*◌, ◌<◌, [], ◌∷◌, take, ap, sym, arith, rules}
use Rattle.mix_tree.specs.Forest.{forest_of}
use Rattle.mix_tree.specs.Weight.{nodes_of, tree_nodes}
use Rattle.lxp_core.specs.Open.{nil, node, open_followed, without_holes}
use Rattle.lxp_core.specs.Plain.{plain, put}
use Rattle.lxp_core.proofs.Plains.{plain-append, put-node}
use Rattle.far_keep.proofs.Trees.{nodes_among, without_holes_next}
use Rattle.far_keep.proofs.mem_far.+opening.Goals as goal

pub open_list-open_tree-requires : goal.open_list-open_tree-requires
open_list-open_tree-requires t c =
    let fewer : 2 * tree_nodes c.tree-item.result < 2 * nodes_of (forest_of c.args.trees.now) + 1 = omega (arith, nodes_among c.args.trees.now c.trees.tree-index c.tree-item.result c.trees-test.true c.tree-item.is) in
    search rules

pub open_list-trees-preserved : goal.open_list-trees-preserved
open_list-trees-preserved t c =
    let opened = c.in_ok-open_tree.field-0 in
    ap plain c.in_ok-push.ensures.items
    ∙ plain-append c.trees.list.items (opened ∷ [])
    ∙ ap (λ o. open_followed o (put opened nil)) c.trees.invariant
    ∙ ap (open_followed (without_holes (forest_of (take c.trees.tree-index c.args.trees.now)))) c.in_ok-open_tree.ensures
    ∙ sym (without_holes_next c.args.trees.now c.trees.tree-index c.tree-item.result c.trees-test.true c.tree-item.is)

pub open_tree-returns : goal.open_tree-returns
open_tree-returns t c =
    put-node c.in_ok-label.label c.in_ok-kids.kids nil
    ∙ ap (λ o. node c.in_ok-label.label o nil) (c.in_ok-kids.ensures ∙ ap without_holes c.kids.ensures)
    ∙ ap (λ l. node l (without_holes c.args.tree.now.kids) nil) (c.in_ok-label.ensures ∙ c.label.ensures)
