use Rattle.std.proofs.Common.{◌+◌, ◌∙◌, ap, sym, arith, drop}
use Rattle.std.specs.Prelude.{◌||◌}
use Rattle.lxp_core.specs.Open.{nil}
use Rattle.lxp_core.specs.Plain.{plain, put}
use Rattle.lxp_core.proofs.Plains.{put-node}
use Rattle.far_links.specs.Holes.{names_root}
use Rattle.far_links.proofs.Naming.{names_root-step, one_node}
use Rattle.far_links.proofs.holes.+look.Goals as goal

pub list_names_root-returns-then-tree_names_root : goal.list_names_root-returns-then-tree_names_root
list_names_root-returns-then-tree_names_root t c =
    let ts = c.args.trees.now in
    let i = c.loop-tree.tree-index in
    sym (sym c.loop-tree.invariant ∙ names_root-step ts i c.tree-item.result (omega arith) c.tree-item.is
    ∙ ap (λ b. b || names_root (plain (drop (i + 1) ts))) (sym c.tree_names_root.ensures ∙ c.if-tree_names_root.true))

pub list_names_root-loop-tree-preserved : goal.list_names_root-loop-tree-preserved
list_names_root-loop-tree-preserved t c =
    let ts = c.args.trees.now in
    let i = c.loop-tree.tree-index in
    ap (λ b. b || names_root (plain (drop (i + 1) ts))) (sym c.if-tree_names_root.false ∙ c.tree_names_root.ensures)
    ∙ sym (names_root-step ts i c.tree-item.result (omega arith) c.tree-item.is) ∙ c.loop-tree.invariant

pub tree_names_root-returns-in-Node : goal.tree_names_root-returns-in-Node
tree_names_root-returns-in-Node t c =
    c.list_names_root.ensures ∙ ap (λ ts. names_root (plain ts)) c.deref.ensures.value ∙ one_node (names_root (plain c.in-Node.kids.items))
    ∙ sym (ap (λ u. names_root (put u nil)) c.in-Node.is ∙ ap names_root (put-node c.in-Node.label c.in-Node.kids nil))
