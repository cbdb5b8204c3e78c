use Rattle.std.proofs.Common.{rules, ◌≡◌, ◌<◌, ◌≤◌, ◌+◌, ◌*◌, ◌^◌, ◌∙◌, ap, arith}
use Rattle.wire_text.specs.Wired.{nil, node, size_of, total_of}
use Rattle.wire_text.specs.Plain.{plain, put}
use Rattle.wire_text.proofs.Trees.{put-node, size_at}
use Rattle.lxp_remote.proofs.Ruled.{total-step, sums_if, no_sum}
use Rattle.lxp_remote.proofs.rules.+weigh.Goals as goal

pub tree_total-list_total-requires : goal.tree_total-list_total-requires
tree_total-list_total-requires t c =
    let kids = c.in-Node.kids.items in
    let is : put c.args.tree.now nil ≡ node c.in-Node.label (plain kids) nil = ap (λ u. put u nil) c.in-Node.is ∙ put-node c.in-Node.label c.in-Node.kids nil in
    let smaller : 2 * size_of (plain c.deref.result.now) + 1 < 2 * size_of (put c.args.tree.now nil) =
    omega (arith, ap size_of is, ap (λ ts. size_of (plain ts)) c.deref.ensures.value) in
    search rules

pub list_total-tree_total-requires : goal.list_total-tree_total-requires
list_total-tree_total-requires t c =
    let smaller : 2 * size_of (put c.tree-item.result nil) < 2 * size_of (plain c.args.trees.now) + 1 =
    omega (arith, size_at c.args.trees.now c.loop-tree.tree-index c.tree-item.result (omega arith) c.tree-item.is) in
    search rules

pub tree_total-returns-in_err-list_total-in-Node : goal.tree_total-returns-in_err-list_total-in-Node
tree_total-returns-in_err-list_total-in-Node t c =
    let is : put c.args.tree.now nil ≡ node c.in-Node.label (plain c.in-Node.kids.items) nil = ap (λ u. put u nil) c.in-Node.is ∙ put-node c.in-Node.label c.in-Node.kids nil in
    let large : 2 ^ 128 ≤ total_of (put c.args.tree.now nil) = omega (arith, c.in_err-list_total-in-Node.ensures, ap total_of is, ap (λ ts. total_of (plain ts)) c.deref.ensures.value) in
    rw c.from_residual.ensures large

pub tree_total-returns-in_ok-list_total-in-Node : goal.tree_total-returns-in_ok-list_total-in-Node
tree_total-returns-in_ok-list_total-in-Node t c =
    let is : put c.args.tree.now nil ≡ node c.in-Node.label (plain c.in-Node.kids.items) nil = ap (λ u. put u nil) c.in-Node.is ∙ put-node c.in-Node.label c.in-Node.kids nil in
    let sum : c.in_ok-list_total-in-Node.field-0 + 1 ≡ total_of (put c.args.tree.now nil) =
    omega (arith, c.in_ok-list_total-in-Node.ensures, ap total_of is, ap (λ ts. total_of (plain ts)) c.deref.ensures.value) in
    sums_if c.checked_add.result (c.in_ok-list_total-in-Node.field-0 + 1) (total_of (put c.args.tree.now nil)) c.checked_add.ensures sum

pub list_total-returns-in_err-tree_total : goal.list_total-returns-in_err-tree_total
list_total-returns-in_err-tree_total t c =
    let ts = c.args.trees.now in
    let i = c.loop-tree.tree-index in
    let step = total-step ts i c.tree-item.result (omega arith) c.tree-item.is in
    let large : 2 ^ 128 ≤ total_of (plain ts) = omega (arith, c.in_err-tree_total.ensures, step, c.loop-tree.invariant) in
    rw c.from_residual.ensures large

pub list_total-loop-tree-preserved : goal.list_total-loop-tree-preserved
list_total-loop-tree-preserved t c =
    let ts = c.args.trees.now in
    let i = c.loop-tree.tree-index in
    let step = total-step ts i c.tree-item.result (omega arith) c.tree-item.is in
    omega (arith, c.in_ok-sum.ensures.1, c.in_ok-tree_total.ensures, step, c.loop-tree.invariant)

pub list_total-returns-in_err-sum : goal.list_total-returns-in_err-sum
list_total-returns-in_err-sum t c =
    let ts = c.args.trees.now in
    let i = c.loop-tree.tree-index in
    let step = total-step ts i c.tree-item.result (omega arith) c.tree-item.is in
    let large : 2 ^ 128 ≤ total_of (plain ts) = omega (arith, no_sum _ c.in_err-sum.ensures, c.in_ok-tree_total.ensures, step, c.loop-tree.invariant) in
    rw c.from_residual-in_err-sum.ensures large
