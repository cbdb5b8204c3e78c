use Rattle.std.proofs.Common.{rules, ◌<◌, ◌+◌, ◌∙◌, ap, sym, subst, arith}
use Rattle.lxp_core.specs.Open.{IsApart}
use Rattle.wire_text.specs.Wired.{nil, size_of, without_weights}
use Rattle.wire_text.specs.Plain.{plain, put}
use Rattle.wire_text.proofs.Trees.{put-node, put-hole, size_at}
use Rattle.lxp_remote.proofs.Ruled.{SameApart, node_at, hole_at_index, pass_node, pass_hole, two_holes, holes_below}
use Rattle.lxp_remote.proofs.rules.+is_apart.Goals as goal
use Rattle.lxp_remote.proofs.rules.+is_apart.Goals.{in-Node+else-not-is_apart, in-Hole+else-after_hole}

pub is_apart-requires : goal.is_apart-requires
is_apart-requires t c =
    let at = size_at c.args.trees.now c.loop-tree.tree-index c.tree-item.result (omega arith) c.tree-item.is in
    let one = ap size_of (ap (λ u. put u nil) c.in-Node.is ∙ put-node c.in-Node.label c.in-Node.kids nil) in
    let smaller : size_of (plain c.deref.result.now) < size_of (plain c.args.trees.now) = omega (arith, at, one, ap (λ ts. size_of (plain ts)) c.deref.ensures.value) in
    search rules

pub returns-then-not-is_apart : goal.returns-then-not-is_apart
returns-then-not-is_apart t c =
    let ts = c.args.trees.now in
    let i = c.loop-tree.tree-index in
    let n = c.in-Node in
    let read = node_at ts i c.tree-item.result n.label (plain n.kids.items) (omega arith) c.tree-item.is (λ r. ap (λ u. put u r) n.is ∙ put-node n.label n.kids r) in
    holes_below ts i c.loop-tree.after_hole n.label (plain n.kids.items) read
    (λ a. c.if-not-is_apart.ensures (subst (λ us. IsApart (without_weights (plain us))) (sym c.deref.ensures.value) a)) c.loop-tree.invariant

pub returns-then-after_hole : goal.returns-then-after_hole
returns-then-after_hole t c =
    let ts = c.args.trees.now in
    let i = c.loop-tree.tree-index in
    let h = c.in-Hole.field-0 in
    let read = hole_at_index ts i c.tree-item.result h.id h.weight (omega arith) c.tree-item.is (λ r. ap (λ u. put u r) c.in-Hole.is ∙ put-hole h r) in
    two_holes ts i h.id read (subst (SameApart ts i) c.if-after_hole.true c.loop-tree.invariant)

pub loop-tree-preserved : goal.loop-tree-preserved
loop-tree-preserved t c =
    let ts = c.args.trees.now in
    let i = c.loop-tree.tree-index in
    elim c.match-tree.branch [
      | in-Node+else-not-is_apart w ↦ (
          let n = w.in-Node in
          let read = node_at ts i c.tree-item.result n.label (plain n.kids.items) (omega arith) c.tree-item.is (λ r. ap (λ u. put u r) n.is ∙ put-node n.label n.kids r) in
          subst (SameApart ts (i + 1)) (sym w.after_hole-is)
          (pass_node ts i c.loop-tree.after_hole n.label (plain n.kids.items) read (subst (λ us. IsApart (without_weights (plain us))) w.deref.ensures.value w.if-not-is_apart.ensures) c.loop-tree.invariant))
      | in-Hole+else-after_hole w ↦ (
          let h = w.in-Hole.field-0 in
          let read = hole_at_index ts i c.tree-item.result h.id h.weight (omega arith) c.tree-item.is (λ r. ap (λ u. put u r) w.in-Hole.is ∙ put-hole h r) in
          subst (SameApart ts (i + 1)) (sym w.after_hole-is) (pass_hole ts i h.id read (subst (SameApart ts i) w.if-after_hole.false c.loop-tree.invariant)))
    ]
