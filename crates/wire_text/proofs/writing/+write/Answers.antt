use Rattle.std.proofs.Common.{rules, ◌≡◌, ◌<◌, ◌+◌, ◌*◌, ◌^◌, ℕ, List, ◌++◌, ◌∷◌, [], ◌∙◌, ap, sym, subst, arith, length, drop, append_assoc}
use Rattle.mix_base.proofs.Lists.{append_nil}
use Rattle.lxp_core.specs.Small.{IsSmallWithin}
use Rattle.wire_text.specs.Wired.{nil, node, hole, without_weights, size_of}
use Rattle.wire_text.specs.Bytes.{u32_bytes, label_bytes, hole_bytes, list_bytes, trees_bytes}
use Rattle.wire_text.specs.Plain.{plain, put}
use Rattle.wire_text.proofs.Trees.{on_ok, put-node, put-hole, small_node, small_at, size_at, count_of-plain, trees_bytes-step}
use Rattle.wire_text.proofs.writing.+write.Goals as goal

pub push_tree-push_list-requires : goal.push_tree-push_list-requires
push_tree-push_list-requires t c =
    let kids = c.in-Node.kids.items in
    let is : put c.args.tree.now nil ≡ node c.in-Node.label (plain kids) nil = ap (λ u. put u nil) c.in-Node.is ∙ put-node c.in-Node.label c.in-Node.kids nil in
    let read = small_node c.requires.0 c.in-Node.label (plain kids) (subst (λ o. IsSmallWithin c.requires.0 (without_weights o)) is c.requires.1) in
    let few : length c.deref.result.now < 2 ^ 32 = omega (arith, read.few, count_of-plain kids, ap length c.deref.ensures.value) in
    let small : (n : ℕ) × IsSmallWithin n (without_weights (plain c.deref.result.now)) = (read.small.0, subst (λ ts. IsSmallWithin read.small.0 (without_weights (plain ts))) (sym c.deref.ensures.value) read.small.1) in
    let smaller : 2 * size_of (plain c.deref.result.now) + 1 < 2 * size_of (put c.args.tree.now nil) =
    omega (arith, ap size_of is, ap (λ ts. size_of (plain ts)) c.deref.ensures.value) in
    search rules

pub push_list-push_tree-requires : goal.push_list-push_tree-requires
push_list-push_tree-requires t c =
    let small : (n : ℕ) × IsSmallWithin n (without_weights (put c.tree-item.result nil)) =
    (c.requires.small.0, small_at c.requires.small.0 c.args.trees.now c.loop-tree.tree-index c.tree-item.result (omega arith) c.tree-item.is c.requires.small.1) in
    let smaller : 2 * size_of (put c.tree-item.result nil) < 2 * size_of (plain c.args.trees.now) + 1 =
    omega (arith, size_at c.args.trees.now c.loop-tree.tree-index c.tree-item.result (omega arith) c.tree-item.is) in
    search rules

pub push_list-loop-tree-init : goal.push_list-loop-tree-init
push_list-loop-tree-init t c =
    let ts = c.args.trees.now in
    let out = c.args.out.now.items in
    ap (λ x. x ++ trees_bytes (plain ts)) c.in_ok-push_u32.ensures
    ∙ append_assoc out (u32_bytes (length ts)) (trees_bytes (plain ts))
    ∙ ap (λ n. out ++ (u32_bytes n ++ trees_bytes (plain ts))) (sym (count_of-plain ts))

pub push_list-loop-tree-preserved : goal.push_list-loop-tree-preserved
push_list-loop-tree-preserved t c =
    let ts = c.args.trees.now in
    let i = c.loop-tree.tree-index in
    let later = trees_bytes (plain (drop (i + 1) ts)) in
    ap (λ x. x ++ later) c.in_ok-push_tree.ensures
    ∙ append_assoc c.loop-tree.out.items (trees_bytes (put c.tree-item.result nil)) later
    ∙ ap (λ x. c.loop-tree.out.items ++ x) (sym (trees_bytes-step ts i c.tree-item.result (omega arith) c.tree-item.is))
    ∙ c.loop-tree.invariant

pub push_tree-returns-in_ok-push_label-in-Node : goal.push_tree-returns-in_ok-push_label-in-Node
push_tree-returns-in_ok-push_label-in-Node t c =
    let label = c.in-Node.label in
    let kids = c.in-Node.kids.items in
    let out = c.args.out.now.items in
    let is : put c.args.tree.now nil ≡ node label (plain kids) nil = ap (λ u. put u nil) c.in-Node.is ∙ put-node label c.in-Node.kids nil in
    on_ok c.push_list.result (λ (e : c.push_list.new.out.items ≡ c.push_label.new.out.items ++ list_bytes (plain c.deref.result.now)).
    e ∙ ap (λ ts. c.push_label.new.out.items ++ list_bytes (plain ts)) c.deref.ensures.value
    ∙ ap (λ x. x ++ list_bytes (plain kids)) (c.in_ok-push_label-in-Node.ensures.bytes ∙ ap (λ x. x ++ label_bytes label) c.in_ok-push-in-Node.ensures.items)
    ∙ regrouped out (label_bytes label) (list_bytes (plain kids))
    ∙ ap (λ o. out ++ trees_bytes o) (sym is)) c.push_list.ensures
  where
    regrouped : (a b d : List ℕ) → ((a ++ 0 ∷ []) ++ b) ++ d ≡ a ++ 0 ∷ (b ++ (d ++ []))
    regrouped a b d = append_assoc (a ++ 0 ∷ []) b d ∙ append_assoc a (0 ∷ []) (b ++ d) ∙ ap (λ x. a ++ 0 ∷ (b ++ x)) (sym (append_nil d))

pub push_tree-returns-in_ok-push-in-Hole : goal.push_tree-returns-in_ok-push-in-Hole
push_tree-returns-in_ok-push-in-Hole t c =
    let h = c.in-Hole.hole in
    let out = c.args.out.now.items in
    let is : put c.args.tree.now nil ≡ hole h.id h.weight nil = ap (λ u. put u nil) c.in-Hole.is ∙ put-hole h nil in
    on_ok c.push_hole.result (λ (e : c.push_hole.new.out.items ≡ c.push-in-Hole.new.self.items ++ hole_bytes h.id h.weight).
    e ∙ ap (λ x. x ++ hole_bytes h.id h.weight) c.in_ok-push-in-Hole.ensures.items
    ∙ append_assoc out (1 ∷ []) (hole_bytes h.id h.weight)
    ∙ ap (λ x. out ++ 1 ∷ x) (sym (append_nil (hole_bytes h.id h.weight)))
    ∙ ap (λ o. out ++ trees_bytes o) (sym is)) c.push_hole.ensures
