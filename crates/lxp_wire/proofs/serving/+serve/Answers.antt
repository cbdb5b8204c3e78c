use Rattle.std.proofs.Common.{rules, ◌≡◌, ◌<◌, ◌+◌, ◌*◌, ◌^◌, ℕ, List, ◌++◌, ◌∷◌, [], ◌∙◌, ap, sym, subst, arith, length, drop, append_assoc}
use Rattle.std.proofs.lemmas.Str.{IsUtf8-had}
use Rattle.mix_base.proofs.Lists.{append_nil}
use Rattle.lxp_core.specs.Open as plain
use Rattle.lxp_core.specs.Plain.{put, plain as plain_of}
use Rattle.lxp_core.specs.Small.{IsSmallWithin}
use Rattle.lxp_core.proofs.Plains.{put-node, put-hole}
use Rattle.wire_text.specs.Wired.{count_of, with_weights}
use Rattle.wire_text.specs.Bytes.{u32_bytes, label_bytes, hole_bytes, list_bytes, trees_bytes, AreTrees}
use Rattle.lxp_wire.proofs.Served.{size_in, open_size_at, open_small_at, small_open, tops_of-plain, without-with, served-step, are_step}
use Rattle.lxp_core.specs.Small as small
use Rattle.lxp_wire.proofs.serving.+serve.Goals as goal

pub push_open-push_open_list-requires : goal.push_open-push_open_list-requires
push_open-push_open_list-requires g t c =
    let kids = c.in-Node.kids.items in
    let is : put c.args.tree.now plain.nil ≡ plain.node c.in-Node.label (plain_of kids) plain.nil = ap (λ u. put u plain.nil) c.in-Node.is ∙ put-node c.in-Node.label c.in-Node.kids plain.nil in
    let read = small_open c.requires.small.0 c.in-Node.label (plain_of kids) (subst (IsSmallWithin c.requires.small.0) is c.requires.small.1) in
    let few : length c.deref.result.now < 2 ^ 32 = omega (arith, read.few, tops_of-plain kids, ap length c.deref.ensures.value) in
    let small : (n : ℕ) × IsSmallWithin n (plain_of c.deref.result.now) = (read.small.0, subst (λ ts. IsSmallWithin read.small.0 (plain_of ts)) (sym c.deref.ensures.value) read.small.1) in
    let smaller : 2 * size_in (plain_of c.deref.result.now) + 1 < 2 * size_in (put c.args.tree.now plain.nil) =
    omega (arith, ap size_in is, ap (λ ts. size_in (plain_of ts)) c.deref.ensures.value) in
    search rules

pub push_open_list-push_open-requires : goal.push_open_list-push_open-requires
push_open_list-push_open-requires g t c =
    let small : (n : ℕ) × IsSmallWithin n (put c.tree-item.result plain.nil) =
    (c.requires.small.0, open_small_at c.requires.small.0 c.args.trees.now c.loop-tree.tree-index c.tree-item.result (omega arith) c.tree-item.is c.requires.small.1) in
    let smaller : 2 * size_in (put c.tree-item.result plain.nil) < 2 * size_in (plain_of c.args.trees.now) + 1 =
    omega (arith, open_size_at c.args.trees.now c.loop-tree.tree-index c.tree-item.result (omega arith) c.tree-item.is) in
    search rules

pub push_open_list-loop-tree-init : goal.push_open_list-loop-tree-init
push_open_list-loop-tree-init g t c =
    let ts = c.args.trees.now in
    let out = c.args.out.now.items in
    let w = (g.S.Sources.view c.args.sources.now).weight c.args.s in
    let o = with_weights w (plain_of ts) in
    let same : length ts ≡ count_of o = sym (tops_of-plain ts) ∙ ap small.tops_of (sym (without-with w (plain_of ts))) in
    record {
      bytes = ap (λ x. x ++ trees_bytes o) c.in_ok-push_u32.ensures ∙ append_assoc out (u32_bytes (length ts)) (trees_bytes o) ∙ ap (λ n. out ++ (u32_bytes n ++ trees_bytes o)) same;
      trees = λ are. are;
    }

pub push_open_list-loop-tree-preserved : goal.push_open_list-loop-tree-preserved
push_open_list-loop-tree-preserved g t c =
    let ts = c.args.trees.now in
    let i = c.loop-tree.tree-index in
    let w = (g.S.Sources.view c.args.sources.now).weight c.args.s in
    let one = trees_bytes (with_weights w (put c.tree-item.result plain.nil)) in
    let later = trees_bytes (with_weights w (plain_of (drop (i + 1) ts))) in
    record {
      bytes = ap (λ x. x ++ later) c.in_ok-push_open.ensures.bytes ∙ append_assoc c.loop-tree.out.items one later
          ∙ ap (λ x. c.loop-tree.out.items ++ x) (sym (served-step w ts i c.tree-item.result (omega arith) c.tree-item.is)) ∙ c.loop-tree.invariant.bytes;
      trees = are_step w ts i c.tree-item.result (omega arith) c.tree-item.is c.in_ok-push_open.ensures.trees c.loop-tree.invariant.trees;
    }

pub push_open-returns-in_ok-push_open_list-in-Node-clause-bytes : goal.push_open-returns-in_ok-push_open_list-in-Node-clause-bytes
push_open-returns-in_ok-push_open_list-in-Node-clause-bytes g t c =
    let label = c.in-Node.label in
    let kids = c.in-Node.kids.items in
    let out = c.args.out.now.items in
    let w = (g.S.Sources.view c.args.sources.now).weight c.args.s in
    let o = with_weights w (plain_of kids) in
    let is : put c.args.tree.now plain.nil ≡ plain.node label (plain_of kids) plain.nil = ap (λ u. put u plain.nil) c.in-Node.is ∙ put-node label c.in-Node.kids plain.nil in
    c.in_ok-push_open_list-in-Node.ensures.bytes ∙ ap (λ ts. c.push_label.new.out.items ++ list_bytes (with_weights w (plain_of ts))) c.deref.ensures.value
    ∙ ap (λ x. x ++ list_bytes o) (c.in_ok-push_label-in-Node.ensures.bytes ∙ ap (λ x. x ++ label_bytes label) c.in_ok-push-in-Node.ensures.items)
    ∙ regrouped out (label_bytes label) (list_bytes o)
    ∙ ap (λ p. out ++ trees_bytes (with_weights w p)) (sym is)
  where
    regrouped : (a b d : List ℕ) → ((a ++ 0 ∷ []) ++ b) ++ d ≡ a ++ 0 ∷ (b ++ (d ++ []))
    regrouped a b d = append_assoc (a ++ 0 ∷ []) b d ∙ append_assoc a (0 ∷ []) (b ++ d) ∙ ap (λ x. a ++ 0 ∷ (b ++ x)) (sym (append_nil d))

pub push_open-returns-in_ok-push_open_list-in-Node-clause-trees : goal.push_open-returns-in_ok-push_open_list-in-Node-clause-trees
push_open-returns-in_ok-push_open_list-in-Node-clause-trees g t c =
    let label = c.in-Node.label in
    let kids = c.in-Node.kids.items in
    let w = (g.S.Sources.view c.args.sources.now).weight c.args.s in
    let is : put c.args.tree.now plain.nil ≡ plain.node label (plain_of kids) plain.nil = ap (λ u. put u plain.nil) c.in-Node.is ∙ put-node label c.in-Node.kids plain.nil in
    let read = small_open c.requires.small.0 label (plain_of kids) (subst (IsSmallWithin c.requires.small.0) is c.requires.small.1) in
    let few : count_of (with_weights w (plain_of kids)) < 2 ^ 32 = omega (arith, read.few, ap small.tops_of (without-with w (plain_of kids))) in
    let are : AreTrees (with_weights w (plain_of kids)) = subst (λ ts. AreTrees (with_weights w (plain_of ts))) c.deref.ensures.value c.in_ok-push_open_list-in-Node.ensures.trees in
    subst (λ p. AreTrees (with_weights w p)) (sym is) (IsUtf8-had label c.in_ok-push_label-in-Node.ensures.utf8, read.short, few, are, tt)

pub push_open-returns-in_ok-push_hole-in-Hole-clause-bytes : goal.push_open-returns-in_ok-push_hole-in-Hole-clause-bytes
push_open-returns-in_ok-push_hole-in-Hole-clause-bytes g t c =
    let out = c.args.out.now.items in
    let id = c.in-Hole.id in
    let w = (g.S.Sources.view c.args.sources.now).weight c.args.s in
    let is : put c.args.tree.now plain.nil ≡ plain.hole id plain.nil = ap (λ u. put u plain.nil) c.in-Hole.is ∙ put-hole id plain.nil in
    let made = c.whole_hole.result in
    c.in_ok-push_hole-in-Hole.ensures ∙ ap (λ x. x ++ hole_bytes made.id made.weight) c.in_ok-push-in-Hole.ensures.items
    ∙ append_assoc out (1 ∷ []) (hole_bytes made.id made.weight)
    ∙ ap (λ h. out ++ 1 ∷ hole_bytes h made.weight) c.whole_hole.ensures.id ∙ ap (λ v. out ++ 1 ∷ hole_bytes id v) (c.whole_hole.ensures.weight ∙ c.in-Some.ensures.1)
    ∙ ap (λ x. out ++ 1 ∷ x) (sym (append_nil (hole_bytes id (w id))))
    ∙ ap (λ p. out ++ trees_bytes (with_weights w p)) (sym is)
