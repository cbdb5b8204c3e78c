-- The plain form of the code's lists of trees.
use Rattle.std.proofs.Common.{◌≡◌, ℕ, zero, suc, ◌+◌, ◌<◌, ◌≤◌, ◌^◌, List, [], ◌∷◌, ◌++◌, length, get_or, drop, drop-cons, map, refl, ap, subst, sym, ◌∙◌, append_assoc, arith}
use Rattle.std.specs.Prelude.{Result, Ok, Err, OnOk}
use Rattle.lxp_core.specs.Open.{node as open_node, hole as open_hole, open_followed}
use Rattle.lxp_core.specs.Small.{IsSmallWithin}
use Rattle.wire_text.specs.declared.reply.WireTree.{WireTree}
use Rattle.wire_text.specs.declared.reply.WireTree.TheOpen.{WireTree-F, Node, Hole}
use Rattle.wire_text.specs.declared.reply.WireTree.TheViews.{roll-WireTree}
use Rattle.wire_text.specs.declared.reply.WireTree.TheFolds.{fold-roll-WireTree, fold_out-WireTree}
use Rattle.wire_text.specs.declared.reply.WireTree.TheVariants.{Hole as made_hole, rolls-Hole, Node as made_node, rolls-Node}
use Rattle.wire_text.specs.Wired.{Wired, nil, node, hole, without_weights, count_of, size_of, wired_followed}
use Rattle.wire_text.specs.Bytes.{u32_bytes, hole_bytes, label_bytes, trees_bytes}
use Rattle.wire_text.specs.Plain.{put, put_step, put_all, all_before, plain}

-- of three lists, the first two or the last two may be joined first
pub wired_followed_assoc : (a b c : Wired) → wired_followed (wired_followed a b) c ≡ wired_followed a (wired_followed b c)
wired_followed_assoc nil b c = refl
wired_followed_assoc (node label kids rest) b c = ap (node label kids) (wired_followed_assoc rest b c)
wired_followed_assoc (hole id w rest) b c = ap (hole id w) (wired_followed_assoc rest b c)

-- two lists without the weights
pub without_weights-followed : (a b : Wired) → without_weights (wired_followed a b) ≡ open_followed (without_weights a) (without_weights b)
without_weights-followed nil b = refl
without_weights-followed (node label kids rest) b = ap (open_node label (without_weights kids)) (without_weights-followed rest b)
without_weights-followed (hole id w rest) b = ap (open_hole id) (without_weights-followed rest b)

-- the bytes of two lists
pub trees_bytes-followed : (a b : Wired) → trees_bytes (wired_followed a b) ≡ trees_bytes a ++ trees_bytes b
trees_bytes-followed nil b = refl
trees_bytes-followed (node label kids rest) b =
    ap (λ r. 0 ∷ (label_bytes label ++ ((u32_bytes (count_of kids) ++ trees_bytes kids) ++ r))) (trees_bytes-followed rest b)
    ∙ ap (λ r. 0 ∷ r) (regrouped (label_bytes label) (u32_bytes (count_of kids) ++ trees_bytes kids) (trees_bytes rest) (trees_bytes b))
  where
    regrouped : (p q r s : List ℕ) → p ++ (q ++ (r ++ s)) ≡ (p ++ (q ++ r)) ++ s
    regrouped p q r s = simp append_assoc
trees_bytes-followed (hole id w rest) b =
    ap (λ r. 1 ∷ (hole_bytes id w ++ r)) (trees_bytes-followed rest b) ∙ ap (λ r. 1 ∷ r) (sym (append_assoc (hole_bytes id w) (trees_bytes rest) (trees_bytes b)))

-- how many trees two lists have
pub count_of-followed : (a b : Wired) → count_of (wired_followed a b) ≡ count_of a + count_of b
count_of-followed nil b = omega arith
count_of-followed (node label kids rest) b = omega (arith, count_of-followed rest b)
count_of-followed (hole id w rest) b = omega (arith, count_of-followed rest b)

-- how many trees two lists have at all depths
pub size_of-followed : (a b : Wired) → size_of (wired_followed a b) ≡ size_of a + size_of b
size_of-followed nil b = omega arith
size_of-followed (node label kids rest) b = omega (arith, size_of-followed rest b)
size_of-followed (hole id w rest) b = omega (arith, size_of-followed rest b)

-- parts of a small list are small
pub small_first : (n : ℕ) (a b : Wired) → IsSmallWithin n (without_weights (wired_followed a b)) → IsSmallWithin n (without_weights a)
small_first n nil b h = tt
small_first zero (node label kids rest) b h = h
small_first zero (hole id w rest) b h = h
small_first (suc n) (node label kids rest) b h = (h.0, h.1, h.2, small_first (suc n) rest b h.3)
small_first (suc n) (hole id w rest) b h = small_first (suc n) rest b h

-- the second of two lists that are small together is small
pub small_second : (n : ℕ) (a b : Wired) → IsSmallWithin n (without_weights (wired_followed a b)) → IsSmallWithin n (without_weights b)
small_second n nil b h = h
small_second zero (node label kids rest) b h = absurd h
small_second zero (hole id w rest) b h = absurd h
small_second (suc n) (node label kids rest) b h = small_second (suc n) rest b h.3
small_second (suc n) (hole id w rest) b h = small_second (suc n) rest b h

all_before-map : (ts : List WireTree) (rest : Wired) → all_before (map put ts) rest ≡ put_all ts rest
all_before-map [] rest = refl
all_before-map (t ∷ ts) rest = ap (put t) (all_before-map ts rest)

-- a node as one layer, before a list
pub put-layer_node : (label : List ℕ) (kids : _) (rest : Wired) → put (roll-WireTree (Node label kids)) rest ≡ node label (plain kids.items) rest
put-layer_node label kids rest =
    ap (λ f. f rest) (fold-roll-WireTree (Wired → Wired) put_step (Node label kids)) ∙ ap (λ o. node label o rest) (all_before-map kids.items nil)

-- a hole as one layer, before a list
pub put-layer_hole : (h : _) (rest : Wired) → put (roll-WireTree (Hole h)) rest ≡ hole h.id h.weight rest
put-layer_hole h rest = ap (λ f. f rest) (fold-roll-WireTree (Wired → Wired) put_step (Hole h))

-- a node as code makes it, before a list
pub put-node : (label : List ℕ) (kids : _) (rest : Wired) → put (made_node label kids) rest ≡ node label (plain kids.items) rest
put-node label kids rest = ap (λ t. put t rest) (sym (rolls-Node label kids)) ∙ put-layer_node label kids rest

-- a hole as code makes it, before a list
pub put-hole : (h : _) (rest : Wired) → put (made_hole h) rest ≡ hole h.id h.weight rest
put-hole h rest = ap (λ t. put t rest) (sym (rolls-Hole h)) ∙ put-layer_hole h rest

put_step-followed : (x : WireTree-F (Wired → Wired)) (rest : Wired) → put_step x rest ≡ wired_followed (put_step x nil) rest
put_step-followed (Node label kids) rest = refl
put_step-followed (Hole h) rest = refl

-- a tree before a list is that tree alone and the list after it
pub put-followed : (t : WireTree) (rest : Wired) → put t rest ≡ wired_followed (put t nil) rest
put-followed t rest =
    subst (λ f. f rest ≡ wired_followed (f nil) rest) (sym (fold_out-WireTree (Wired → Wired) put_step t)) (put_step-followed _ rest)

one_put : (x : WireTree-F (Wired → Wired)) → count_of (put_step x nil) ≡ 1
one_put (Node label kids) = refl
one_put (Hole h) = refl

-- a tree is one tree
pub count_of-put : (t : WireTree) → count_of (put t nil) ≡ 1
count_of-put t = subst (λ f. count_of (f nil) ≡ 1) (sym (fold_out-WireTree (Wired → Wired) put_step t)) (one_put _)

-- a list of trees is as many
pub count_of-plain : (ts : List WireTree) → count_of (plain ts) ≡ length ts
count_of-plain [] = refl
count_of-plain (t ∷ ts) =
    ap count_of (put-followed t (plain ts)) ∙ count_of-followed (put t nil) (plain ts) ∙ ap (λ n. n + count_of (plain ts)) (count_of-put t)
    ∙ ap (λ n. 1 + n) (count_of-plain ts) ∙ (let e : 1 + length ts ≡ suc (length ts) = omega arith in e)

-- the bytes of a first tree and of the others
pub trees_bytes-put : (t : WireTree) (rest : Wired) → trees_bytes (put t rest) ≡ trees_bytes (put t nil) ++ trees_bytes rest
trees_bytes-put t rest = ap trees_bytes (put-followed t rest) ∙ trees_bytes-followed (put t nil) rest

-- the trees from an index on, and those after the first of them
pub trees_bytes-step : (ts : List WireTree) (i : ℕ) (t : WireTree) → i < length ts → t ≡ get_or ts i t → trees_bytes (plain (drop i ts)) ≡ trees_bytes (put t nil) ++ trees_bytes (plain (drop (i + 1) ts))
trees_bytes-step ts i t h e =
    ap (λ us. trees_bytes (plain us)) (drop-cons ts i t h ∙ ap (λ n. get_or ts i t ∷ drop n ts) (let k : suc i ≡ i + 1 = omega arith in k))
    ∙ ap (λ u. trees_bytes (put u (plain (drop (i + 1) ts)))) (sym e)
    ∙ trees_bytes-put t (plain (drop (i + 1) ts))

-- each tree of a small list is small
pub small_at : (n : ℕ) (ts : List WireTree) (i : ℕ) (t : WireTree) → i < length ts → t ≡ get_or ts i t → IsSmallWithin n (without_weights (plain ts)) → IsSmallWithin n (without_weights (put t nil))
small_at n [] i t h e small = absurd (omega arith)
small_at n (u ∷ ts) zero t h e small =
    subst (λ v. IsSmallWithin n (without_weights (put v nil))) (sym e)
    (small_first n (put u nil) (plain ts) (subst (λ o. IsSmallWithin n (without_weights o)) (put-followed u (plain ts)) small))
small_at n (u ∷ ts) (suc i) t h e small =
    small_at n ts i t (omega arith) e (small_second n (put u nil) (plain ts) (subst (λ o. IsSmallWithin n (without_weights o)) (put-followed u (plain ts)) small))

-- what a small node has
pub record IsSmallNode (label : List ℕ) (kids : Wired) : Type 0 where
  pub short : length label < 2 ^ 32
  pub few : count_of kids < 2 ^ 32
  pub small : (n : ℕ) × IsSmallWithin n (without_weights kids)

-- what a small node has is small
pub small_node : (n : ℕ) (label : List ℕ) (kids : Wired) → IsSmallWithin n (without_weights (node label kids nil)) → IsSmallNode label kids
small_node zero label kids h = absurd h
small_node (suc n) label kids h = record { short = h.0; few = h.1; small = (n, h.2) }

-- no tree of a list is larger than the list
pub size_at : (ts : List WireTree) (i : ℕ) (t : WireTree) → i < length ts → t ≡ get_or ts i t → size_of (put t nil) ≤ size_of (plain ts)
size_at [] i t h e = absurd (omega arith)
size_at (u ∷ ts) zero t h e = omega (arith, ap (λ v. size_of (put v nil)) e, ap size_of (put-followed u (plain ts)), size_of-followed (put u nil) (plain ts))
size_at (u ∷ ts) (suc i) t h e = omega (arith, size_at ts i t (omega arith) e, ap size_of (put-followed u (plain ts)), size_of-followed (put u nil) (plain ts))

-- what follows from what holds where a call went well
pub on_ok : {T E P Q : Type 0} (r : Result T E) → (P → Q) → OnOk r P → OnOk r Q
on_ok (Ok x) f h = f h
on_ok (Err e) f h = tt
