-- The keys that the operators of a tree hold, and that they use those alone.
use Rattle.std.proofs.Common.{◌≡◌, ℕ, zero, suc, ◌+◌, ◌<◌, true, List, [], ◌∷◌, ◌++◌, length, length-append, refl, ◌∙◌, sym, ap, arith, subst}
use Rattle.std.specs.List.{AllByRecursion}
use Rattle.std.proofs.lemmas.List.{get_or_at}
use Rattle.mix_tree.specs.declared.var.Key.{Key}
use Rattle.mix_tree.specs.declared.var.Key.TheVariants.{Node as node_key}
use Rattle.xmas_rule.proofs.Members.{each_append}
use Rattle.plan_core.specs.ByNumber.{op_at}
use Rattle.plan_core.specs.Fronts.{covers}
use Rattle.plan_core.specs.Plans.{Operator, source, get_descendants, join, over, tuple_destroy}
use Rattle.plan_core.specs.Shapes.{stage_of, shape_of}
use Rattle.plan_core.specs.Unary.{Unary}
use Rattle.plan_core.specs.Valid.{a_node, Kinds, with_kind, either_kind, unary_kinds, op_kinds, kinds, inputs_of, HaveSmallerInputs}
use Rattle.plan_core.proofs.Chained.{smaller_append, kinds_after}
use Rattle.plan_core.proofs.Inputs.{AreValues, values-append, kinds_values}
use Rattle.plan_core.proofs.RowLaws.{snoc}
use Rattle.plan_core.proofs.Typed.{each_at}
use Rattle.plan_evidence.specs.Held.{stage_held, shape_held, held, test_uses, stage_uses, ShapeUses, UsesHeld}
use Rattle.plan_evidence.proofs.HeldApart.{held-of}
use Rattle.plan_make.specs.Trees.{Tree, begin, descend, both, above, stacked, under, numbered}
use Rattle.plan_make.proofs.Numbering.{numbered-length}
use Rattle.plan_make.proofs.TreeParts.{tree_kinds, numbered_smaller, ended}

-- the keys that the last operator of a tree holds
unfoldable pub tree_held : Tree → List Key
tree_held (begin s out) = node_key out ∷ []
tree_held (descend t start path out) = tree_held t ++ node_key out ∷ []
tree_held (both l r tests) = tree_held l ++ tree_held r
tree_held (above t op) = stage_held (stage_of op) (tree_held t)

-- each operator of a tree uses what its inputs hold alone
unfoldable pub TreeUses : Tree → Type 0
TreeUses (begin s out) = Unit {0}
TreeUses (descend t start path out) = TreeUses t × (covers (tree_held t) (node_key start ∷ []) ≡ true)
TreeUses (both l r tests) = TreeUses l × TreeUses r × AllByRecursion (λ t. covers (tree_held l ++ tree_held r) (test_uses t) ≡ true) tests
TreeUses (above t op) = TreeUses t × (covers (tree_held t) (stage_uses (tree_kinds t) (stage_of op)) ≡ true)

-- NUMBERED OPERATORS

-- the keys that an operator holds, from those that its inputs hold
abbrev op_held : Operator → (ℕ → List Key) → List Key
op_held op of = shape_held (shape_of op) of

-- the keys that each operator holds are made of those that its inputs hold; these operators stand after others
held_from : (all a b : List Operator) → all ≡ a ++ b → HaveSmallerInputs (length a) b → AreValues op_held (held all) (length a) b
unfolding AreValues
held_from all a [] e s = tt
held_from all a (op ∷ b) e s =
    let one : List Operator = a ++ op ∷ [] in
    let l : length one ≡ suc (length a) = (let k = length-append a (op ∷ []) in omega (arith, k)) in
    let here : op_at all (length a) ≡ op = ap (λ (z : List Operator). op_at z (length a)) e ∙ get_or_at a op b (source 0 0) (length a) refl in (
      held-of all (length a) (subst (λ (o : Operator). AllByRecursion (λ i. i < length a) (inputs_of o)) (sym here) s.0) ∙ ap (λ (o : Operator). op_held o (held all)) here,
      subst (λ (n : ℕ). AreValues op_held (held all) n b) l (held_from all one b (e ∙ sym (snoc a op b)) (subst (λ (n : ℕ). HaveSmallerInputs n b) (sym l) s.1)),
    )

-- the numbered operators of a tree that uses what is held do so, and the last one binds and holds what the tree's does
numbered_uses : (f : ℕ → Kinds) (g : ℕ → List Key) (t : Tree) (i : ℕ) → AreValues op_kinds f i (numbered i t) → AreValues op_held g i (numbered i t) → TreeUses t
    → AllByRecursion (λ o. ShapeUses f g (shape_of o)) (numbered i t) × (f (i + under t) ≡ tree_kinds t) × (g (i + under t) ≡ tree_held t)
unfolding AreValues tree_kinds tree_held TreeUses
numbered_uses f g (begin s out) i v w h = let e : i + zero ≡ i = omega arith in ((tt, tt), ap f e ∙ v.0, ap g e ∙ w.0)
numbered_uses f g (descend t start path out) i v w h =
    let op : Operator = get_descendants (i + under t) start path out in
    let p = values-append op_kinds f (numbered i t) (op ∷ []) i v in
    let q = values-append op_held g (numbered i t) (op ∷ []) i w in
    let r = numbered_uses f g t i p.0 q.0 h.0 in
    let l = numbered-length t i in
    let e : i + suc (under t) ≡ i + length (numbered i t) = omega (arith, l) in (
      each_append (λ o. ShapeUses f g (shape_of o)) (numbered i t) (op ∷ []) r.0 (ap (λ (z : List Key). covers z (node_key start ∷ [])) r.2 ∙ h.1, tt),
      ap f e ∙ p.1.0 ∙ ap (with_kind out a_node) r.1,
      ap g e ∙ q.1.0 ∙ ap (λ (z : List Key). z ++ node_key out ∷ []) r.2,
    )
numbered_uses f g (both l r tests) i v w h =
    let m : ℕ = i + suc (under l) in
    let op : Operator = join (i + under l) (m + under r) tests in
    let a = numbered-length l i in let b = numbered-length r m in
    let em : i + length (numbered i l) ≡ m = omega (arith, a) in
    let p = values-append op_kinds f (numbered i l) (numbered m r ++ op ∷ []) i v in
    let q = values-append op_held g (numbered i l) (numbered m r ++ op ∷ []) i w in
    let pr = values-append op_kinds f (numbered m r) (op ∷ []) m (subst (λ (n : ℕ). AreValues op_kinds f n (numbered m r ++ op ∷ [])) em p.1) in
    let qr = values-append op_held g (numbered m r) (op ∷ []) m (subst (λ (n : ℕ). AreValues op_held g n (numbered m r ++ op ∷ [])) em q.1) in
    let left = numbered_uses f g l i p.0 q.0 h.0 in
    let right = numbered_uses f g r m pr.0 qr.0 h.1 in
    let e : i + (suc (under l) + suc (under r)) ≡ m + length (numbered m r) = omega (arith, b) in
    let keys : g (i + under l) ++ g (m + under r) ≡ tree_held l ++ tree_held r =
    ap (λ (z : List Key). z ++ g (m + under r)) left.2 ∙ ap (λ (z : List Key). tree_held l ++ z) right.2 in (
      each_append (λ o. ShapeUses f g (shape_of o)) (numbered i l) (numbered m r ++ op ∷ []) left.0
          (each_append (λ o. ShapeUses f g (shape_of o)) (numbered m r) (op ∷ []) right.0 (subst (λ (z : List Key). AllByRecursion (λ t. covers z (test_uses t) ≡ true) tests) (sym keys) h.2, tt)),
      ap f e ∙ pr.1.0 ∙ ap {B = Kinds} (λ (k : Kinds). λ u. either_kind (k u) (f (m + under r) u)) left.1 ∙ ap {B = Kinds} (λ (k : Kinds). λ u. either_kind (tree_kinds l u) (k u)) right.1,
      ap g e ∙ qr.1.0 ∙ keys,
    )
numbered_uses f g (above t op) i v w h =
    let o : Operator = over (i + under t) op in
    let p = values-append op_kinds f (numbered i t) (o ∷ []) i v in
    let q = values-append op_held g (numbered i t) (o ∷ []) i w in
    let r = numbered_uses f g t i p.0 q.0 h.0 in
    let l = numbered-length t i in
    let e : i + suc (under t) ≡ i + length (numbered i t) = omega (arith, l) in (
      each_append (λ x. ShapeUses f g (shape_of x)) (numbered i t) (o ∷ []) r.0
          (ap (λ (z : List Key). covers z (stage_uses (f (i + under t)) (stage_of op))) r.2 ∙ ap (λ (k : Kinds). covers (tree_held t) (stage_uses k (stage_of op))) r.1 ∙ h.1, tt),
      ap f e ∙ p.1.0 ∙ ap (unary_kinds op) r.1,
      ap g e ∙ q.1.0 ∙ ap (stage_held (stage_of op)) r.2,
    )

-- the operators of a tree that uses what is held, with a tupleDestroy over them, use what is held
pub ended_uses : (t : Tree) (v : ℕ) → TreeUses t → UsesHeld (ended t v)
ended_uses t v h n b =
    let ops : List Operator = ended t v in
    let end : List Operator = tuple_destroy (under t) v ∷ [] in
    let l = numbered-length t 0 in
    let s : HaveSmallerInputs 0 ops = smaller_append (numbered 0 t) end 0 (numbered_smaller t 0) ((omega (arith, l), tt), tt) in
    let ks = values-append op_kinds (kinds ops) (numbered 0 t) end 0 (kinds_values ops s) in
    let hs = values-append op_held (held ops) (numbered 0 t) end 0 (held_from ops [] ops refl s) in
    let r = numbered_uses (kinds ops) (held ops) t 0 ks.0 hs.0 h in
    each_at (λ o. ShapeUses (kinds ops) (held ops) (shape_of o)) ops n b (each_append (λ o. ShapeUses (kinds ops) (held ops) (shape_of o)) (numbered 0 t) end r.0 (tt, tt))

-- OPERATORS ONE OVER ANOTHER

-- the keys that are held after operators one over another
abbrev pub held_after : List Key → List Unary → List Key
held_after keys [] = keys
held_after keys (op ∷ ops) = held_after (stage_held (stage_of op) keys) ops

-- operators one over another use what is held alone
abbrev pub AreUnaryUses : Kinds → List Key → List Unary → Type 0
AreUnaryUses kinds keys [] = Unit {0}
AreUnaryUses kinds keys (op ∷ ops) = (covers keys (stage_uses kinds (stage_of op)) ≡ true) × AreUnaryUses (unary_kinds op kinds) (stage_held (stage_of op) keys) ops

-- operators over a tree hold what they make of the keys that the tree holds
pub stacked-held : (ops : List Unary) (t : Tree) → tree_held (stacked t ops) ≡ held_after (tree_held t) ops
unfolding tree_held
stacked-held [] t = refl
stacked-held (op ∷ ops) t = stacked-held ops (above t op)

-- operators that use what is held, over a tree that does, make a tree that does
pub stacked_uses : (ops : List Unary) (t : Tree) → TreeUses t → AreUnaryUses (tree_kinds t) (tree_held t) ops → TreeUses (stacked t ops)
unfolding TreeUses tree_kinds tree_held
stacked_uses [] t h u = h
stacked_uses (op ∷ ops) t h u = stacked_uses ops (above t op) (h, u.0) u.1

-- what is held after operators and others over them is what the others make of what is held after the first
pub held-append : (a b : List Unary) (keys : List Key) → held_after keys (a ++ b) ≡ held_after (held_after keys a) b
held-append [] b keys = refl
held-append (op ∷ a) b keys = held-append a b (stage_held (stage_of op) keys)

-- operators and others over them use what is held
pub uses_append : (a b : List Unary) (kinds : Kinds) (keys : List Key) → AreUnaryUses kinds keys a → AreUnaryUses (kinds_after kinds a) (held_after keys a) b → AreUnaryUses kinds keys (a ++ b)
uses_append [] b kinds keys h k = k
uses_append (op ∷ a) b kinds keys h k = (h.0, uses_append a b (unary_kinds op kinds) (stage_held (stage_of op) keys) h.1 k)
