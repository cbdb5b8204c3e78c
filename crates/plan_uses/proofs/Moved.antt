-- A tree whose selections are moved below joins uses what is held where the tree does.
use Rattle.std.proofs.Common.{◌≡◌, ℕ, Bool, true, false, cond, List, [], ◌∷◌, ◌++◌, refl, ◌∙◌, sym, ap, subst, inl, inr}
use Rattle.std.specs.Prelude.{◌==◌, ◌||◌, Option, None, Some}
use Rattle.std.specs.List.{AllByRecursion}
use Rattle.std.proofs.lemmas.Bool.{and_parts, and_from, or_cases}
use Rattle.std.proofs.lemmas.List.Folds.{list_any-append}
use Rattle.mix_base.proofs.Firsts.{each_snoc}
use Rattle.mix_tree.specs.Comparisons.{compares_nodes}
use Rattle.mix_tree.specs.Keys.{key_var, has_var, stands}
use Rattle.mix_tree.specs.declared.comparing.Operand.{Operand}
use Rattle.mix_tree.specs.declared.comparing.Operand.TheVariants.{Var as var_operand, Text as text_operand}
use Rattle.mix_tree.specs.declared.comparing.Test.{Test}
use Rattle.mix_tree.specs.declared.var.Key.{Key}
use Rattle.mix_tree.specs.declared.var.Key.TheVariants.{Node as node_key, LabelOf as label_key}
use Rattle.plan_core.specs.Fronts.{covers}
use Rattle.plan_core.specs.Shapes.{stage_of}
use Rattle.plan_core.specs.Unary.{Unary, select, order_by, project, group_by, concatenate, create_element}
use Rattle.plan_core.specs.Valid.{Kind, a_node, an_element, a_list, Kinds, no_kinds, with_kind, kept, either_kind, unary_kinds, unary_outs, AreDistinct}
use Rattle.plan_core.proofs.Fresh.{distinct_after}
use Rattle.plan_evidence.specs.Held.{stage_held, operand_uses, test_uses, piece_uses, stage_uses}
use Rattle.plan_make.specs.Trees.{Tree, begin, descend, both, above}
use Rattle.plan_make.proofs.TreeParts.{tree_outs, tree_kinds}
use Rattle.plan_rewrite.specs.Rewritten.{is_bound, binds_operand, binds_test, pushed, rewritten}
use Rattle.plan_uses.proofs.Cases.{pushed_cases, put_cases, rewritten-kinds, rewritten-outs, distinct_prefix, sides_apart}
use Rattle.plan_uses.proofs.Keys.{stands_first, stands_second, covers_first, var_covered}
use Rattle.plan_uses.proofs.Trees.{tree_held, TreeUses}

-- WHAT IS HELD IS BOUND

-- what was bound, or is bound anew, is bound
bound_with : (out v : ℕ) (k : Kind) (ks : Kinds) → ((out == v) ≡ false → is_bound (ks v) ≡ true) → is_bound (with_kind out k ks v) ≡ true
bound_with out v k ks f = elim (out == v) as (λ w. (out == v) ≡ w → is_bound (cond w (Some k) (ks v)) ≡ true) [ true ↦ λ e. refl | false ↦ λ e. f e ] refl

-- with the node of a variable that is bound anew, held keys are of what is bound
with_node : (out v : ℕ) (ks : Kinds) (keys : List Key) → (has_var keys v ≡ true → is_bound (ks v) ≡ true) → has_var (keys ++ node_key out ∷ []) v ≡ true → is_bound (with_kind out a_node ks v) ≡ true
with_node out v ks keys f h =
    bound_with out v a_node ks (λ e. elim (or_cases (has_var keys v) ((out == v) || false) (sym (list_any-append (λ k. key_var k == v) keys (node_key out ∷ [])) ∙ h)) [
      | inl q ↦ f q
      | inr q ↦ (let c : false ≡ true = sym (ap (λ (b : Bool). b || false) e) ∙ q in cc)
    ])

-- what one of two sides binds, both together bind
either_bound : (a b : Option Kind) → is_bound b ≡ true → is_bound (either_kind a b) ≡ true
either_bound None b h = h
either_bound (Some k) b h = refl

-- what the first of two sides binds, both together bind
first_bound : (a b : Option Kind) → is_bound a ≡ true → is_bound (either_kind a b) ≡ true
first_bound None b h = cc
first_bound (Some k) b h = refl

-- a variable of covered keys that is kept is bound
kept_bound : (keys own : List Key) (ks : Kinds) (v : ℕ) → (has_var keys v ≡ true → is_bound (ks v) ≡ true) → covers keys own ≡ true → has_var own v ≡ true → is_bound (kept own ks v) ≡ true
kept_bound keys own ks v f c h = rw h (f (var_covered keys own v c h))

-- an operator with one input that uses what is held holds keys of what is bound, where so its input does
unary_bound : (op : Unary) (keys : List Key) (ks : Kinds) (v : ℕ) → (has_var keys v ≡ true → is_bound (ks v) ≡ true) → covers keys (stage_uses ks (stage_of op)) ≡ true → has_var (stage_held (stage_of op) keys) v ≡ true
    → is_bound (unary_kinds op ks v) ≡ true
unary_bound (select t) keys ks v f c h = f h
unary_bound (order_by u desc) keys ks v f c h = f h
unary_bound (project own) keys ks v f c h = kept_bound keys own ks v f c h
unary_bound (group_by [] piece out) keys ks v f c h = cc
unary_bound (group_by (k ∷ own) piece out) keys ks v f c h =
    bound_with out v a_list (kept (k ∷ own) ks) (λ e. kept_bound keys (k ∷ own) ks v f (covers_first keys (k ∷ own) (piece_uses ks piece) c) h)
unary_bound (concatenate pieces out) keys ks v f c h = bound_with out v a_list ks (λ e. f h)
unary_bound (create_element label list out) keys ks v f c h = bound_with out v an_element ks (λ e. f h)

-- a tree that uses what is held holds keys of what it binds
held_bound : (x : Tree) → TreeUses x → (v : ℕ) → has_var (tree_held x) v ≡ true → is_bound (tree_kinds x v) ≡ true
unfolding TreeUses tree_held tree_kinds
held_bound (begin s out) u v h = with_node out v no_kinds [] (λ e. cc) h
held_bound (descend x start path out) u v h = with_node out v (tree_kinds x) (tree_held x) (held_bound x u.0 v) h
held_bound (both l r tests) u v h = elim (or_cases (has_var (tree_held l) v) (has_var (tree_held r) v) (sym (list_any-append (λ k. key_var k == v) (tree_held l) (tree_held r)) ∙ h)) [
  | inl q ↦ first_bound (tree_kinds l v) (tree_kinds r v) (held_bound l u.0 v q)
  | inr q ↦ either_bound (tree_kinds l v) (tree_kinds r v) (held_bound r u.1 v q)
]
held_bound (above x op) u v h = unary_bound op (tree_held x) (tree_kinds x) v (held_bound x u.0 v) u.1 h

-- no key of a variable that isn't bound is held
none_held : (x : Tree) → TreeUses x → (v : ℕ) → is_bound (tree_kinds x v) ≡ false → has_var (tree_held x) v ≡ false
none_held x u v h =
    (elim (has_var (tree_held x) v) as (λ w. has_var (tree_held x) v ≡ w → w ≡ false) [
      | true ↦ λ e. (let c : true ≡ false = sym (held_bound x u v e) ∙ h in c)
      | false ↦ λ e. refl
    ]) refl

-- no key of a variable that the left side of a join binds is held by the right one
none_right : (l r : Tree) → TreeUses r → AreDistinct (tree_outs l ++ tree_outs r) → (v : ℕ) → is_bound (tree_kinds l v) ≡ true → has_var (tree_held r) v ≡ false
none_right l r u d v h =
    none_held r u v
    ((elim (is_bound (tree_kinds r v)) as (λ w. is_bound (tree_kinds r v) ≡ w → w ≡ false) [
      | true ↦ λ e. (let c : true ≡ false = sym h ∙ sides_apart l r d v e in c)
      | false ↦ λ e. refl
    ]) refl)

-- SELECTIONS

-- comparisons whose variables one side binds use what other keys hold, where each key of such variables that stands among the first stands among those
test_kept : (keys more : List Key) (ks : Kinds) (t : Test) → ((k : Key) → is_bound (ks (key_var k)) ≡ true → stands keys k ≡ true → stands more k ≡ true) → binds_test ks t ≡ true → covers keys (test_uses t) ≡ true
    → covers more (test_uses t) ≡ true
test_kept keys more ks t f b c =
    let of : Bool = compares_nodes t.op in
    let k : Key = cond of (node_key t.left) (label_key t.left) in
    let s = and_parts (is_bound (ks t.left)) (binds_operand ks t.right) b in
    let p = and_parts (stands keys k) (covers keys (operand_uses of t.right)) c in
    and_from (stands more k) (covers more (operand_uses of t.right)) (either of t.left s.0 p.0) (operand of t.right s.1 p.1)
  where
    either : (of : Bool) (v : ℕ) → is_bound (ks v) ≡ true → stands keys (cond of (node_key v) (label_key v)) ≡ true → stands more (cond of (node_key v) (label_key v)) ≡ true
    either true v h s = f (node_key v) h s
    either false v h s = f (label_key v) h s

    operand : (of : Bool) (o : Operand) → binds_operand ks o ≡ true → covers keys (operand_uses of o) ≡ true → covers more (operand_uses of o) ≡ true
    operand true (var_operand v) h s = and_from (stands more (node_key v)) true (f (node_key v) h (and_parts (stands keys (node_key v)) true s).0) refl
    operand false (var_operand v) h s = and_from (stands more (label_key v)) true (f (label_key v) h (and_parts (stands keys (label_key v)) true s).0) refl
    operand of (text_operand label) h s = refl

-- a tree with a selection pushed into it holds what it held
pushed-held : (t : Test) (x : Tree) → tree_held (pushed t x) ≡ tree_held x
unfolding tree_held
pushed-held t (begin s out) = refl
pushed-held t (descend x start path out) = refl
pushed-held t (above x op) = refl
pushed-held t (both l r tests) =
    pushed_cases (λ y. tree_held y ≡ tree_held (both l r tests)) t l r tests
    (λ e. ap (λ (z : List Key). z ++ tree_held r) (pushed-held t l))
    (λ e. ap (λ (z : List Key). tree_held l ++ z) (pushed-held t r))
    refl

-- a tree that uses what is held still does with a selection pushed into it that uses what the tree holds
pushed_uses : (t : Test) (x : Tree) → TreeUses x → covers (tree_held x) (test_uses t) ≡ true → AreDistinct (tree_outs x) → TreeUses (pushed t x)
unfolding TreeUses tree_held tree_outs
pushed_uses t (begin s out) h c d = (h, c)
pushed_uses t (descend x start path out) h c d = (h, c)
pushed_uses t (above x op) h c d = (h, c)
pushed_uses t (both l r tests) h c d =
    pushed_cases TreeUses t l r tests
    (λ b. (
      pushed_uses t l h.0
          (test_kept (tree_held l ++ tree_held r) (tree_held l) (tree_kinds l) t (λ k e s. stands_first (tree_held l) (tree_held r) k (none_right l r h.1 d (key_var k) e) s) b c)
          (distinct_prefix (tree_outs l) (tree_outs r) d),
      h.1,
      subst (λ (z : List Key). AllByRecursion (λ t. covers (z ++ tree_held r) (test_uses t) ≡ true) tests) (sym (pushed-held t l)) h.2,
    ))
    (λ b. (
      h.0,
      pushed_uses t r h.1
          (test_kept (tree_held l ++ tree_held r) (tree_held r) (tree_kinds r) t
          (λ k e s. stands_second (tree_held l) (tree_held r) k (none_held l h.0 (key_var k) (sides_apart l r d (key_var k) e)) s) b c)
          (distinct_after (tree_outs l) (tree_outs r) d),
      subst (λ (z : List Key). AllByRecursion (λ t. covers (tree_held l ++ z) (test_uses t) ≡ true) tests) (sym (pushed-held t r)) h.2,
    ))
    (h.0, h.1, each_snoc (λ t. covers (tree_held l ++ tree_held r) (test_uses t) ≡ true) tests t h.2 c)

-- a rewritten tree holds what the tree holds
rewritten-held : (x : Tree) → tree_held (rewritten x) ≡ tree_held x
unfolding tree_held
rewritten-held (begin s out) = refl
rewritten-held (descend x start path out) = ap (λ (z : List Key). z ++ node_key out ∷ []) (rewritten-held x)
rewritten-held (both l r tests) = ap (λ (z : List Key). z ++ tree_held (rewritten r)) (rewritten-held l) ∙ ap (λ (z : List Key). tree_held l ++ z) (rewritten-held r)
rewritten-held (above x op) =
    put_cases (λ y. tree_held y ≡ stage_held (stage_of op) (tree_held (rewritten x))) op (rewritten x)
    (λ t e. pushed-held t (rewritten x) ∙ ap (λ (o : Unary). stage_held (stage_of o) (tree_held (rewritten x))) (sym e)) refl
    ∙ ap (stage_held (stage_of op)) (rewritten-held x)

-- a rewritten tree uses what is held where the tree does and no variable is bound anew twice
pub rewritten_uses : (x : Tree) → TreeUses x → AreDistinct (tree_outs x) → TreeUses (rewritten x)
unfolding TreeUses tree_held tree_outs
rewritten_uses (begin s out) h d = h
rewritten_uses (descend x start path out) h d =
    (rewritten_uses x h.0 (distinct_prefix (tree_outs x) (out ∷ []) d), subst (λ (z : List Key). covers z (node_key start ∷ []) ≡ true) (sym (rewritten-held x)) h.1)
rewritten_uses (both l r tests) h d = (
  rewritten_uses l h.0 (distinct_prefix (tree_outs l) (tree_outs r) d),
  rewritten_uses r h.1 (distinct_after (tree_outs l) (tree_outs r) d),
  subst (λ (z : List Key). AllByRecursion (λ t. covers z (test_uses t) ≡ true) tests) (sym (rewritten-held (both l r tests))) h.2,
)
rewritten_uses (above x op) h d =
    let dx = distinct_prefix (tree_outs x) (unary_outs op) d in
    let f = rewritten_uses x h.0 dx in
    let u : covers (tree_held (rewritten x)) (stage_uses (tree_kinds (rewritten x)) (stage_of op)) ≡ true =
    ap (λ (z : List Key). covers z (stage_uses (tree_kinds (rewritten x)) (stage_of op))) (rewritten-held x) ∙ ap (λ (k : Kinds). covers (tree_held x) (stage_uses k (stage_of op))) (rewritten-kinds x) ∙ h.1 in
    put_cases TreeUses op (rewritten x)
    (λ t e. pushed_uses t (rewritten x) f
    (subst (λ (o : Unary). covers (tree_held (rewritten x)) (stage_uses (tree_kinds (rewritten x)) (stage_of o)) ≡ true) e u)
    (subst AreDistinct (sym (rewritten-outs x)) dx))
    (f, u)
