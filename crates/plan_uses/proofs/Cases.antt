-- What a selection becomes, by cases: what a rewritten tree binds, and that the sides of a join bind nothing both.
use Rattle.std.proofs.Common.{◌≡◌, inl, ℕ, Bool, true, false, cond, List, [], ◌∷◌, ◌++◌, refl, ◌∙◌, sym, ap, arith}
use Rattle.std.specs.Prelude.{◌||◌, ◌==◌, None, Some}
use Rattle.std.specs.List.{list_any}
use Rattle.std.proofs.lemmas.Bool.Decides.{nat_tests}
use Rattle.std.proofs.lemmas.List.Folds.{list_any-append}
use Rattle.mix_base.specs.Ascents.{Among}
use Rattle.mix_base.proofs.Ascents.{among_left, among_right}
use Rattle.mix_base.proofs.Lists.{append_nil}
use Rattle.mix_tree.specs.Keys.{has_var}
use Rattle.mix_tree.specs.declared.comparing.Test.{Test}
use Rattle.mix_tree.specs.declared.var.Key.{Key}
use Rattle.plan_core.specs.Unary.{Unary, select, order_by, project, group_by, concatenate, create_element}
use Rattle.plan_core.specs.Valid.{Kind, a_node, an_element, a_list, Kinds, no_kinds, with_kind, kept, either_kind, unary_kinds, unary_outs, AreDistinct}
use Rattle.plan_core.proofs.Fresh.{distinct_apart}
use Rattle.plan_make.specs.Trees.{Tree, begin, descend, both, above}
use Rattle.plan_make.proofs.TreeParts.{tree_outs, tree_kinds}
use Rattle.plan_rewrite.specs.Rewritten.{is_bound, binds_test, pushed, put_over, rewritten}

-- what holds of a selection pushed into a join holds in each of three cases: into the left side, the right side, or the join itself
pub pushed_cases : (P : Tree → Type 0) (t : Test) (l r : Tree) (tests : List Test)
    → (binds_test (tree_kinds l) t ≡ true → P (both (pushed t l) r tests))
    → (binds_test (tree_kinds r) t ≡ true → P (both l (pushed t r) tests))
    → P (both l r (tests ++ t ∷ []))
    → P (pushed t (both l r tests))
pushed_cases P t l r tests a b c =
    elim (binds_test (tree_kinds l) t) as (λ w. binds_test (tree_kinds l) t ≡ w → P (cond w (both (pushed t l) r tests) (cond (binds_test (tree_kinds r) t) (both l (pushed t r) tests) (both l r (tests ++ t ∷ []))))) [
      | true ↦ λ e. a e
      | false ↦ λ e. (elim (binds_test (tree_kinds r) t) as (λ w. binds_test (tree_kinds r) t ≡ w → P (cond w (both l (pushed t r) tests) (both l r (tests ++ t ∷ [])))) [ true ↦ λ d. b d | false ↦ λ d. c ]) refl
    ] refl

-- what holds of a pushed selection and of an operator over a tree holds of any operator put over the tree
pub put_cases : (P : Tree → Type 0) (op : Unary) (x : Tree) → ((t : Test) → op ≡ select t → P (pushed t x)) → P (above x op) → P (put_over op x)
put_cases P (select t) x a b = a t refl
put_cases P (order_by v desc) x a b = b
put_cases P (project keys) x a b = b
put_cases P (group_by keys piece out) x a b = b
put_cases P (concatenate pieces out) x a b = b
put_cases P (create_element label list out) x a b = b

-- KINDS

-- a tree with a selection pushed into it binds what it bound
pushed-kinds : (t : Test) (x : Tree) → tree_kinds (pushed t x) ≡ tree_kinds x
unfolding tree_kinds
pushed-kinds t (begin s out) = refl
pushed-kinds t (descend x start path out) = refl
pushed-kinds t (above x op) = refl
pushed-kinds t (both l r tests) =
    pushed_cases (λ y. tree_kinds y ≡ tree_kinds (both l r tests)) t l r tests
    (λ e. ap {B = Kinds} (λ (k : Kinds). λ v. either_kind (k v) (tree_kinds r v)) (pushed-kinds t l))
    (λ e. ap {B = Kinds} (λ (k : Kinds). λ v. either_kind (tree_kinds l v) (k v)) (pushed-kinds t r))
    refl

-- a tree with an operator put over it binds what the operator binds above the tree
put-kinds : (op : Unary) (x : Tree) → tree_kinds (put_over op x) ≡ unary_kinds op (tree_kinds x)
unfolding tree_kinds
put-kinds op x = put_cases (λ y. tree_kinds y ≡ unary_kinds op (tree_kinds x)) op x (λ t e. pushed-kinds t x ∙ ap (λ (o : Unary). unary_kinds o (tree_kinds x)) (sym e)) refl

-- a rewritten tree binds what the tree binds
pub rewritten-kinds : (x : Tree) → tree_kinds (rewritten x) ≡ tree_kinds x
unfolding tree_kinds
rewritten-kinds (begin s out) = refl
rewritten-kinds (descend x start path out) = ap (with_kind out a_node) (rewritten-kinds x)
rewritten-kinds (both l r tests) =
    ap {B = Kinds} (λ (k : Kinds). λ v. either_kind (k v) (tree_kinds (rewritten r) v)) (rewritten-kinds l)
    ∙ ap {B = Kinds} (λ (k : Kinds). λ v. either_kind (tree_kinds l v) (k v)) (rewritten-kinds r)
rewritten-kinds (above x op) = put-kinds op (rewritten x) ∙ ap (unary_kinds op) (rewritten-kinds x)

-- NEW VARIABLES

-- a tree with a selection pushed into it binds anew what it bound anew
pushed-outs : (t : Test) (x : Tree) → tree_outs (pushed t x) ≡ tree_outs x
unfolding tree_outs
pushed-outs t (begin s out) = refl
pushed-outs t (descend x start path out) = append_nil (tree_outs x ++ out ∷ [])
pushed-outs t (above x op) = append_nil (tree_outs x ++ unary_outs op)
pushed-outs t (both l r tests) =
    pushed_cases (λ y. tree_outs y ≡ tree_outs (both l r tests)) t l r tests
    (λ e. ap (λ (z : List ℕ). z ++ tree_outs r) (pushed-outs t l))
    (λ e. ap (λ (z : List ℕ). tree_outs l ++ z) (pushed-outs t r))
    refl

-- a rewritten tree binds anew what the tree binds anew
pub rewritten-outs : (x : Tree) → tree_outs (rewritten x) ≡ tree_outs x
unfolding tree_outs
rewritten-outs (begin s out) = refl
rewritten-outs (descend x start path out) = ap (λ (z : List ℕ). z ++ out ∷ []) (rewritten-outs x)
rewritten-outs (both l r tests) = ap (λ (z : List ℕ). z ++ tree_outs (rewritten r)) (rewritten-outs l) ∙ ap (λ (z : List ℕ). tree_outs l ++ z) (rewritten-outs r)
rewritten-outs (above x op) =
    put_cases (λ y. tree_outs y ≡ tree_outs (rewritten x) ++ unary_outs op) op (rewritten x)
    (λ t e. pushed-outs t (rewritten x) ∙ sym (append_nil (tree_outs (rewritten x))) ∙ ap (λ (o : Unary). tree_outs (rewritten x) ++ unary_outs o) (sym e)) refl
    ∙ ap (λ (z : List ℕ). z ++ unary_outs op) (rewritten-outs x)

-- SIDES OF A JOIN

-- of two lists together without repeats the first has none
pub distinct_prefix : (xs ys : List ℕ) → AreDistinct (xs ++ ys) → AreDistinct xs
distinct_prefix [] ys d = tt
distinct_prefix (x ∷ xs) ys d =
    (or_left (list_any (λ w. w == x) xs) (list_any (λ w. w == x) ys) (sym (list_any-append (λ w. w == x) xs ys) ∙ d.0), distinct_prefix xs ys d.1)
  where
    or_left : (p q : Bool) → (p || q) ≡ false → p ≡ false
    or_left true q h = cc
    or_left false q h = refl

-- what is bound is bound anew by an operator of the tree
with_out : (v out : ℕ) (k : Kind) (ks : Kinds) (outs : List ℕ) → is_bound (with_kind out k ks v) ≡ true → (is_bound (ks v) ≡ true → Among v outs) → Among v (outs ++ out ∷ [])
with_out v out k ks outs h f =
    (elim (out == v) as (λ w. (out == v) ≡ w → is_bound (cond w (Some k) (ks v)) ≡ true → Among v (outs ++ out ∷ [])) [
      | true ↦ λ t g. among_right outs (out ∷ []) v (inl (grind (arith, nat_tests, t)))
      | false ↦ λ t g. among_left outs (out ∷ []) v (f g)
    ]) refl h

-- a variable that is kept was bound
kept_bound : (keys : List Key) (ks : Kinds) (v : ℕ) → is_bound (kept keys ks v) ≡ true → is_bound (ks v) ≡ true
kept_bound keys ks v h = (elim (has_var keys v) as (λ w. is_bound (cond w (ks v) None) ≡ true → is_bound (ks v) ≡ true) [ true ↦ λ g. g | false ↦ λ g. cc ]) h

-- a variable that is bound after an operator is bound anew by it, or was bound
unary_out : (op : Unary) (ks : Kinds) (outs : List ℕ) (v : ℕ) → is_bound (unary_kinds op ks v) ≡ true → (is_bound (ks v) ≡ true → Among v outs) → Among v (outs ++ unary_outs op)
unary_out (select test) ks outs v h f = among_left outs [] v (f h)
unary_out (order_by u desc) ks outs v h f = among_left outs [] v (f h)
unary_out (project keys) ks outs v h f = among_left outs [] v (f (kept_bound keys ks v h))
unary_out (group_by [] piece out) ks outs v h f = with_out v out a_list no_kinds outs h (λ g. cc)
unary_out (group_by (k ∷ keys) piece out) ks outs v h f = with_out v out a_list (kept (k ∷ keys) ks) outs h (λ g. f (kept_bound (k ∷ keys) ks v g))
unary_out (concatenate pieces out) ks outs v h f = with_out v out a_list ks outs h f
unary_out (create_element label list out) ks outs v h f = with_out v out an_element ks outs h f

-- what a tree binds is bound anew by an operator of the tree
bound_out : (x : Tree) (v : ℕ) → is_bound (tree_kinds x v) ≡ true → Among v (tree_outs x)
unfolding tree_kinds tree_outs
bound_out (begin s out) v h = with_out v out a_node no_kinds [] h (λ g. cc)
bound_out (descend x start path out) v h = with_out v out a_node (tree_kinds x) (tree_outs x) h (bound_out x v)
bound_out (both l r tests) v h =
    (elim (tree_kinds l v) as (λ w. tree_kinds l v ≡ w → is_bound (either_kind w (tree_kinds r v)) ≡ true → Among v (tree_outs l ++ tree_outs r)) [
      | None ↦ λ t g. among_right (tree_outs l) (tree_outs r) v (bound_out r v g)
      | Some j ↦ λ t g. among_left (tree_outs l) (tree_outs r) v (bound_out l v (ap is_bound t))
    ]) refl h
bound_out (above x op) v h = unary_out op (tree_kinds x) (tree_outs x) v h (bound_out x v)

-- the sides of a join bind nothing both
pub sides_apart : (l r : Tree) → AreDistinct (tree_outs l ++ tree_outs r) → (v : ℕ) → is_bound (tree_kinds r v) ≡ true → is_bound (tree_kinds l v) ≡ false
sides_apart l r d v h =
    (elim (is_bound (tree_kinds l v)) as (λ w. is_bound (tree_kinds l v) ≡ w → w ≡ false) [
      | true ↦ λ e. absurd (distinct_apart (tree_outs l) (tree_outs r) v d (bound_out l v e) (bound_out r v h))
      | false ↦ λ e. refl
    ]) refl
