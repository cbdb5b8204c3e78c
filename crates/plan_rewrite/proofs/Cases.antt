-- What a selection becomes, by cases; the kinds and the new variables of a rewritten tree.
use Rattle.std.proofs.Common.{◌≡◌, inl, ℕ, Bool, true, false, cond, List, [], ◌∷◌, ◌++◌, refl, ◌∙◌, sym, ap, subst, arith}
use Rattle.std.specs.Prelude.{◌||◌, ◌&&◌, ◌==◌, Option, None, Some}
use Rattle.std.specs.List.{AllByRecursion, list_any}
use Rattle.std.proofs.lemmas.Bool.Decides.{nat_tests}
use Rattle.std.proofs.lemmas.List.Folds.{list_any-append}
use Rattle.mix_base.specs.Ascents.{Among}
use Rattle.mix_base.proofs.Ascents.{among_left, among_right}
use Rattle.mix_base.proofs.Firsts.{each_snoc}
use Rattle.mix_base.proofs.Lists.{append_nil}
use Rattle.mix_tree.specs.Keys.{has_var}
use Rattle.mix_tree.specs.declared.comparing.Operand.{Operand}
use Rattle.mix_tree.specs.declared.comparing.Operand.TheVariants.{Var as var_operand, Text as text_operand}
use Rattle.mix_tree.specs.declared.comparing.Test.{Test}
use Rattle.plan_core.specs.Unary.{Unary, select, order_by, project, group_by, concatenate, create_element}
use Rattle.plan_core.specs.Valid.{Kind, a_node, an_element, a_list, Kinds, no_kinds, with_kind, kept, either_kind, unary_kinds, unary_outs, unary_single, AreDistinct, IsTest, IsOperand, IsUnaryFit}
use Rattle.plan_make.specs.Trees.{Tree, begin, descend, both, above}
use Rattle.plan_make.proofs.TreeParts.{tree_kinds}
use Rattle.plan_core.proofs.Fresh.{distinct_apart, distinct_after}
use Rattle.plan_rewrite.specs.Rewritten.{is_bound, binds_operand, binds_test, pushed, put_over, rewritten}
use Rattle.plan_make.proofs.TreeParts.{ReadsBelow, tree_outs, TreeFits, tree_single, IsWhole}

-- what holds of a selection pushed into a join holds in each of three cases: into the left side, the right side, or the join itself
pub pushed_cases : (P : Tree → Type 0) (t : Test) (l r : Tree) (tests : List Test)
    → (binds_test (tree_kinds l) t ≡ true → P (both (pushed t l) r tests))
    → (binds_test (tree_kinds r) t ≡ true → P (both l (pushed t r) tests))
    → P (both l r (tests ++ t ∷ []))
    → P (pushed t (both l r tests))
pushed_cases P t l r tests a b c =
    elim (binds_test (tree_kinds l) t) as (λ w. binds_test (tree_kinds l) t ≡ w → P (cond w (both (pushed t l) r tests) (cond (binds_test (tree_kinds r) t) (both l (pushed t r) tests) (both l r (tests ++ t ∷ []))))) [
      | true ↦ λ e. a e
      | false ↦ λ e. (elim (binds_test (tree_kinds r) t) as (λ w. binds_test (tree_kinds r) t ≡ w → P (cond w (both l (pushed t r) tests) (both l r (tests ++ t ∷ [])))) [ true ↦ λ d. b d | false ↦ λ d. c ]) refl
    ] refl

-- what holds of a pushed selection and of an operator over a tree holds of any operator put over the tree
pub put_cases : (P : Tree → Type 0) (op : Unary) (x : Tree) → ((t : Test) → op ≡ select t → P (pushed t x)) → P (above x op) → P (put_over op x)
put_cases P (select t) x a b = a t refl
put_cases P (order_by v desc) x a b = b
put_cases P (project keys) x a b = b
put_cases P (group_by keys piece out) x a b = b
put_cases P (concatenate pieces out) x a b = b
put_cases P (create_element label list out) x a b = b

-- KINDS

-- a tree with a selection pushed into it binds what it bound
pub pushed-kinds : (t : Test) (x : Tree) → tree_kinds (pushed t x) ≡ tree_kinds x
unfolding tree_kinds
pushed-kinds t (begin s out) = refl
pushed-kinds t (descend x start path out) = refl
pushed-kinds t (above x op) = refl
pushed-kinds t (both l r tests) =
    pushed_cases (λ y. tree_kinds y ≡ tree_kinds (both l r tests)) t l r tests
    (λ e. ap {B = Kinds} (λ (k : Kinds). λ v. either_kind (k v) (tree_kinds r v)) (pushed-kinds t l))
    (λ e. ap {B = Kinds} (λ (k : Kinds). λ v. either_kind (tree_kinds l v) (k v)) (pushed-kinds t r))
    refl

-- a tree with an operator put over it binds what the operator binds above the tree
pub put-kinds : (op : Unary) (x : Tree) → tree_kinds (put_over op x) ≡ unary_kinds op (tree_kinds x)
unfolding tree_kinds
put-kinds op x = put_cases (λ y. tree_kinds y ≡ unary_kinds op (tree_kinds x)) op x (λ t e. pushed-kinds t x ∙ ap (λ (o : Unary). unary_kinds o (tree_kinds x)) (sym e)) refl

-- a rewritten tree binds what the tree binds
pub rewritten-kinds : (x : Tree) → tree_kinds (rewritten x) ≡ tree_kinds x
unfolding tree_kinds
rewritten-kinds (begin s out) = refl
rewritten-kinds (descend x start path out) = ap (with_kind out a_node) (rewritten-kinds x)
rewritten-kinds (both l r tests) =
    ap {B = Kinds} (λ (k : Kinds). λ v. either_kind (k v) (tree_kinds (rewritten r) v)) (rewritten-kinds l)
    ∙ ap {B = Kinds} (λ (k : Kinds). λ v. either_kind (tree_kinds l v) (k v)) (rewritten-kinds r)
rewritten-kinds (above x op) = put-kinds op (rewritten x) ∙ ap (unary_kinds op) (rewritten-kinds x)

-- NEW VARIABLES

-- a tree with a selection pushed into it binds anew what it bound anew
pub pushed-outs : (t : Test) (x : Tree) → tree_outs (pushed t x) ≡ tree_outs x
unfolding tree_outs
pushed-outs t (begin s out) = refl
pushed-outs t (descend x start path out) = append_nil (tree_outs x ++ out ∷ [])
pushed-outs t (above x op) = append_nil (tree_outs x ++ unary_outs op)
pushed-outs t (both l r tests) =
    pushed_cases (λ y. tree_outs y ≡ tree_outs (both l r tests)) t l r tests
    (λ e. ap (λ (z : List ℕ). z ++ tree_outs r) (pushed-outs t l))
    (λ e. ap (λ (z : List ℕ). tree_outs l ++ z) (pushed-outs t r))
    refl

-- a rewritten tree binds anew what the tree binds anew
pub rewritten-outs : (x : Tree) → tree_outs (rewritten x) ≡ tree_outs x
unfolding tree_outs
rewritten-outs (begin s out) = refl
rewritten-outs (descend x start path out) = ap (λ (z : List ℕ). z ++ out ∷ []) (rewritten-outs x)
rewritten-outs (both l r tests) = ap (λ (z : List ℕ). z ++ tree_outs (rewritten r)) (rewritten-outs l) ∙ ap (λ (z : List ℕ). tree_outs l ++ z) (rewritten-outs r)
rewritten-outs (above x op) =
    put_cases (λ y. tree_outs y ≡ tree_outs (rewritten x) ++ unary_outs op) op (rewritten x)
    (λ t e. pushed-outs t (rewritten x) ∙ sym (append_nil (tree_outs (rewritten x))) ∙ ap (λ (o : Unary). tree_outs (rewritten x) ++ unary_outs o) (sym e)) refl
    ∙ ap (λ (z : List ℕ). z ++ unary_outs op) (rewritten-outs x)

-- SOURCES

-- a tree with a selection pushed into it reads only sources below n where the tree did
pub pushed_reads : (n : ℕ) (t : Test) (x : Tree) → ReadsBelow n x → ReadsBelow n (pushed t x)
unfolding ReadsBelow
pushed_reads n t (begin s out) h = h
pushed_reads n t (descend x start path out) h = h
pushed_reads n t (above x op) h = h
pushed_reads n t (both l r tests) h = pushed_cases (ReadsBelow n) t l r tests (λ e. (pushed_reads n t l h.0, h.1)) (λ e. (h.0, pushed_reads n t r h.1)) h

-- a rewritten tree reads only sources below n where the tree did
pub rewritten_reads : (n : ℕ) (x : Tree) → ReadsBelow n x → ReadsBelow n (rewritten x)
unfolding ReadsBelow
rewritten_reads n (begin s out) h = h
rewritten_reads n (descend x start path out) h = rewritten_reads n x h
rewritten_reads n (both l r tests) h = (rewritten_reads n l h.0, rewritten_reads n r h.1)
rewritten_reads n (above x op) h = let r = rewritten_reads n x h in put_cases (ReadsBelow n) op (rewritten x) (λ t e. pushed_reads n t (rewritten x) r) r

-- SINGLE

-- an operator put over a tree that is single where another one is leaves it single where it leaves the other so
over_single : (op : Unary) (x y : Tree) → (tree_single x ≡ true → tree_single y ≡ true) → unary_single op (tree_single x) ≡ true → tree_single (put_over op y) ≡ true
unfolding tree_single
over_single (select t) x y f h = cc
over_single (order_by v desc) x y f h = cc
over_single (project keys) x y f h = f h
over_single (group_by [] piece out) x y f h = refl
over_single (group_by (k ∷ keys) piece out) x y f h = cc
over_single (concatenate pieces out) x y f h = f h
over_single (create_element label list out) x y f h = f h

-- a rewritten tree has a single binding where the tree has
pub rewritten_single : (x : Tree) → tree_single x ≡ true → tree_single (rewritten x) ≡ true
unfolding tree_single
rewritten_single (begin s out) h = h
rewritten_single (descend x start path out) h = h
rewritten_single (both l r []) h =
    let a = and_left (tree_single l) (tree_single r) h in
    let b = and_right (tree_single l) (tree_single r) h in rw (rewritten_single l a, rewritten_single r b) refl
  where
    and_left : (p q : Bool) → (p && q) ≡ true → p ≡ true
    and_left true q h = refl
    and_left false q h = cc

    and_right : (p q : Bool) → (p && q) ≡ true → q ≡ true
    and_right true q h = h
    and_right false q h = cc
rewritten_single (both l r (t ∷ tests)) h = h
rewritten_single (above x op) h = over_single op x (rewritten x) (rewritten_single x) h

-- SIDES OF A JOIN

-- of two lists together without repeats the first has none
pub distinct_prefix : (xs ys : List ℕ) → AreDistinct (xs ++ ys) → AreDistinct xs
distinct_prefix [] ys d = tt
distinct_prefix (x ∷ xs) ys d =
    (or_left (list_any (λ w. w == x) xs) (list_any (λ w. w == x) ys) (sym (list_any-append (λ w. w == x) xs ys) ∙ d.0), distinct_prefix xs ys d.1)
  where
    or_left : (p q : Bool) → (p || q) ≡ false → p ≡ false
    or_left true q h = cc
    or_left false q h = refl

-- what is bound is bound anew by an operator of the tree
with_out : (v out : ℕ) (k : Kind) (ks : Kinds) (outs : List ℕ) → is_bound (with_kind out k ks v) ≡ true → (is_bound (ks v) ≡ true → Among v outs) → Among v (outs ++ out ∷ [])
with_out v out k ks outs h f =
    (elim (out == v) as (λ w. (out == v) ≡ w → is_bound (cond w (Some k) (ks v)) ≡ true → Among v (outs ++ out ∷ [])) [
      | true ↦ λ t g. among_right outs (out ∷ []) v (inl (grind (arith, nat_tests, t)))
      | false ↦ λ t g. among_left outs (out ∷ []) v (f g)
    ]) refl h

-- a variable that is kept was bound
kept_bound : (keys : List _) (ks : Kinds) (v : ℕ) → is_bound (kept keys ks v) ≡ true → is_bound (ks v) ≡ true
kept_bound keys ks v h = (elim (has_var keys v) as (λ w. is_bound (cond w (ks v) None) ≡ true → is_bound (ks v) ≡ true) [ true ↦ λ g. g | false ↦ λ g. cc ]) h

-- a variable that is bound after an operator is bound anew by it, or was bound
unary_out : (op : Unary) (ks : Kinds) (outs : List ℕ) (v : ℕ) → is_bound (unary_kinds op ks v) ≡ true → (is_bound (ks v) ≡ true → Among v outs) → Among v (outs ++ unary_outs op)
unary_out (select test) ks outs v h f = among_left outs [] v (f h)
unary_out (order_by u desc) ks outs v h f = among_left outs [] v (f h)
unary_out (project keys) ks outs v h f = among_left outs [] v (f (kept_bound keys ks v h))
unary_out (group_by [] piece out) ks outs v h f = with_out v out a_list no_kinds outs h (λ g. cc)
unary_out (group_by (k ∷ keys) piece out) ks outs v h f = with_out v out a_list (kept (k ∷ keys) ks) outs h (λ g. f (kept_bound (k ∷ keys) ks v g))
unary_out (concatenate pieces out) ks outs v h f = with_out v out a_list ks outs h f
unary_out (create_element label list out) ks outs v h f = with_out v out an_element ks outs h f

-- what a tree binds is bound anew by an operator of the tree
pub bound_out : (x : Tree) (v : ℕ) → is_bound (tree_kinds x v) ≡ true → Among v (tree_outs x)
unfolding tree_kinds tree_outs
bound_out (begin s out) v h = with_out v out a_node no_kinds [] h (λ g. cc)
bound_out (descend x start path out) v h = with_out v out a_node (tree_kinds x) (tree_outs x) h (bound_out x v)
bound_out (both l r tests) v h =
    (elim (tree_kinds l v) as (λ w. tree_kinds l v ≡ w → is_bound (either_kind w (tree_kinds r v)) ≡ true → Among v (tree_outs l ++ tree_outs r)) [
      | None ↦ λ t g. among_right (tree_outs l) (tree_outs r) v (bound_out r v g)
      | Some j ↦ λ t g. among_left (tree_outs l) (tree_outs r) v (bound_out l v (ap is_bound t))
    ]) refl h
bound_out (above x op) v h = unary_out op (tree_kinds x) (tree_outs x) v h (bound_out x v)

-- the sides of a join bind nothing both
pub sides_apart : (l r : Tree) → AreDistinct (tree_outs l ++ tree_outs r) → (v : ℕ) → is_bound (tree_kinds r v) ≡ true → is_bound (tree_kinds l v) ≡ false
sides_apart l r d v h =
    (elim (is_bound (tree_kinds l v)) as (λ w. is_bound (tree_kinds l v) ≡ w → w ≡ false) [
      | true ↦ λ e. absurd (distinct_apart (tree_outs l) (tree_outs r) v d (bound_out l v e) (bound_out r v h))
      | false ↦ λ e. refl
    ]) refl

-- TESTS

-- where two tests hold together, the first holds
pub first_true : (p q : Bool) → (p && q) ≡ true → p ≡ true
first_true true q h = refl
first_true false q h = cc

-- where two tests hold together, the second holds
pub second_true : (p q : Bool) → (p && q) ≡ true → q ≡ true
second_true true q h = h
second_true false q h = cc

-- a node that one of two sides binds, where the left one does
node_left : (a b : Option Kind) → is_bound a ≡ true → either_kind a b ≡ Some a_node → a ≡ Some a_node
node_left None b h e = cc
node_left (Some j) b h e = e

-- a node that a join binds, and that the left side does not bind, is a node of the right side
node_right : (a b : Option Kind) → is_bound a ≡ false → either_kind a b ≡ Some a_node → b ≡ Some a_node
node_right None b h e = e
node_right (Some j) b h e = cc

-- a test whose variables one side binds is a test of that side
test_left : (a b : Kinds) (t : Test) → binds_test a t ≡ true → IsTest (λ v. either_kind (a v) (b v)) t → IsTest a t
test_left a b t h e =
    (node_left (a t.left) (b t.left) (first_true (is_bound (a t.left)) (binds_operand a t.right) h) e.0, operand t.right (second_true (is_bound (a t.left)) (binds_operand a t.right) h) e.1)
  where
    operand : (o : Operand) → binds_operand a o ≡ true → IsOperand (λ v. either_kind (a v) (b v)) t.op o → IsOperand a t.op o
    operand (var_operand v) h e = node_left (a v) (b v) h e
    operand (text_operand label) h e = e

-- a test of a join whose variables the right side binds is a test of that side, where the sides bind nothing both
test_right : (a b : Kinds) (t : Test) → ((v : ℕ) → is_bound (b v) ≡ true → is_bound (a v) ≡ false) → binds_test b t ≡ true → IsTest (λ v. either_kind (a v) (b v)) t → IsTest b t
test_right a b t apart h e =
    (node_right (a t.left) (b t.left) (apart t.left (first_true (is_bound (b t.left)) (binds_operand b t.right) h)) e.0, operand t.right (second_true (is_bound (b t.left)) (binds_operand b t.right) h) e.1)
  where
    operand : (o : Operand) → binds_operand b o ≡ true → IsOperand (λ v. either_kind (a v) (b v)) t.op o → IsOperand b t.op o
    operand (var_operand v) h e = node_right (a v) (b v) (apart v h) e
    operand (text_operand label) h e = e

-- a test of a join whose variables the left side binds is a test of the left side
pub test_of_left : (l r : Tree) (tests : List Test) (t : Test) → binds_test (tree_kinds l) t ≡ true → IsTest (tree_kinds (both l r tests)) t → IsTest (tree_kinds l) t
unfolding tree_kinds
test_of_left l r tests t h e = test_left (tree_kinds l) (tree_kinds r) t h e

-- a test of a join whose variables the right side binds is a test of the right side, where the sides bind nothing both
pub test_of_right : (l r : Tree) (tests : List Test) (t : Test) → AreDistinct (tree_outs (both l r tests)) → binds_test (tree_kinds r) t ≡ true → IsTest (tree_kinds (both l r tests)) t → IsTest (tree_kinds r) t
unfolding tree_kinds tree_outs
test_of_right l r tests t d h e = test_right (tree_kinds l) (tree_kinds r) t (sides_apart l r d) h e

-- FIT

-- a tree that fits still does with a selection pushed into it, where no variable is bound anew twice
pub pushed_fits : (t : Test) (x : Tree) → TreeFits x → IsTest (tree_kinds x) t → AreDistinct (tree_outs x) → TreeFits (pushed t x)
unfolding TreeFits tree_kinds tree_outs
pushed_fits t (begin s out) h e d = (h, e)
pushed_fits t (descend x start path out) h e d = (h, e)
pushed_fits t (above x op) h e d = (h, e)
pushed_fits t (both l r tests) h e d =
    pushed_cases TreeFits t l r tests
    (λ b. (
      pushed_fits t l h.0 (test_of_left l r tests t b e) (distinct_prefix (tree_outs l) (tree_outs r) d),
      h.1,
      subst (λ (k : Kinds). AllByRecursion (IsTest (λ v. either_kind (k v) (tree_kinds r v))) tests) (sym (pushed-kinds t l)) h.2,
    ))
    (λ b. (
      h.0,
      pushed_fits t r h.1 (test_of_right l r tests t d b e) (distinct_after (tree_outs l) (tree_outs r) d),
      subst (λ (k : Kinds). AllByRecursion (IsTest (λ v. either_kind (tree_kinds l v) (k v))) tests) (sym (pushed-kinds t r)) h.2,
    ))
    (h.0, h.1, each_snoc (IsTest (tree_kinds (both l r tests))) tests t h.2 e)

-- a rewritten tree fits where the tree does and no variable is bound anew twice
pub rewritten_fits : (x : Tree) → TreeFits x → AreDistinct (tree_outs x) → TreeFits (rewritten x)
unfolding TreeFits tree_kinds tree_outs
rewritten_fits (begin s out) h d = h
rewritten_fits (descend x start path out) h d =
    (rewritten_fits x h.0 (distinct_prefix (tree_outs x) (out ∷ []) d), subst (λ (k : Kinds). k start ≡ Some a_node) (sym (rewritten-kinds x)) h.1, h.2)
rewritten_fits (both l r tests) h d = (
  rewritten_fits l h.0 (distinct_prefix (tree_outs l) (tree_outs r) d),
  rewritten_fits r h.1 (distinct_after (tree_outs l) (tree_outs r) d),
  subst (λ (k : Kinds). AllByRecursion (IsTest k) tests) (sym (rewritten-kinds (both l r tests))) h.2,
)
rewritten_fits (above x op) h d =
    let dx = distinct_prefix (tree_outs x) (unary_outs op) d in
    let f = rewritten_fits x h.0 dx in
    let u : IsUnaryFit (tree_kinds (rewritten x)) op = subst (λ (k : Kinds). IsUnaryFit k op) (sym (rewritten-kinds x)) h.1 in
    put_cases TreeFits op (rewritten x)
    (λ t e. pushed_fits t (rewritten x) f (subst (IsUnaryFit (tree_kinds (rewritten x))) e u) (subst AreDistinct (sym (rewritten-outs x)) dx))
    (f, u)

-- a rewritten tree makes a valid plan where the tree does
pub rewritten_whole : (n : ℕ) (x : Tree) (v : ℕ) → IsWhole n x v → IsWhole n (rewritten x) v
rewritten_whole n x v w = record {
  reads = rewritten_reads n x w.reads;
  fits = rewritten_fits x w.fits w.distinct;
  distinct = subst AreDistinct (sym (rewritten-outs x)) w.distinct;
  single = rewritten_single x w.single;
  element = ap (λ (k : Kinds). k v) (rewritten-kinds x) ∙ w.element;
}
