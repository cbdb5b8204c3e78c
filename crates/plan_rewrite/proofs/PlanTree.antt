-- The tree of a valid plan: it has what its operators have, and a valid plan can be made of it.
use Rattle.std.proofs.Common.{◌≡◌, ◌⊎◌, inl, inr, ℕ, zero, suc, ◌<◌, Bool, true, false, List, [], ◌∷◌, ◌++◌, refl, sym, ap, subst, ◌∙◌, arith, length, length-append}
use Rattle.std.specs.Prelude.{◌||◌, ◌&&◌, ◌==◌, Some}
use Rattle.std.specs.List.{AllByRecursion, list_any}
use Rattle.std.proofs.lemmas.Bool.Decides.{nat_tests}
use Rattle.std.proofs.lemmas.List.Folds.{list_any-append}
use Rattle.std.proofs.lemmas.List.{get_or_append_left, get_or_at}
use Rattle.mix_base.specs.Ascents.{Among}
use Rattle.mix_base.proofs.Ascents.{among_each, among_cases}
use Rattle.mix_tree.specs.declared.comparing.Test.{Test}
use Rattle.plan_core.specs.ByNumber.{op_at}
use Rattle.plan_core.specs.Plans.{World, Operator, source, get_descendants, join, over, tuple_destroy, PlanValue, descended, joined_rows, op_rows, rows_of}
use Rattle.plan_core.specs.Rows.{Row}
use Rattle.plan_core.specs.Typed.{IsTyped}
use Rattle.plan_core.specs.Unary.{Unary, select, order_by, project, group_by, concatenate, create_element, unary}
use Rattle.plan_core.specs.Valid.{a_node, Kinds, with_kind, either_kind, unary_kinds, op_kinds, kinds, IsFit, IsTest, IsUnaryFit, inputs_of, unary_outs, outs_of, AreDistinct, unary_single, is_single, is_single_at, HasSource, IsValid}
use Rattle.plan_core.proofs.Fresh.{bound_once, Up, up_more, smaller, up_above, one_way, kinds-is, no_above, inputs_differ}
use Rattle.plan_core.proofs.Inputs.{is_single-reads}
use Rattle.plan_core.proofs.Numbers.{ReadsInputs, by_number-is}
use Rattle.plan_core.proofs.RowLaws.{rows-stable, rows-last, snoc}
use Rattle.plan_core.proofs.Typed.{each_at}
use Rattle.plan_make.specs.Trees.{Tree, begin, descend, both, above, tree_rows}
use Rattle.plan_make.proofs.TreeParts.{tree_kinds}
use Rattle.plan_rewrite.specs.Rewritten.{op_tree, tree_at}
use Rattle.plan_rewrite.proofs.Endings.{IsBelow, Ended, ended_of}
use Rattle.plan_make.proofs.TreeParts.{ReadsBelow, tree_outs, TreeFits, tree_single, IsWhole}

-- WHAT READS INPUTS ALONE

-- the tree of an operator reads of other trees only those of its inputs
pub op_tree-reads : ReadsInputs op_tree
op_tree-reads (source s out) a b h = refl
op_tree-reads (get_descendants input start path out) a b h = ap (λ (x : Tree). descend x start path out) h.0
op_tree-reads (join left right tests) a b h = ap (λ (x : Tree). both x (a right) tests) h.0 ∙ ap (λ (x : Tree). both (b left) x tests) h.1.0
op_tree-reads (over input op) a b h = ap (λ (x : Tree). above x op) h.0
op_tree-reads (tuple_destroy input element) a b h = refl

-- the bindings of an operator read of other bindings only those of its inputs
op_rows-reads : (world : World) → ReadsInputs (op_rows world)
op_rows-reads world (source s out) a b h = refl
op_rows-reads world (get_descendants input start path out) a b h = ap (descended world start path out) h.0
op_rows-reads world (join left right tests) a b h = ap (λ (x : List Row). joined_rows world.docs tests x (a right)) h.0 ∙ ap (joined_rows world.docs tests (b left)) h.1.0
op_rows-reads world (over input op) a b h = ap (unary world.docs op) h.0
op_rows-reads world (tuple_destroy input element) a b h = refl

-- ONE OPERATOR

-- a tree agrees with what is said of an operator
record Agrees (n : ℕ) (x : Tree) (ks : Kinds) (single : Bool) : Type 0 where
  kinds_are : tree_kinds x ≡ ks
  fits : TreeFits x
  single_is : tree_single x ≡ single
  reads : ReadsBelow n x

-- the tree of an operator agrees where those of its inputs do
op_agrees : (n : ℕ) (op : Operator) → IsBelow op → (of : ℕ → Tree) (ks : ℕ → Kinds) (bs : ℕ → Bool) → AllByRecursion (λ i. Agrees n (of i) (ks i) (bs i)) (inputs_of op) → IsFit op ks → HasSource n op
    → Agrees n (op_tree op of) (op_kinds op ks) (is_single op bs)
unfolding tree_kinds TreeFits tree_single ReadsBelow
op_agrees n (source i out) b of ks bs h f s = record { kinds_are = refl; fits = tt; single_is = refl; reads = s }
op_agrees n (get_descendants input start path out) b of ks bs h f s = record {
  kinds_are = ap (with_kind out a_node) h.0.kinds_are;
  fits = (h.0.fits, subst (λ (k : Kinds). k start ≡ Some a_node) (sym h.0.kinds_are) f.0, f.1);
  single_is = refl;
  reads = h.0.reads;
}
op_agrees n (join left right tests) b of ks bs h f s =
    let same : (λ (v : ℕ). either_kind (tree_kinds (of left) v) (tree_kinds (of right) v)) ≡ (λ (v : ℕ). either_kind (ks left v) (ks right v)) =
    ap {B = Kinds} (λ (k : Kinds). λ v. either_kind (k v) (tree_kinds (of right) v)) h.0.kinds_are ∙ ap {B = Kinds} (λ (k : Kinds). λ v. either_kind (ks left v) (k v)) h.1.0.kinds_are in
    record {
      kinds_are = same;
      fits = (h.0.fits, h.1.0.fits, subst (λ (k : Kinds). AllByRecursion (IsTest k) tests) (sym same) f);
      single_is = join_single tests;
      reads = (h.0.reads, h.1.0.reads);
    }
  where
    join_single : (ts : List Test) → tree_single (both (of left) (of right) ts) ≡ is_single (join left right ts) bs
    join_single [] = ap (λ (x : Bool). x && tree_single (of right)) h.0.single_is ∙ ap (λ (x : Bool). bs left && x) h.1.0.single_is
    join_single (t ∷ ts) = refl
op_agrees n (over input op) b of ks bs h f s = record {
  kinds_are = ap (unary_kinds op) h.0.kinds_are;
  fits = (h.0.fits, subst (λ (k : Kinds). IsUnaryFit k op) (sym h.0.kinds_are) f);
  single_is = ap (unary_single op) h.0.single_is;
  reads = h.0.reads;
}
op_agrees n (tuple_destroy input element) b of ks bs h f s = absurd b

-- the tree of an operator has the operator's bindings where those of its inputs have
op_means : (world : World) (op : Operator) → IsBelow op → (of : ℕ → Tree) (rows : ℕ → List Row) → AllByRecursion (λ i. tree_rows world (of i) ≡ rows i) (inputs_of op) → tree_rows world (op_tree op of) ≡ op_rows world op rows
op_means world (source s out) b of rows h = refl
op_means world (get_descendants input start path out) b of rows h = ap (descended world start path out) h.0
op_means world (join left right tests) b of rows h = ap (λ (x : List Row). joined_rows world.docs tests x (tree_rows world (of right))) h.0 ∙ ap (joined_rows world.docs tests (rows left)) h.1.0
op_means world (over input op) b of rows h = ap (unary world.docs op) h.0
op_means world (tuple_destroy input element) b of rows h = absurd b

-- what is bound anew in a tree, is by its operator or below it
op_out : (op : Operator) → IsBelow op → (of : ℕ → Tree) (v : ℕ) → Among v (tree_outs (op_tree op of)) → Among v (outs_of op) ⊎ ((i : ℕ) × Among i (inputs_of op) × Among v (tree_outs (of i)))
unfolding tree_outs
op_out (source s out) b of v a = inl a
op_out (get_descendants input start path out) b of v a = elim (among_cases (tree_outs (of input)) (out ∷ []) v a) [ inl x ↦ inr (input, inl refl, x) | inr x ↦ inl x ]
op_out (join left right tests) b of v a = elim (among_cases (tree_outs (of left)) (tree_outs (of right)) v a) [ inl x ↦ inr (left, inl refl, x) | inr x ↦ inr (right, inr (inl refl), x) ]
op_out (over input op) b of v a = elim (among_cases (tree_outs (of input)) (unary_outs op) v a) [ inl x ↦ inr (input, inl refl, x) | inr x ↦ inl x ]
op_out (tuple_destroy input element) b of v a = absurd b

-- of a number that is not among others the test finds none equal
none_any : (v : ℕ) (vs : List ℕ) → (Among v vs → ⊥) → list_any (λ w. w == v) vs ≡ false
none_any v [] f = refl
none_any v (w ∷ vs) f =
    (elim (w == v) as (λ x. (w == v) ≡ x → (x || list_any (λ u. u == v) vs) ≡ false) [
      | true ↦ λ e. absurd (f (inl (grind (arith, nat_tests, e))))
      | false ↦ λ e. none_any v vs (λ a. f (inr a))
    ]) refl

-- a number that the test finds in neither of two lists it doesn't find in both together
any_of_two : (v : ℕ) (xs ys : List ℕ) → list_any (λ w. w == v) xs ≡ false → list_any (λ w. w == v) ys ≡ false → list_any (λ w. w == v) (xs ++ ys) ≡ false
any_of_two v xs ys h g = list_any-append (λ w. w == v) xs ys ∙ rw (h, g) refl

-- distinct numbers, and others that are none of them
distinct_append : (xs ys : List ℕ) → AreDistinct xs → AreDistinct ys → ((v : ℕ) → Among v xs → Among v ys → ⊥) → AreDistinct (xs ++ ys)
distinct_append [] ys h g f = g
distinct_append (x ∷ xs) ys h g f = (any_of_two x xs ys h.0 (none_any x ys (f x (inl refl))), distinct_append xs ys h.1 g (λ v a b. f v (inr a) b))

-- an operator binds no variable twice
unary_distinct : (op : Unary) → AreDistinct (unary_outs op)
unary_distinct (select test) = tt
unary_distinct (order_by v desc) = tt
unary_distinct (project keys) = tt
unary_distinct (group_by [] piece out) = (refl, tt)
unary_distinct (group_by (k ∷ keys) piece out) = (refl, tt)
unary_distinct (concatenate pieces out) = (refl, tt)
unary_distinct (create_element label list out) = (refl, tt)

-- the tree of an operator binds no variable anew twice, where its inputs' trees don't and share none with it or each other
op_distinct : (op : Operator) → IsBelow op → (of : ℕ → Tree) → AllByRecursion (λ i. AreDistinct (tree_outs (of i))) (inputs_of op)
    → ((i v : ℕ) → Among i (inputs_of op) → Among v (outs_of op) → Among v (tree_outs (of i)) → ⊥)
    → ((left right v : ℕ) → inputs_of op ≡ left ∷ right ∷ [] → Among v (tree_outs (of left)) → Among v (tree_outs (of right)) → ⊥)
    → AreDistinct (tree_outs (op_tree op of))
unfolding tree_outs
op_distinct (source s out) b of h f g = (refl, tt)
op_distinct (get_descendants input start path out) b of h f g = distinct_append (tree_outs (of input)) (out ∷ []) h.0 (refl, tt) (λ v x y. f input v (inl refl) y x)
op_distinct (join left right tests) b of h f g = distinct_append (tree_outs (of left)) (tree_outs (of right)) h.0 h.1.0 (λ v x y. g left right v refl x y)
op_distinct (over input op) b of h f g = distinct_append (tree_outs (of input)) (unary_outs op) h.0 (unary_distinct op) (λ v x y. f input v (inl refl) y x)
op_distinct (tuple_destroy input element) b of h f g = absurd b

module _ (p : PlanValue) (valid : IsValid p) (typed : IsTyped p.ops) where
  -- the operators of the plan
  abbrev pub ops : List Operator
  ops = p.ops

  -- the operators of the valid plan end with a tupleDestroy
  abbrev pub ending : Ended (is_single_at ops) ops
  ending = ended_of (is_single_at ops) ops valid.ends

  -- all but the last are no tupleDestroy
  pub below_at : (n : ℕ) → suc n < length ops → IsBelow (op_at ops n)
  below_at n b =
      let e : Ended (is_single_at ops) ops = ending in
      let l = length-append e.prefix (tuple_destroy e.input e.element ∷ []) in
      let c : suc n < length (e.prefix ++ tuple_destroy e.input e.element ∷ []) = subst (λ (z : List Operator). suc n < length z) e.is b in
      let lt : n < length e.prefix = omega (arith, l, c) in
      let at : op_at ops n ≡ op_at e.prefix n = ap (λ (z : List Operator). op_at z n) e.is ∙ get_or_append_left e.prefix (tuple_destroy e.input e.element ∷ []) (source 0 0) n lt in
      subst IsBelow (sym at) (each_at IsBelow e.prefix n lt e.below)

  -- an operator that is not the last one stands within the plan
  less : (n : ℕ) → suc n < length ops → n < length ops
  less n b = omega (arith, b)

  -- each input of an operator that is not the last one isn't the last one
  input_less : (n i : ℕ) → suc n < length ops → Among i (inputs_of (op_at ops n)) → suc i < length ops
  input_less n i b a = (let s = smaller p valid typed i n (less n b) a in omega (arith, s, b))

  -- the tree of an operator, from those of its inputs
  pub tree_at-is : (n : ℕ) → n < length ops → tree_at ops n ≡ op_tree (op_at ops n) (tree_at ops)
  unfolding tree_at
  tree_at-is n b = by_number-is op_tree (begin 0 0) ops n op_tree-reads (typed.inputs n b)

  -- whether an operator has a single binding is told by whether its inputs have
  single-is : (n : ℕ) → n < length ops → is_single_at ops n ≡ is_single (op_at ops n) (is_single_at ops)
  unfolding is_single_at
  single-is n b = by_number-is is_single false ops n is_single-reads (typed.inputs n b)

  -- the operators of a plan are those before one, that one, and those after it
  split : (all : List Operator) (n : ℕ) → n < length all → (a : List Operator) × (b : List Operator) × (all ≡ a ++ op_at all n ∷ b) × (n ≡ length a)
  split [] n l = absurd (omega (arith, l))
  split (op ∷ all) zero l = ([], all, refl, refl)
  split (op ∷ all) (suc n) l = (let r = split all n (omega (arith, l)) in (op ∷ r.0, r.1, ap (λ (z : List Operator). op ∷ z) r.2, ap suc r.3))

  -- the bindings of an operator are made of the bindings of its inputs
  rows-is : (world : World) (n : ℕ) → n < length ops → rows_of world ops n ≡ op_rows world (op_at ops n) (rows_of world ops)
  rows-is world n b =
      let s = split ops n b in
      let op : Operator = op_at ops n in
      let prefix : List Operator = s.0 ++ op ∷ [] in
      let l = length-append s.0 (op ∷ []) in
      let e : ops ≡ prefix ++ s.1 = s.2 ∙ sym (snoc s.0 op s.1) in
      ap (λ (z : List Operator). rows_of world z n) e
      ∙ rows-stable world prefix s.1 n (omega (arith, l, s.3))
      ∙ rows-last world s.0 op n s.3
      ∙ op_rows-reads world op (rows_of world s.0) (rows_of world ops)
      (among_each (λ i. rows_of world s.0 i ≡ rows_of world ops i) (inputs_of op)
      (λ i a.
      let k = smaller p valid typed i n b a in
      let lt : i < length s.0 = omega (arith, k, s.3) in
      sym (ap (λ (z : List Operator). rows_of world z i) s.2 ∙ rows-stable world s.0 (op ∷ s.1) i lt)))

  -- ALL OPERATORS

  -- each tree agrees with its operator
  agrees : (k n : ℕ) → n < k → suc n < length ops → Agrees (length p.sources) (tree_at ops n) (kinds ops n) (is_single_at ops n)
  agrees zero n h b = absurd (omega (arith, h))
  agrees (suc k) n h b =
      let l = less n b in
      let r = op_agrees (length p.sources) (op_at ops n) (below_at n b) (tree_at ops) (kinds ops) (is_single_at ops)
      (among_each (λ i. Agrees (length p.sources) (tree_at ops i) (kinds ops i) (is_single_at ops i)) (inputs_of (op_at ops n))
      (λ i a. let s = smaller p valid typed i n l a in agrees k i (omega (arith, s, h)) (input_less n i b a)))
      (typed.fit n l) (each_at (HasSource (length p.sources)) ops n l valid.sources) in
      subst (λ (x : Tree). Agrees (length p.sources) x (kinds ops n) (is_single_at ops n)) (sym (tree_at-is n l))
      (subst (λ (ks : Kinds). Agrees (length p.sources) (op_tree (op_at ops n) (tree_at ops)) ks (is_single_at ops n)) (sym (kinds-is p valid typed n l))
      (subst (λ (x : Bool). Agrees (length p.sources) (op_tree (op_at ops n) (tree_at ops)) (op_kinds (op_at ops n) (kinds ops)) x) (sym (single-is n l)) r))

  -- the tree of each operator but the last has the operator's bindings
  means : (world : World) (k n : ℕ) → n < k → suc n < length ops → tree_rows world (tree_at ops n) ≡ rows_of world ops n
  means world zero n h b = absurd (omega (arith, h))
  means world (suc k) n h b =
      let l = less n b in
      ap (tree_rows world) (tree_at-is n l)
      ∙ op_means world (op_at ops n) (below_at n b) (tree_at ops) (rows_of world ops)
      (among_each (λ i. tree_rows world (tree_at ops i) ≡ rows_of world ops i) (inputs_of (op_at ops n)) (λ i a. let s = smaller p valid typed i n l a in means world k i (omega (arith, s, h)) (input_less n i b a)))
      ∙ sym (rows-is world n l)

  -- where a variable of a tree is bound anew
  abbrev Origin : ℕ → ℕ → Type 0
  Origin n v = (m : ℕ) × (d : ℕ) × (m < length ops) × Among v (outs_of (op_at ops m)) × Up p valid typed m d n

  -- a variable of a tree is bound anew by an operator below
  origin : (k n v : ℕ) → n < k → suc n < length ops → Among v (tree_outs (tree_at ops n)) → Origin n v
  origin zero n v h b e = absurd (omega (arith, h))
  origin (suc k) n v h b e =
      let l = less n b in
      elim (op_out (op_at ops n) (below_at n b) (tree_at ops) v (subst (λ (x : Tree). Among v (tree_outs x)) (tree_at-is n l) e)) [
        | inl a ↦ (n, 0, l, a, refl)
        | inr i ↦
            (let s = smaller p valid typed i.0 n l i.1 in
            let o = origin k i.0 v (omega (arith, s, h)) (input_less n i.0 b i.1) i.2 in
            (o.0, suc o.1, o.2, o.3, up_more p valid typed o.0 o.1 i.0 n o.4 i.1 l))
      ]

  -- what an operator binds anew is not bound anew below it
  out_fresh : (n i v : ℕ) → suc n < length ops → Among i (inputs_of (op_at ops n)) → Among v (outs_of (op_at ops n)) → Among v (tree_outs (tree_at ops i)) → ⊥
  out_fresh n i v b a o e =
      let l = less n b in
      let s = smaller p valid typed i n l a in
      let r = origin (suc i) i v (omega arith) (input_less n i b a) e in
      let same : r.0 ≡ n = bound_once ops valid.distinct r.0 n v r.2 l r.3 o in
      let up = up_above p valid typed r.0 r.1 i r.4 in omega (arith, same, up, s)

  -- no variable is bound anew on both sides of a join
  sides_fresh : (n left right v : ℕ) → suc n < length ops → inputs_of (op_at ops n) ≡ left ∷ right ∷ [] → Among v (tree_outs (tree_at ops left)) → Among v (tree_outs (tree_at ops right)) → ⊥
  sides_fresh n left right v more is g e =
      let b = less n more in
      let x = origin (suc left) left v (omega arith) (input_less n left more in_left) g in
      let y = origin (suc right) right v (omega arith) (input_less n right more in_right) e in
      let same : x.0 ≡ y.0 = bound_once ops valid.distinct x.0 y.0 v x.2 y.2 x.3 y.3 in
      elim (one_way p valid typed x.0 x.1 y.1 left right x.4 (subst (λ (z : ℕ). Up p valid typed z y.1 right) (sym same) y.4)) [
        | inl u ↦ no_above p valid typed n left right u.0 b in_left in_right differ u.1
        | inr u ↦ no_above p valid typed n right left u.0 b in_right in_left (λ (z : right ≡ left). differ (sym z)) u.1
      ]
    where
      in_left : Among left (inputs_of (op_at ops n))
      in_left = subst (Among left) (sym is) (inl refl)

      in_right : Among right (inputs_of (op_at ops n))
      in_right = subst (Among right) (sym is) (inr (inl refl))

      differ : left ≡ right → ⊥
      differ = inputs_differ p valid typed n left right (less n more) is

  -- no tree binds a variable anew twice
  distinct : (k n : ℕ) → n < k → suc n < length ops → AreDistinct (tree_outs (tree_at ops n))
  distinct zero n h b = absurd (omega (arith, h))
  distinct (suc k) n h b =
      let l = less n b in
      subst (λ (x : Tree). AreDistinct (tree_outs x)) (sym (tree_at-is n l))
      (op_distinct (op_at ops n) (below_at n b) (tree_at ops)
      (among_each (λ i. AreDistinct (tree_outs (tree_at ops i))) (inputs_of (op_at ops n)) (λ i a. let s = smaller p valid typed i n l a in distinct k i (omega (arith, s, h)) (input_less n i b a)))
      (λ i v a o e. out_fresh n i v b a o e)
      (λ left right v is x y. sides_fresh n left right v b is x y))

  -- THE WHOLE PLAN

  -- the last operator is the tupleDestroy
  pub last_at : op_at ops (length ending.prefix) ≡ tuple_destroy ending.input ending.element
  last_at = ap (λ (z : List Operator). op_at z (length ending.prefix)) ending.is ∙ get_or_at ending.prefix (tuple_destroy ending.input ending.element) [] (source 0 0) (length ending.prefix) refl

  -- there is one operator more than stand before the tupleDestroy
  pub all_but_one : length ops ≡ suc (length ending.prefix)
  all_but_one = (let l = length-append ending.prefix (tuple_destroy ending.input ending.element ∷ []) in let e = ap length ending.is in omega (arith, l, e))

  -- the input of the tupleDestroy isn't the last operator
  input_at : suc ending.input < length ops
  input_at =
      let l = all_but_one in
      let b : length ending.prefix < length ops = omega (arith, l) in
      let s = smaller p valid typed ending.input (length ending.prefix) b (subst (λ (o : Operator). Among ending.input (inputs_of o)) (sym last_at) (inl refl)) in omega (arith, l, s)

  -- the tree below the tupleDestroy makes a valid plan
  pub plan_whole : IsWhole (length p.sources) (tree_at ops ending.input) ending.element
  plan_whole =
      let n : ℕ = ending.input in
      let a : Agrees (length p.sources) (tree_at ops n) (kinds ops n) (is_single_at ops n) = agrees (suc n) n (omega arith) input_at in
      let l = all_but_one in
      let b : length ending.prefix < length ops = omega (arith, l) in
      record {
        reads = a.reads;
        fits = a.fits;
        distinct = distinct (suc n) n (omega arith) input_at;
        single = a.single_is ∙ ending.is_single;
        element = ap (λ (k : Kinds). k ending.element) a.kinds_are ∙ subst (λ (o : Operator). IsFit o (kinds ops)) last_at (typed.fit (length ending.prefix) b);
      }

  -- the tree below the plan's tupleDestroy has the bindings of the operator below it
  pub plan_means : (world : World) → tree_rows world (tree_at ops ending.input) ≡ rows_of world ops ending.input
  plan_means world = means world (suc ending.input) ending.input (omega arith) input_at
