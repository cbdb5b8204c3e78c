-- Pushing a selection into the numbered operators of a tree gives the numbered operators of the tree with the selection pushed into it.
use Rattle.std.proofs.Common.{◌≡◌, ℕ, zero, suc, ◌+◌, ◌<◌, ◌≤◌, Bool, true, false, cond, List, [], ◌∷◌, ◌++◌, map, refl, ◌∙◌, sym, ap, arith, length}
use Rattle.std.specs.Prelude.{nat_lt}
use Rattle.std.proofs.lemmas.Bool.Decides.{nat_tests}
use Rattle.std.proofs.lemmas.List.{map-append}
use Rattle.mix_tree.specs.declared.comparing.Test.{Test}
use Rattle.plan_core.specs.Plans.{Operator, source, get_descendants, join, over, tuple_destroy}
use Rattle.plan_core.specs.Unary.{select}
use Rattle.plan_make.specs.Trees.{Tree, begin, descend, both, above, under, numbered}
use Rattle.plan_make.proofs.TreeParts.{tree_kinds}
use Rattle.plan_rewrite.specs.Rewritten.{binds_test, pushed}
use Rattle.plan_rewrite.specs.Edits.{bumped, bumped_op, landed, edited, landing}
use Rattle.plan_make.proofs.Numbering.{numbered-length}

-- whether an operator is a join
unfoldable pub is_join : Operator → Bool
is_join (source s out) = false
is_join (get_descendants input start path out) = false
is_join (join left right tests) = true
is_join (over input op) = false
is_join (tuple_destroy input element) = false

-- the operator after k others is a join
unfoldable pub joins : ℕ → List Operator → Bool
joins k [] = true
joins zero (op ∷ ops) = is_join op
joins (suc k) (op ∷ ops) = joins k ops

-- whether an operator of the first of two lists is a join is told by that list alone
joins-prefix : (k : ℕ) (xs ys : List Operator) → k < length xs → joins k (xs ++ ys) ≡ joins k xs
unfolding joins
joins-prefix k [] ys h = absurd (omega (arith, h))
joins-prefix zero (op ∷ xs) ys h = refl
joins-prefix (suc k) (op ∷ xs) ys h = joins-prefix k xs ys (omega (arith, h))

-- whether an operator of the second of two lists is a join is told by that list alone
joins-after : (n k : ℕ) (xs ys : List Operator) → n ≡ length xs + k → joins n (xs ++ ys) ≡ joins k ys
unfolding joins
joins-after n k [] ys h = (let e : n ≡ k = omega (arith, h) in ap (λ (m : ℕ). joins m ys) e)
joins-after zero k (op ∷ xs) ys h = absurd (omega (arith, h))
joins-after (suc n) k (op ∷ xs) ys h = joins-after n k xs ys (omega (arith, h))

-- a selection put over an operator, or into it, leaves those of a second list after it, numbered on where it isn't a join
landed-append : (t : Test) (n : ℕ) (op : Operator) (xs ys : List Operator) → landed t n op (xs ++ ys) ≡ landed t n op xs ++ cond (is_join op) ys (map (bumped_op n) ys)
unfolding is_join
landed-append t n (source s out) xs ys = ap (λ (z : List Operator). source s out ∷ over n (select t) ∷ z) (map-append (bumped_op n) xs ys)
landed-append t n (get_descendants input start path out) xs ys = ap (λ (z : List Operator). get_descendants input start path out ∷ over n (select t) ∷ z) (map-append (bumped_op n) xs ys)
landed-append t n (join left right tests) xs ys = refl
landed-append t n (over input op) xs ys = ap (λ (z : List Operator). over input op ∷ over n (select t) ∷ z) (map-append (bumped_op n) xs ys)
landed-append t n (tuple_destroy input element) xs ys = ap (λ (z : List Operator). tuple_destroy input element ∷ over n (select t) ∷ z) (map-append (bumped_op n) xs ys)

-- a selection put in among the first of two lists leaves the second as it is, or only numbered on
edited-prefix : (t : Test) (n k : ℕ) (xs ys : List Operator) → k < length xs → edited t n k (xs ++ ys) ≡ edited t n k xs ++ cond (joins k xs) ys (map (bumped_op n) ys)
unfolding joins
edited-prefix t n k [] ys h = absurd (omega (arith, h))
edited-prefix t n zero (op ∷ xs) ys h = landed-append t n op xs ys
edited-prefix t n (suc k) (op ∷ xs) ys h = ap (λ (z : List Operator). op ∷ z) (edited-prefix t n k xs ys (omega (arith, h)))

-- a selection put in among the second of two lists changes that one alone
edited-after : (t : Test) (n a k : ℕ) (xs ys : List Operator) → a ≡ length xs + k → edited t n a (xs ++ ys) ≡ xs ++ edited t n k ys
edited-after t n a k [] ys h = (let e : a ≡ k = omega (arith, h) in ap (λ (m : ℕ). edited t n m ys) e)
edited-after t n zero k (op ∷ xs) ys h = absurd (omega (arith, h))
edited-after t n (suc a) k (op ∷ xs) ys h = ap (λ (z : List Operator). op ∷ z) (edited-after t n a k xs ys (omega (arith, h)))

-- a number at or after that of an insertion is one more
bumped-high : (n i : ℕ) → n ≤ i → bumped n i ≡ suc i
bumped-high n i h = (let e : nat_lt i n ≡ false = grind (arith, nat_tests, h) in rw e refl)

-- a number before that of an insertion stays
bumped-low : (n i : ℕ) → i < n → bumped n i ≡ i
bumped-low n i h = (let e : nat_lt i n ≡ true = grind (arith, nat_tests, h) in rw e refl)

-- operators that all stand after an insertion are numbered on by one
numbered-bumped : (n : ℕ) (x : Tree) (i : ℕ) → n < i → map (bumped_op n) (numbered i x) ≡ numbered (suc i) x
numbered-bumped n (begin s out) i h = refl
numbered-bumped n (descend x start path out) i h =
    let a : ℕ = i + under x in
    let e : bumped n a ≡ suc i + under x = bumped-high n a (omega (arith, h)) ∙ omega arith in
    map-append (bumped_op n) (numbered i x) (get_descendants a start path out ∷ [])
    ∙ ap (λ (z : List Operator). z ++ get_descendants (bumped n a) start path out ∷ []) (numbered-bumped n x i h)
    ∙ ap (λ (b : ℕ). numbered (suc i) x ++ get_descendants b start path out ∷ []) e
numbered-bumped n (both l r tests) i h =
    let m : ℕ = i + suc (under l) in
    let a : ℕ = i + under l in
    let b : ℕ = m + under r in
    let em : suc m ≡ suc i + suc (under l) = omega arith in
    let ea : bumped n a ≡ suc i + under l = bumped-high n a (omega (arith, h)) ∙ omega arith in
    let eb : bumped n b ≡ (suc i + suc (under l)) + under r = bumped-high n b (omega (arith, h)) ∙ omega arith in
    map-append (bumped_op n) (numbered i l) (numbered m r ++ join a b tests ∷ [])
    ∙ ap (λ (z : List Operator). z ++ map (bumped_op n) (numbered m r ++ join a b tests ∷ [])) (numbered-bumped n l i h)
    ∙ ap (λ (z : List Operator). numbered (suc i) l ++ z)
    (map-append (bumped_op n) (numbered m r) (join a b tests ∷ [])
    ∙ ap (λ (z : List Operator). z ++ join (bumped n a) (bumped n b) tests ∷ []) (numbered-bumped n r m (omega (arith, h)) ∙ ap (λ (j : ℕ). numbered j r) em)
    ∙ ap (λ (j : ℕ). numbered (suc i + suc (under l)) r ++ join j (bumped n b) tests ∷ []) ea
    ∙ ap (λ (j : ℕ). numbered (suc i + suc (under l)) r ++ join (suc i + under l) j tests ∷ []) eb)
numbered-bumped n (above x op) i h =
    let a : ℕ = i + under x in
    let e : bumped n a ≡ suc i + under x = bumped-high n a (omega (arith, h)) ∙ omega arith in
    map-append (bumped_op n) (numbered i x) (over a op ∷ [])
    ∙ ap (λ (z : List Operator). z ++ over (bumped n a) op ∷ []) (numbered-bumped n x i h)
    ∙ ap (λ (b : ℕ). numbered (suc i) x ++ over b op ∷ []) e

-- the edit after k operators makes of the tree x the tree y
pub record IsEdit (t : Test) (i : ℕ) (x y : Tree) (k : ℕ) : Type 0 where
  pub same : edited t (i + k) k (numbered i x) ≡ numbered i y
  pub inside : k ≤ under x
  pub size : under y ≡ cond (joins k (numbered i x)) (under x) (suc (under x))

-- where the last operator is no join, a selection put over it is an edit
edit_last : (t : Test) (i : ℕ) (prefix : List Operator) (op : Operator) (u : ℕ) → length prefix ≡ u → is_join op ≡ false
    → (edited t (i + u) u (prefix ++ op ∷ []) ≡ (prefix ++ op ∷ []) ++ over (i + u) (select t) ∷ []) × (joins u (prefix ++ op ∷ []) ≡ false)
unfolding joins is_join
edit_last t i prefix op u l h = (
  edited-after t (i + u) u 0 prefix (op ∷ []) (omega (arith, l)) ∙ ap (λ (z : List Operator). prefix ++ z) (last_one op h) ∙ sym (Rattle.std.proofs.Common.append_assoc prefix (op ∷ []) (over (i + u) (select t) ∷ [])),
  joins-after u 0 prefix (op ∷ []) (omega (arith, l)) ∙ h,
)
  where
    last_one : (o : Operator) → is_join o ≡ false → landed t (i + u) o [] ≡ o ∷ over (i + u) (select t) ∷ []
    last_one (source s out) h = refl
    last_one (get_descendants input start path out) h = refl
    last_one (join left right tests) h = cc
    last_one (over input op) h = refl
    last_one (tuple_destroy input element) h = refl

-- what stands after the left side, where u operators stand below its last one
after_left : ℕ → ℕ → Tree → List Test → List Operator
after_left i u r tests = numbered (i + suc u) r ++ join (i + u) ((i + suc u) + under r) tests ∷ []

-- what stands after the left side of a join is numbered on by one where an operator is put into that side
left-bumped : (n i u : ℕ) (r : Tree) (tests : List Test) → n ≤ i + u → map (bumped_op n) (after_left i u r tests) ≡ after_left i (suc u) r tests
unfolding after_left
left-bumped n i u r tests h =
    let m : ℕ = i + suc u in
    let em : suc m ≡ i + suc (suc u) = omega arith in
    let ea : bumped n (i + u) ≡ i + suc u = bumped-high n (i + u) h ∙ omega arith in
    let eb : bumped n (m + under r) ≡ (i + suc (suc u)) + under r = bumped-high n (m + under r) (omega (arith, h)) ∙ omega arith in
    map-append (bumped_op n) (numbered m r) (join (i + u) (m + under r) tests ∷ [])
    ∙ ap (λ (z : List Operator). z ++ join (bumped n (i + u)) (bumped n (m + under r)) tests ∷ []) (numbered-bumped n r m (omega (arith, h)) ∙ ap (λ (j : ℕ). numbered j r) em)
    ∙ ap (λ (j : ℕ). numbered (i + suc (suc u)) r ++ join j (bumped n (m + under r)) tests ∷ []) ea
    ∙ ap (λ (j : ℕ). numbered (i + suc (suc u)) r ++ join (i + suc u) j tests ∷ []) eb

-- an edit in the left side of a join is an edit of the join
edit_left : (t : Test) (i : ℕ) (l r y : Tree) (tests : List Test) (k : ℕ) → IsEdit t i l y k → IsEdit t i (both l r tests) (both y r tests) k
unfolding after_left
edit_left t i l r y tests k h =
    let n : ℕ = i + k in
    let rest : List Operator = after_left i (under l) r tests in
    let len = numbered-length l i in
    let inside : k ≤ under l = h.inside in
    let lt : k < length (numbered i l) = omega (arith, len, inside) in
    let j : Bool = joins k (numbered i l) in
    let le : n ≤ i + under l = omega (arith, inside) in
    record {
      same = edited-prefix t n k (numbered i l) rest lt ∙ ap (λ (z : List Operator). z ++ cond j rest (map (bumped_op n) rest)) h.same
          ∙ ap (λ (z : List Operator). numbered i y ++ z) (tail j le h.size);
      inside = omega (arith, inside);
      size = (let e = joins-prefix k (numbered i l) rest lt in sizes j h.size ∙ ap (λ (b : Bool). cond b (suc (under l) + suc (under r)) (suc (suc (under l) + suc (under r)))) (sym e));
    }
  where
    tail : (b : Bool) → i + k ≤ i + under l → under y ≡ cond b (under l) (suc (under l)) → cond b (after_left i (under l) r tests) (map (bumped_op (i + k)) (after_left i (under l) r tests)) ≡ after_left i (under y) r tests
    tail true le e = ap (λ (u : ℕ). after_left i u r tests) (sym e)
    tail false le e = left-bumped (i + k) i (under l) r tests le ∙ ap (λ (u : ℕ). after_left i u r tests) (sym e)

    sizes : (b : Bool) → under y ≡ cond b (under l) (suc (under l)) → suc (under y) + suc (under r) ≡ cond b (suc (under l) + suc (under r)) (suc (suc (under l) + suc (under r)))
    sizes true e = (let f : under y ≡ under l = e in omega (arith, f))
    sizes false e = (let f : under y ≡ suc (under l) = e in omega (arith, f))

-- an edit in the right side of a join is an edit of the join
edit_right : (t : Test) (i : ℕ) (l r y : Tree) (tests : List Test) (k : ℕ) → IsEdit t (i + suc (under l)) r y k → IsEdit t i (both l r tests) (both l y tests) (suc (under l) + k)
edit_right t i l r y tests k h =
    let m : ℕ = i + suc (under l) in
    let a : ℕ = suc (under l) + k in
    let n : ℕ = i + a in
    let en : n ≡ m + k = omega arith in
    let last : Operator = join (i + under l) (m + under r) tests in
    let len = numbered-length l i in
    let lenr = numbered-length r m in
    let inside : k ≤ under r = h.inside in
    let lt : k < length (numbered m r) = omega (arith, lenr, inside) in
    let ea : a ≡ length (numbered i l) + k = omega (arith, len) in
    let j : Bool = joins k (numbered m r) in
    record {
      same = edited-after t n a k (numbered i l) (numbered m r ++ last ∷ []) ea
          ∙ ap (λ (z : List Operator). numbered i l ++ z)
          (edited-prefix t n k (numbered m r) (last ∷ []) lt
          ∙ ap (λ (z : List Operator). z ++ cond j (last ∷ []) (map (bumped_op n) (last ∷ []))) (ap (λ (w : ℕ). edited t w k (numbered m r)) en ∙ h.same)
          ∙ ap (λ (z : List Operator). numbered m y ++ z) (tail j n (omega arith) (omega (arith, inside)) h.size));
      inside = omega (arith, inside);
      size = sizes j h.size ∙ ap (λ (b : Bool). cond b (suc (under l) + suc (under r)) (suc (suc (under l) + suc (under r)))) (sym (joins-after a k (numbered i l) (numbered m r ++ last ∷ []) ea ∙ joins-prefix k (numbered m r) (last ∷ []) lt));
    }
  where
    tail : (b : Bool) (n : ℕ) → i + under l < n → n ≤ (i + suc (under l)) + under r → under y ≡ cond b (under r) (suc (under r))
        → cond b (join (i + under l) ((i + suc (under l)) + under r) tests ∷ []) (join (bumped n (i + under l)) (bumped n ((i + suc (under l)) + under r)) tests ∷ []) ≡ join (i + under l) ((i + suc (under l)) + under y) tests ∷ []
    tail true n lo hi e = ap (λ (u : ℕ). join (i + under l) ((i + suc (under l)) + u) tests ∷ []) (sym e)
    tail false n lo hi e =
        let f : under y ≡ suc (under r) = e in
        let g : bumped n ((i + suc (under l)) + under r) ≡ (i + suc (under l)) + under y = bumped-high n ((i + suc (under l)) + under r) hi ∙ omega (arith, f) in
        ap (λ (p : ℕ). join p (bumped n ((i + suc (under l)) + under r)) tests ∷ []) (bumped-low n (i + under l) lo) ∙ ap (λ (q : ℕ). join (i + under l) q tests ∷ []) g

    sizes : (b : Bool) → under y ≡ cond b (under r) (suc (under r)) → suc (under l) + suc (under y) ≡ cond b (suc (under l) + suc (under r)) (suc (suc (under l) + suc (under r)))
    sizes true e = (let f : under y ≡ under r = e in omega (arith, f))
    sizes false e = (let f : under y ≡ suc (under r) = e in omega (arith, f))

-- adding a selection to the join itself is an edit of the join
edit_here : (t : Test) (i : ℕ) (l r : Tree) (tests : List Test) → IsEdit t i (both l r tests) (both l r (tests ++ t ∷ [])) (suc (under l) + suc (under r))
unfolding joins is_join
edit_here t i l r tests =
    let m : ℕ = i + suc (under l) in
    let a : ℕ = suc (under l) + suc (under r) in
    let n : ℕ = i + a in
    let last : Operator = join (i + under l) (m + under r) tests in
    let len = numbered-length l i in
    let lenr = numbered-length r m in
    let ea : a ≡ length (numbered i l) + suc (under r) = omega (arith, len) in
    let er : suc (under r) ≡ length (numbered m r) + 0 = omega (arith, lenr) in
    record {
      same = edited-after t n a (suc (under r)) (numbered i l) (numbered m r ++ last ∷ []) ea
          ∙ ap (λ (z : List Operator). numbered i l ++ z) (edited-after t n (suc (under r)) 0 (numbered m r) (last ∷ []) er);
      inside = omega arith;
      size = ap (λ (b : Bool). cond b a (suc a)) (sym (joins-after a (suc (under r)) (numbered i l) (numbered m r ++ last ∷ []) ea ∙ joins-after (suc (under r)) 0 (numbered m r) (last ∷ []) er));
    }

-- pushing is the edit at the landing
pub edits : (t : Test) (x : Tree) (i : ℕ) → IsEdit t i x (pushed t x) (landing t x)
unfolding joins is_join
edits t (begin s out) i = record { same = refl; inside = omega arith; size = refl }
edits t (descend x start path out) i =
    let op : Operator = get_descendants (i + under x) start path out in
    let e = edit_last t i (numbered i x) op (suc (under x)) (numbered-length x i) refl in
    record { same = e.0; inside = omega arith; size = ap (λ (b : Bool). cond b (suc (under x)) (suc (suc (under x)))) (sym e.1) }
edits t (above x op) i =
    let e = edit_last t i (numbered i x) (over (i + under x) op) (suc (under x)) (numbered-length x i) refl in
    record { same = e.0; inside = omega arith; size = ap (λ (b : Bool). cond b (suc (under x)) (suc (suc (under x)))) (sym e.1) }
edits t (both l r tests) i =
    elim (binds_test (tree_kinds l) t) as (λ w. IsEdit t i (both l r tests) (cond w (both (pushed t l) r tests) (cond (binds_test (tree_kinds r) t) (both l (pushed t r) tests) (both l r (tests ++ t ∷ []))))
    (cond w (landing t l) (cond (binds_test (tree_kinds r) t) (suc (under l) + landing t r) (suc (under l) + suc (under r))))) [
      | true ↦ edit_left t i l r (pushed t l) tests (landing t l) (edits t l i)
      | false ↦ elim (binds_test (tree_kinds r) t) as (λ w. IsEdit t i (both l r tests) (cond w (both l (pushed t r) tests) (both l r (tests ++ t ∷ []))) (cond w (suc (under l) + landing t r) (suc (under l) + suc (under r)))) [
        | true ↦ edit_right t i l r (pushed t r) tests (landing t r) (edits t r (i + suc (under l)))
        | false ↦ edit_here t i l r tests
      ]
    ]

-- pushing a selection into a tree whose operators are numbered from 0 is the edit at its landing
pub edited-pushed : (t : Test) (x : Tree) → edited t (landing t x) (landing t x) (numbered 0 x) ≡ numbered 0 (pushed t x)
edited-pushed t x = (let e : 0 + landing t x ≡ landing t x = omega arith in ap (λ (n : ℕ). edited t n (landing t x) (numbered 0 x)) (sym e) ∙ (edits t x 0).same)
