-- Filtered and sorted lists of tuples.
use Rattle.std.proofs.Common.{◌≡◌, ◌⊎◌, ◌↔◌, ℕ, Bool, true, false, cond, List, [], ◌∷◌, refl, ◌∙◌, sym, ap, inl, inr, Option, None, Some, is_lt}
use Rattle.std.specs.List.{filter, AllByRecursion}
use Rattle.std.proofs.Common.{Ordering, Less, Equal, Greater}
use Rattle.std.specs.Ordering.{ordering_reverse}
use Rattle.mix_tree.proofs.LabelOrders.{label_order_ok}
use Rattle.mix_base.proofs.Ascents.{each_among}
use Rattle.mix_base.specs.Ascents.{Among, Ascending}
use Rattle.mix_tree.specs.LabelOrder.{label_before, label_order}
use Rattle.mix_tree.specs.Nodes.{Documents}
use Rattle.mix_tree.specs.declared.comparing.Test.{Test}
use Rattle.mix_tree.specs.Comparisons.{passes}
use Rattle.xmas_rule.specs.Bindings.{Binding, node_of, TupleBefore, label_of, sorts_before, StandsBefore}
use Rattle.xmas_rule.specs.declared.condition.OrderBy.{OrderBy}
use Rattle.xmas_rule.proofs.Members.{among_each, among-filter, among_filter, ascending_filter}
use Rattle.xmas_rule.specs.Sorted.{insert_by, sorted_by}
use Rattle.xmas_rule.specs.Tuples.{passing, in_order_of}

-- a tuple that passes is one of all, and each comparison holds
pub among-passing : (docs : Documents) (ts : List Test) (b : Binding) (bs : List Binding) → Among b (passing docs ts bs) → Among b bs × AllByRecursion (λ t. passes docs t (node_of b) ≡ true) ts
unfolding passing
among-passing docs [] b bs h = (h, tt)
among-passing docs (t ∷ ts) b bs h =
    let r = among-passing docs ts b (filter (λ b. passes docs t (node_of b)) bs) h in
    let q = among-filter (λ b. passes docs t (node_of b)) b bs r.0 in (q.0, (q.1, r.1))

-- a tuple of which each comparison holds passes
pub among_passing : (docs : Documents) (ts : List Test) (b : Binding) (bs : List Binding) → Among b bs → AllByRecursion (λ t. passes docs t (node_of b) ≡ true) ts → Among b (passing docs ts bs)
unfolding passing
among_passing docs [] b bs h k = h
among_passing docs (t ∷ ts) b bs h k = among_passing docs ts b (filter (λ b. passes docs t (node_of b)) bs) (among_filter (λ b. passes docs t (node_of b)) b bs h k.0) k.1

-- tuples of an ascending list that pass ascend
pub passing-ascends : (docs : Documents) (ts : List Test) (bs : List Binding) → Ascending TupleBefore bs → Ascending TupleBefore (passing docs ts bs)
unfolding passing
passing-ascends docs [] bs h = h
passing-ascends docs (t ∷ ts) bs h = passing-ascends docs ts (filter (λ b. passes docs t (node_of b)) bs) (ascending_filter TupleBefore (λ b. passes docs t (node_of b)) bs h)

-- a member of a list into which one was put
among-insert : {X : Type 0} (less : X → X → Bool) (z x : X) (xs : List X) → Among z (insert_by less x xs) → (z ≡ x) ⊎ Among z xs
among-insert less z x [] h = h
among-insert less z x (y ∷ xs) h = elim (less y x) as (λ w. Among z (cond w (y ∷ insert_by less x xs) (x ∷ y ∷ xs)) → ((z ≡ x) ⊎ ((z ≡ y) ⊎ Among z xs)))
    [ true ↦ λ m. elim m [ inl e ↦ inr (inl e) | inr e ↦ elim (among-insert less z x xs e) [ inl q ↦ inl q | inr q ↦ inr (inr q) ] ] | false ↦ λ m. m ] h

-- what was put into a list, and each of the list's members, is a member of the list with it
among_insert : {X : Type 0} (less : X → X → Bool) (z x : X) (xs : List X) → (z ≡ x) ⊎ Among z xs → Among z (insert_by less x xs)
among_insert less z x [] h = h
among_insert less z x (y ∷ xs) h = elim (less y x) as (λ w. Among z (cond w (y ∷ insert_by less x xs) (x ∷ y ∷ xs)))
    [ true ↦ elim h [ inl e ↦ inr (among_insert less z x xs (inl e)) | inr e ↦ elim e [ inl q ↦ inl q | inr q ↦ inr (among_insert less z x xs (inr q)) ] ] | false ↦ h ]

-- a member of the sorted list is one of the list
pub among-sorted : {X : Type 0} (less : X → X → Bool) (z : X) (xs : List X) → Among z (sorted_by less xs) → Among z xs
among-sorted less z [] h = h
among-sorted less z (x ∷ xs) h = elim (among-insert less z x (sorted_by less xs) h) [ inl e ↦ inl e | inr e ↦ inr (among-sorted less z xs e) ]

-- a member of the list is one of the sorted list
pub among_sorted : {X : Type 0} (less : X → X → Bool) (z : X) (xs : List X) → Among z xs → Among z (sorted_by less xs)
among_sorted less z [] h = h
among_sorted less z (x ∷ xs) (inl e) = among_insert less z x (sorted_by less xs) (inl e)
among_sorted less z (x ∷ xs) (inr e) = among_insert less z x (sorted_by less xs) (inr (among_sorted less z xs e))

-- one stands before another by their keys, or, where the keys are equal, by the order before
unfoldable pub ByKey : {X K : Type 0} → (K → K → Bool) → (X → K) → (X → X → Type 0) → X → X → Type 0
ByKey before key R a b = (before (key a) (key b) ≡ true) ⊎ ((key a ≡ key b) × R a b)

-- where one stands before another by a key, and that before a third, the first stands before the third
by_key_on : {X K : Type 0} (before : K → K → Bool) (key : X → K) (R : X → X → Type 0) → ((a b c : K) → before a b ≡ true → before b c ≡ true → before a c ≡ true) →
    (x y z : X) → ByKey before key R x y → ByKey before key R y z → R x z → ByKey before key R x z
unfolding ByKey
by_key_on before key R on x y z (inl e) (inl f) r = inl (on (key x) (key y) (key z) e f)
by_key_on before key R on x y z (inl e) (inr f) r = inl (rw (← f.0) e)
by_key_on before key R on x y z (inr e) (inl f) r = inl (rw e.0 f)
by_key_on before key R on x y z (inr e) (inr f) r = inr (e.0 ∙ f.0, r)

-- put into an ascending list it ascends
insert-ascends : {X K : Type 0} (before : K → K → Bool) (key : X → K) (R : X → X → Type 0) → ((a b c : K) → before a b ≡ true → before b c ≡ true → before a c ≡ true) → ((a b : K) → before a b ≡ false → before b a ≡ false → a ≡ b) →
    (x : X) (xs : List X) → AllByRecursion (R x) xs → Ascending (ByKey before key R) xs → Ascending (ByKey before key R) (insert_by (λ a b. before (key a) (key b)) x xs)
unfolding ByKey
insert-ascends before key R on all x [] r h = (tt, tt)
insert-ascends before key R on all x (y ∷ xs) r h =
    elim (before (key y) (key x)) as (λ w. before (key y) (key x) ≡ w → Ascending (ByKey before key R) (cond w (y ∷ insert_by (λ a b. before (key a) (key b)) x xs) (x ∷ y ∷ xs))) [
      | true ↦ λ e. (
        among_each (ByKey before key R y) (insert_by (λ a b. before (key a) (key b)) x xs)
            (λ z m. elim (among-insert (λ a b. before (key a) (key b)) z x xs m) [ inl q ↦ inl (rw q e) | inr q ↦ each_among (ByKey before key R y) xs h.0 z q ]),
        insert-ascends before key R on all x xs r.1 h.1,
      )
      | false ↦ λ e.
          (let first : ByKey before key R x y = elim (before (key x) (key y)) as (λ w. before (key x) (key y) ≡ w → ByKey before key R x y)
          [ true ↦ λ d. inl d | false ↦ λ d. inr (all (key x) (key y) d e, r.0) ] refl in
          ((first, among_each (ByKey before key R x) xs (λ z m. by_key_on before key R on x y z first (each_among (ByKey before key R y) xs h.0 z m) (each_among (R x) xs r.1 z m))), h))
    ] refl

-- a list sorted by a key ascends by it, ties as they stood
pub sorted-ascends : {X K : Type 0} (before : K → K → Bool) (key : X → K) (R : X → X → Type 0) → ((a b c : K) → before a b ≡ true → before b c ≡ true → before a c ≡ true) → ((a b : K) → before a b ≡ false → before b a ≡ false → a ≡ b) →
    (xs : List X) → Ascending R xs → Ascending (ByKey before key R) (sorted_by (λ a b. before (key a) (key b)) xs)
sorted-ascends before key R on all [] h = tt
sorted-ascends before key R on all (x ∷ xs) h =
    insert-ascends before key R on all x (sorted_by (λ a b. before (key a) (key b)) xs)
    (among_each (R x) (sorted_by (λ a b. before (key a) (key b)) xs) (λ z m. each_among (R x) xs h.0 z (among-sorted (λ a b. before (key a) (key b)) z xs m)))
    (sorted-ascends before key R on all xs h.1)

-- the bindings in the order of a rule are the same bindings
pub among-order : (docs : Documents) (o : Option OrderBy) (b : Binding) (bs : List Binding) → Among b (in_order_of docs o bs) ↔ Among b bs
unfolding in_order_of
among-order docs None b bs = ((λ h. h), (λ h. h))
among-order docs (Some o) b bs =
    ((λ h. among-sorted (λ a b. sorts_before o (label_of docs o.var a) (label_of docs o.var b)) b bs h), (λ h. among_sorted (λ a b. sorts_before o (label_of docs o.var a) (label_of docs o.var b)) b bs h))

-- a comparison of which the test says less is Less
less_of : (o : Ordering) → is_lt o ≡ true → o ≡ Less
less_of Less h = refl
less_of Equal h = cc
less_of Greater h = cc

-- where one label stands before another and that before a third, the first stands before the third
label-on : (a b c : List ℕ) → label_before a b ≡ true → label_before b c ≡ true → label_before a c ≡ true
label-on a b c h k = ap is_lt (label_order_ok.total.trans a b c (less_of (label_order a b) h) (less_of (label_order b c) k))

-- two labels of which none stands before the other are one
label-all : (a b : List ℕ) → label_before a b ≡ false → label_before b a ≡ false → a ≡ b
label-all a b h k = cases (label_order a b) (label_order b a) (label_order_ok.total.antisymm b a) h k (λ e. (label_order_ok.same a b).0 e)
  where
    cases : (o p : Ordering) → p ≡ ordering_reverse o → is_lt o ≡ false → is_lt p ≡ false → (o ≡ Equal → a ≡ b) → a ≡ b
    cases Less p e h k f = cc
    cases Equal p e h k f = f refl
    cases Greater p e h k f = (let c : is_lt p ≡ true = ap is_lt e in let d : true ≡ false = sym c ∙ k in cc)

-- the order of a rule goes on
sorts-on : (o : OrderBy) (a b c : List ℕ) → sorts_before o a b ≡ true → sorts_before o b c ≡ true → sorts_before o a c ≡ true
sorts-on o a b c = elim o.desc as (λ w. cond w (label_before b a) (label_before a b) ≡ true → cond w (label_before c b) (label_before b c) ≡ true → cond w (label_before c a) (label_before a c) ≡ true)
    [ true ↦ λ h k. label-on c b a k h | false ↦ λ h k. label-on a b c h k ]

-- labels of which none comes first by it are one
sorts-all : (o : OrderBy) (a b : List ℕ) → sorts_before o a b ≡ false → sorts_before o b a ≡ false → a ≡ b
sorts-all o a b = elim o.desc as (λ w. cond w (label_before b a) (label_before a b) ≡ false → cond w (label_before a b) (label_before b a) ≡ false → a ≡ b)
    [ true ↦ λ h k. label-all a b k h | false ↦ λ h k. label-all a b h k ]

-- bindings that ascend by their tuples ascend in the order of a rule
pub order-ascends : (docs : Documents) (o : Option OrderBy) (bs : List Binding) → Ascending TupleBefore bs → Ascending (StandsBefore docs o) (in_order_of docs o bs)
unfolding in_order_of ByKey
order-ascends docs None bs h = h
order-ascends docs (Some o) bs h = sorted-ascends (sorts_before o) (label_of docs o.var) TupleBefore (sorts-on o) (sorts-all o) bs h
