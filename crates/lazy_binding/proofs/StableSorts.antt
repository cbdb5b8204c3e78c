-- A stable sort has one outcome: what putting each element in its place makes.
use Rattle.std.proofs.Common.{◌≡◌, ◌<◌, ◌≤◌, ◌&&◌, ℕ, zero, suc, Bool, true, false, not, cond, List, [], ◌∷◌, length, refl, ◌∙◌, sym, ap, arith, get_or}
use Rattle.std.specs.List.{AllByRecursion, filter}
use Rattle.std.specs.List.Sorted.{IsSortedBy, ties, IsStableBy}
use Rattle.std.specs.Cmp.{IsStrictWeakOrder}
use Rattle.std.proofs.lemmas.List.Sorted.{sorted_far, ranks_by, IsStrictWeakOrder-flip}
use Rattle.mix_tree.specs.LabelOrder.{label_before}
use Rattle.mix_tree.proofs.LabelOrders.{label_order_ok}
use Rattle.plan_core.specs.Sorted.{insert_by, sorted_by}
use Rattle.plan_core.specs.Unary.{comes_before}

module _ {X : Type 0} (lt : X → X → Bool) (o : IsStrictWeakOrder lt) where
  -- no element is before one that stands before it
  abbrev pub Rises : List X → Type 0
  Rises [] = Unit {0}
  Rises (x ∷ xs) = AllByRecursion (λ y. lt y x ≡ false) xs × Rises xs

  -- where no element at any index is before a given one, none of the elements is
  all_far : (x : X) (xs : List X) → ((i : ℕ) (d : X) → i < length xs → lt (get_or xs i d) x ≡ false) → AllByRecursion (λ y. lt y x ≡ false) xs
  all_far x [] h = tt
  all_far x (y ∷ xs) h = (h zero y (omega arith), all_far x xs (λ i d l. h (suc i) d (omega (arith, l))))

  -- a list of which none at a later index is before one at an earlier index rises
  pub rises : (xs : List X) → ((i j : ℕ) (d : X) → i ≤ j → j < length xs → lt (get_or xs j d) (get_or xs i d) ≡ false) → Rises xs
  rises [] h = tt
  rises (x ∷ xs) h = (all_far x xs (λ i d l. h zero (suc i) d (omega arith) (omega (arith, l))), rises xs (λ i j d k l. h (suc i) (suc j) d (omega (arith, k)) (omega (arith, l))))

  -- an element is not before itself
  self : (x : X) → lt x x ≡ false
  self x = elim (lt x x) as (λ t. lt x x ≡ t → lt x x ≡ false) [ true ↦ λ e. o.one_way x x e | false ↦ λ e. e ] refl

  -- an element ties with itself
  ties_self : (x : X) → ties lt x x ≡ true
  ties_self x = rw (self x) refl

  -- one that is before another ties with none after that one
  apart : (x y : X) (zs : List X) → lt x y ≡ true → AllByRecursion (λ z. lt z y ≡ false) zs → filter (ties lt x) zs ≡ []
  apart x y [] h a = refl
  apart x y (z ∷ zs) h a =
      elim (lt x z) as (λ t. lt x z ≡ t → cond (not t && not (lt z x)) (z ∷ filter (ties lt x) zs) (filter (ties lt x) zs) ≡ []) [
        | true ↦ λ e. apart x y zs h a.1
        | false ↦ λ e. (let c = o.chain x z y e a.0 in let d : true ≡ false = sym h ∙ c in cc)
      ] refl

  -- an element that is before another ties neither with that one nor with what rises after it
  apart_all : (x y : X) (zs : List X) → lt x y ≡ true → AllByRecursion (λ z. lt z y ≡ false) zs → filter (ties lt x) (y ∷ zs) ≡ []
  apart_all x y zs h a = rw h (apart x y zs h a)

  -- the first element of a list ties with itself, so it is among those that tie with it
  keeps_first : (x : X) (xs : List X) → filter (ties lt x) (x ∷ xs) ≡ x ∷ filter (ties lt x) xs
  keeps_first x xs = rw (ties_self x) refl

  -- two lists that are alike with one element before each, or with none, are alike without it
  rest_same : (t : Bool) (x : X) (xs ys : List X) → cond t (x ∷ xs) xs ≡ cond t (x ∷ ys) ys → xs ≡ ys
  rest_same true x xs ys h = cc
  rest_same false x xs ys h = h

  -- an element that is before the head of the other list isn't in it
  not_before : (x y : X) (xs ys : List X) → Rises (y ∷ ys) → ((z : X) → filter (ties lt z) (x ∷ xs) ≡ filter (ties lt z) (y ∷ ys)) → lt x y ≡ false
  not_before x y xs ys r h =
      elim (lt x y) as (λ t. lt x y ≡ t → t ≡ false) [
        | true ↦ λ e. (let c : x ∷ filter (ties lt x) xs ≡ [] = sym (keeps_first x xs) ∙ h x ∙ apart_all x y ys e r.0 in cc)
        | false ↦ λ e. refl
      ] refl

  -- lists that rise are the same where ties stand alike
  pub one_sort : (xs ys : List X) → Rises xs → Rises ys → ((z : X) → filter (ties lt z) xs ≡ filter (ties lt z) ys) → xs ≡ ys
  one_sort [] [] r s h = refl
  one_sort [] (y ∷ ys) r s h = let c : [] ≡ y ∷ filter (ties lt y) ys = h y ∙ keeps_first y ys in cc
  one_sort (x ∷ xs) [] r s h = let c : x ∷ filter (ties lt x) xs ≡ [] = sym (keeps_first x xs) ∙ h x in cc
  one_sort (x ∷ xs) (y ∷ ys) r s h =
      let a : lt x y ≡ false = not_before x y xs ys s h in
      let b : lt y x ≡ false = not_before y x ys xs r (λ z. sym (h z)) in
      let t : ties lt x y ≡ true = rw (a, b) refl in
      let both : x ∷ filter (ties lt x) xs ≡ y ∷ filter (ties lt x) ys = sym (keeps_first x xs) ∙ h x ∙ ap (λ (c : Bool). cond c (y ∷ filter (ties lt x) ys) (filter (ties lt x) ys)) t in
      let e : x ≡ y = cc in
      ap (λ (z : X). z ∷ xs) e
      ∙ ap (λ (zs : List X). y ∷ zs) (one_sort xs ys r.1 s.1 (λ z. rest_same (ties lt z x) x (filter (ties lt z) xs) (filter (ties lt z) ys)
      (h z ∙ ap (λ (u : X). cond (ties lt z u) (u ∷ filter (ties lt z) ys) (filter (ties lt z) ys)) (sym e))))

  -- what is true of an element and of all others is true of all where it is put
  pub all_insert : (P : X → Type 0) (x : X) (xs : List X) → P x → AllByRecursion P xs → AllByRecursion P (insert_by lt x xs)
  all_insert P x [] p a = (p, tt)
  all_insert P x (y ∷ xs) p a =
      elim (lt y x) as (λ t. AllByRecursion P (cond t (y ∷ insert_by lt x xs) (x ∷ y ∷ xs))) [ true ↦ (a.0, all_insert P x xs p a.1) | false ↦ (p, a) ]

  -- a property of all elements of a list is one of all elements of it once sorted
  pub all_sorted : (P : X → Type 0) (xs : List X) → AllByRecursion P xs → AllByRecursion P (sorted_by lt xs)
  all_sorted P [] a = tt
  all_sorted P (x ∷ xs) a = all_insert P x (sorted_by lt xs) a.0 (all_sorted P xs a.1)

  -- putting an element in its place makes a list one longer
  length_insert : (x : X) (xs : List X) → length (insert_by lt x xs) ≡ suc (length xs)
  length_insert x [] = refl
  length_insert x (y ∷ xs) = elim (lt y x) as (λ t. length (cond t (y ∷ insert_by lt x xs) (x ∷ y ∷ xs)) ≡ suc (suc (length xs))) [ true ↦ ap suc (length_insert x xs) | false ↦ refl ]

  -- sorting a list keeps its length
  pub length_sorted : (xs : List X) → length (sorted_by lt xs) ≡ length xs
  length_sorted [] = refl
  length_sorted (x ∷ xs) = length_insert x (sorted_by lt xs) ∙ ap suc (length_sorted xs)

  -- none is before one that is itself not before another
  chained : (x y : X) (zs : List X) → lt y x ≡ false → AllByRecursion (λ z. lt z y ≡ false) zs → AllByRecursion (λ z. lt z x ≡ false) zs
  chained x y [] h a = tt
  chained x y (z ∷ zs) h a = (o.chain z y x a.0 h, chained x y zs h a.1)

  -- putting an element in its place keeps the rise
  rises_insert : (x : X) (xs : List X) → Rises xs → Rises (insert_by lt x xs)
  rises_insert x [] r = (tt, tt)
  rises_insert x (y ∷ xs) r =
      elim (lt y x) as (λ t. lt y x ≡ t → Rises (cond t (y ∷ insert_by lt x xs) (x ∷ y ∷ xs))) [
        | true ↦ λ e. (all_insert (λ z. lt z y ≡ false) x xs (o.one_way y x e) r.0, rises_insert x xs r.1)
        | false ↦ λ e. ((e, chained x y xs e r.0), r)
      ] refl

  -- a list that is sorted rises
  rises_sorted : (xs : List X) → Rises (sorted_by lt xs)
  rises_sorted [] = tt
  rises_sorted (x ∷ xs) = rises_insert x (sorted_by lt xs) (rises_sorted xs)

  -- two that tie with a third are not before each other
  tied : (z x y : X) → lt y x ≡ true → ties lt z x ≡ true → ties lt z y ≡ false
  tied z x y e h =
      elim (lt y z) as (λ t. lt y z ≡ t → not (lt z y) && not t ≡ false) [
        | true ↦ λ a. and_false (not (lt z y))
        | false ↦ λ a. (let b = o.chain y z x a (first_false (lt z x) (lt x z) h) in let d : true ≡ false = sym e ∙ b in cc)
      ] refl
    where
      and_false : (t : Bool) → t && false ≡ false
      and_false true = refl
      and_false false = refl

      first_false : (t u : Bool) → not t && not u ≡ true → t ≡ false
      first_false true u h = cc
      first_false false u h = refl

  -- of two elements of which not both pass a test, the order doesn't matter to what passes
  swapped : (s t : Bool) (x y : X) (xs : List X) → (s ≡ true → t ≡ false) → cond t (y ∷ cond s (x ∷ xs) xs) (cond s (x ∷ xs) xs) ≡ cond s (x ∷ cond t (y ∷ xs) xs) (cond t (y ∷ xs) xs)
  swapped true true x y xs h = let c : true ≡ false = h refl in cc
  swapped true false x y xs h = refl
  swapped false true x y xs h = refl
  swapped false false x y xs h = refl

  -- putting an element in its place leaves ties as they stood
  stable_insert : (z x : X) (xs : List X) → filter (ties lt z) (insert_by lt x xs) ≡ filter (ties lt z) (x ∷ xs)
  stable_insert z x [] = refl
  stable_insert z x (y ∷ xs) =
      elim (lt y x) as (λ t. lt y x ≡ t → filter (ties lt z) (cond t (y ∷ insert_by lt x xs) (x ∷ y ∷ xs)) ≡ filter (ties lt z) (x ∷ y ∷ xs)) [
        | true ↦ λ e.
            ap (λ (zs : List X). cond (ties lt z y) (y ∷ zs) zs) (stable_insert z x xs)
            ∙ swapped (ties lt z x) (ties lt z y) x y (filter (ties lt z) xs) (tied z x y e)
        | false ↦ λ e. refl
      ] refl

  -- sorting keeps elements that tie in their order
  stable_sorted : (xs : List X) → IsStableBy lt xs (sorted_by lt xs)
  stable_sorted [] z = refl
  stable_sorted (x ∷ xs) z = stable_insert z x (sorted_by lt xs) ∙ ap (λ (zs : List X). cond (ties lt z x) (x ∷ zs) zs) (stable_sorted xs z)

  -- what a stable sort of a list makes is the list as it is sorted by putting each element in its place
  pub sort_is : (xs ys : List X) → IsSortedBy lt ys → IsStableBy lt xs ys → ys ≡ sorted_by lt xs
  sort_is xs ys up stable = one_sort ys (sorted_by lt xs) (rises ys (sorted_far lt o ys up)) (rises_sorted xs) (λ z. stable z ∙ sym (stable_sorted xs z))

-- the label order of what has labels, or that order turned round, is a strict weak order
pub label_weak : {X : Type 0} (desc : Bool) (key : X → List ℕ) → IsStrictWeakOrder (λ x y. comes_before desc (key x) (key y))
label_weak true key = IsStrictWeakOrder-flip (λ x y. label_before (key x) (key y)) (ranks_by label_order_ok.total key)
label_weak false key = ranks_by label_order_ok.total key
