-- The first element of a list that passes a test, after one is put behind the others or in the place of another.
use Rattle.std.proofs.Common.{◌≡◌, ◌⊎◌, inl, inr, ◌∙◌, ◌+◌, ◌<◌, ℕ, zero, suc, Bool, true, false, cond, List, [], ◌∷◌, ◌++◌, length, length-append, get_or, set, refl, ap, sym, subst, arith}
use Rattle.std.specs.Prelude.{Option, Some, None, nat_lt, not, option_and_then}
use Rattle.std.specs.List.{find, position, position_or_len, slice_get}
use Rattle.std.proofs.lemmas.Bool.{ltb-false, lt-ltb, eq-eqb}
use Rattle.std.proofs.lemmas.List.Folds.{find_at, find-set, position_or_len_push}
use Rattle.std.proofs.lemmas.List.Quantifiers.{position-Some}
use Rattle.std.proofs.lemmas.List.Sums.{prefix_len-le-length}
use Rattle.std.proofs.lemmas.Option.{slice_get_past, slice_get_read}

-- a place that there is where a test holds is that place
some_place : (b : Bool) (n i : ℕ) → cond b (Some n) None ≡ Some i → i ≡ n
some_place true n i e = cc
some_place false n i e = absurd cc

-- where there is no place the test doesn't hold
no_place : (b : Bool) (n : ℕ) → None ≡ cond b (Some n) None → b ≡ false
no_place true n e = absurd cc
no_place false n e = refl

-- what is no place is none
pub none_of : (o : Option ℕ) → ((n : ℕ) → o ≡ Some n → ⊥) → o ≡ None
none_of None none = refl
none_of (Some n) none = absurd (none n refl)

module _ {X : Type 0} (test : X → Bool) where
  -- the place of the first element that passes is one of those of the list
  pub place_within : (xs : List X) (i : ℕ) → position test xs ≡ Some i → (i ≡ position_or_len test xs) × (i < length xs)
  place_within [] i e = absurd (cc e)
  place_within (x ∷ xs) i e =
      (some_place (nat_lt (position_or_len test (x ∷ xs)) (length (x ∷ xs))) (position_or_len test (x ∷ xs)) i e, (position-Some test (x ∷ xs) i x e).0)

  -- the element at the place of the first one that passes is that one
  pub first_is : (xs : List X) → option_and_then (slice_get xs) (position test xs) ≡ find test xs
  first_is xs = by (nat_lt (position_or_len test xs) (length xs)) refl
    where
      by : (b : Bool) → nat_lt (position_or_len test xs) (length xs) ≡ b → option_and_then (slice_get xs) (cond b (Some (position_or_len test xs)) None) ≡ find test xs
      by true e = sym (find_at test xs)
      by false e = sym (find_at test xs ∙ slice_get_past xs (position_or_len test xs) (ltb-false (position_or_len test xs) (length xs) e))

  -- the element at that place is the first one that passes
  pub found : (xs : List X) (i : ℕ) (x : X) → position test xs ≡ Some i → x ≡ get_or xs i x → find test xs ≡ Some x
  found xs i x e is =
      let at = place_within xs i e in
      find_at test xs ∙ ap (slice_get xs) (sym at.0) ∙ slice_get_read xs (length xs) i x refl at.1 is

  -- an element that passes, put at that place, is the first one then
  pub found_set : (xs : List X) (i : ℕ) (y : X) → position test xs ≡ Some i → test y ≡ true → find test (set xs i y) ≡ Some y
  found_set xs i y e passes = let at = place_within xs i e in find-set test xs i y at.0 at.1 passes

  -- an element in the place of another that passes exactly where that did is the first one then where that was, and else the first one stays
  pub find_put : (xs : List X) (i : ℕ) (x y : X) → i < length xs → x ≡ get_or xs i x → test y ≡ test x
      → ((find test xs ≡ Some x) × (find test (set xs i y) ≡ Some y)) ⊎ (find test (set xs i y) ≡ find test xs)
  find_put [] i x y h is same = absurd (omega arith)
  find_put (z ∷ xs) zero x y h is same = by (test z) refl
    where
      by : (b : Bool) → test z ≡ b → ((find test (z ∷ xs) ≡ Some x) × (find test (y ∷ xs) ≡ Some y)) ⊎ (find test (y ∷ xs) ≡ find test (z ∷ xs))
      by true e = inl (ap (λ b. cond b (Some z) (find test xs)) e ∙ ap Some (sym is), ap (λ b. cond b (Some y) (find test xs)) (same ∙ ap test is ∙ e))
      by false e = inr (ap (λ b. cond b (Some y) (find test xs)) (same ∙ ap test is ∙ e) ∙ sym (ap (λ b. cond b (Some z) (find test xs)) e))
  find_put (z ∷ xs) (suc i) x y h is same = by (test z) (find_put xs i x y (omega arith) is same)
    where
      by : (b : Bool) → ((find test xs ≡ Some x) × (find test (set xs i y) ≡ Some y)) ⊎ (find test (set xs i y) ≡ find test xs)
          → ((cond b (Some z) (find test xs) ≡ Some x) × (cond b (Some z) (find test (set xs i y)) ≡ Some y)) ⊎ (cond b (Some z) (find test (set xs i y)) ≡ cond b (Some z) (find test xs))
      by true k = inr refl
      by false k = k

  -- an element that passes, put behind others of which none does, is at the first place that passes
  pub place_push : (xs : List X) (y : X) → None ≡ position test xs → test y ≡ true → position test (xs ++ y ∷ []) ≡ Some (length xs)
  place_push xs y e passes =
      let none = ltb-false (position_or_len test xs) (length xs) (no_place (nat_lt (position_or_len test xs) (length xs)) (position_or_len test xs) e) in
      let most = prefix_len-le-length (λ x. not (test x)) xs in
      let there : position_or_len test xs ≡ length xs = omega (arith, none, most) in
      let last : position_or_len test (xs ++ y ∷ []) ≡ length xs =
      position_or_len_push test xs y
      ∙ ap (λ b. cond b (length xs + cond (test y) 0 1) (position_or_len test xs)) (eq-eqb (position_or_len test xs) (length xs) there)
      ∙ ap (λ b. length xs + cond b 0 1) passes
      ∙ omega arith in
      let within : position_or_len test (xs ++ y ∷ []) < length (xs ++ y ∷ []) = omega (arith, last, length-append xs (y ∷ [])) in
      ap (λ b. cond b (Some (position_or_len test (xs ++ y ∷ []))) None) (lt-ltb (position_or_len test (xs ++ y ∷ [])) (length (xs ++ y ∷ [])) within) ∙ ap Some last

  -- an element that is put behind others is the first one that passes only where none of the others does
  pub find_push : (xs : List X) (y : X) → ((find test (xs ++ y ∷ []) ≡ Some y) × (find test xs ≡ None)) ⊎ (find test (xs ++ y ∷ []) ≡ find test xs)
  find_push [] y = by (test y)
    where
      by : (b : Bool) → ((cond b (Some y) None ≡ Some y) × (find test [] ≡ None)) ⊎ (cond b (Some y) None ≡ find test [])
      by true = inl (refl, refl)
      by false = inr refl
  find_push (x ∷ xs) y = by (test x) (find_push xs y)
    where
      by : (b : Bool) → ((find test (xs ++ y ∷ []) ≡ Some y) × (find test xs ≡ None)) ⊎ (find test (xs ++ y ∷ []) ≡ find test xs)
          → ((cond b (Some x) (find test (xs ++ y ∷ [])) ≡ Some y) × (cond b (Some x) (find test xs) ≡ None)) ⊎ (cond b (Some x) (find test (xs ++ y ∷ [])) ≡ cond b (Some x) (find test xs))
      by true k = inr refl
      by false k = k

  -- the first element that passes passes
  pub found_passes : (xs : List X) (x : X) → find test xs ≡ Some x → test x ≡ true
  found_passes [] x e = absurd cc
  found_passes (z ∷ xs) x e = by (test z) refl e (found_passes xs x)
    where
      by : (b : Bool) → test z ≡ b → cond b (Some z) (find test xs) ≡ Some x → (find test xs ≡ Some x → test x ≡ true) → test x ≡ true
      by true t e more = (let same : z ≡ x = cc in subst (λ u. test u ≡ true) same t)
      by false t e more = more e

-- one element of a list is the first that passes a test, and another is put in its place that passes exactly where it did
module _ {X : Type 0} (test : X → Bool) (xs : List X) (i : ℕ) (x y : X) (place : position test xs ≡ Some i) (is : x ≡ get_or xs i x) (same : test y ≡ test x) where
  -- the element is found
  pub there : option_and_then (slice_get xs) (position test xs) ≡ Some x
  there = first_is test xs ∙ found test xs i x place is

  -- the element passes
  pub passes_there : test x ≡ true
  passes_there = found_passes test xs x (found test xs i x place is)

  -- the other is found then
  pub put_there : option_and_then (slice_get (set xs i y)) (position test (set xs i y)) ≡ Some y
  put_there = first_is test (set xs i y) ∙ found_set test xs i y place (same ∙ passes_there)

  -- by a further test that both pass alike the other is found where the element was, and else what was found is
  pub found_so : (further : X → Bool) → further y ≡ further x
      → ((option_and_then (slice_get xs) (position further xs) ≡ Some x) × (option_and_then (slice_get (set xs i y)) (position further (set xs i y)) ≡ Some y))
      ⊎ (option_and_then (slice_get (set xs i y)) (position further (set xs i y)) ≡ option_and_then (slice_get xs) (position further xs))
  found_so further alike = elim (find_put further xs i x y (place_within test xs i place).1 is alike) [
    | inl both ↦ inl (first_is further xs ∙ both.0, first_is further (set xs i y) ∙ both.1)
    | inr kept ↦ inr (first_is further (set xs i y) ∙ kept ∙ sym (first_is further xs))
  ]
