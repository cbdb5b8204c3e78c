-- Sources are found at their own places.
use Rattle.std.proofs.Common.{◌≡◌, ◌⊎◌, inl, inr, ◌<◌, ◌≤◌, ◌+◌, ◌∙◌, ℕ, zero, suc, Bool, true, false, cond, List, [], ◌∷◌, ◌++◌, Some, None, refl, sym, ap, subst, arith, length, position, slice_get, nat_lt, eqb}
use Rattle.std.proofs.lemmas.Bool.Decides.{nat_tests}
use Rattle.std.proofs.lemmas.List.{length-append}
use Rattle.std.proofs.lemmas.List.Sums.{prefix_len-le-length}
use Rattle.std.proofs.lemmas.List.Folds.{position_or_len_push}
use Rattle.std.proofs.lemmas.Slice.Eq.{bytes_eq-Decides}
use Rattle.std.specs.List.{position_or_len}
use Rattle.std.specs.Str.{bytes_eq}
use Rattle.mix_base.proofs.Choices.{some_is, none_some}
use Rattle.mix_tree.specs.Names.{IsName}
use Rattle.mix_catalog.specs.declared.source.SourceSpec.{SourceSpec}
use Rattle.mix_catalog.specs.Sources.{source_named, AreNumbered}

-- a member of a list with one more after it is one of the list, or the last
slice_get-push : {X : Type 0} (xs : List X) (y t : X) (i : ℕ) → slice_get (xs ++ y ∷ []) i ≡ Some t → (slice_get xs i ≡ Some t) ⊎ ((i ≡ length xs) × (y ≡ t))
slice_get-push [] y t zero e = inr (refl, some_is y t e)
slice_get-push [] y t (suc i) e = none_some t e
slice_get-push (x ∷ xs) y t zero e = inl e
slice_get-push (x ∷ xs) y t (suc i) e = after (slice_get-push xs y t i e)
  where
    after : (slice_get xs i ≡ Some t) ⊎ ((i ≡ length xs) × (y ≡ t)) → (slice_get xs i ≡ Some t) ⊎ ((suc i ≡ length (x ∷ xs)) × (y ≡ t))
    after (inl h) = inl h
    after (inr (h, same)) = inr (omega arith, same)

-- the first place that passes, where it lies within the list, is found
at_first : {X : Type 0} (p : X → Bool) (xs : List X) (i : ℕ) → position_or_len p xs ≡ i → i < length xs → position p xs ≡ Some i
at_first p xs i e inside = let found : nat_lt (position_or_len p xs) (length xs) ≡ true = grind (arith, nat_tests) in rw found (ap Some e)

-- the first place that passes stays so in a longer list
stays_first : {X : Type 0} (p : X → Bool) (xs : List X) (y : X) (i : ℕ) → position p xs ≡ Some i → position p (xs ++ y ∷ []) ≡ Some i
stays_first p xs y i e = by_case (nat_lt (position_or_len p xs) (length xs)) refl e
  where
    by_case : (t : Bool) → nat_lt (position_or_len p xs) (length xs) ≡ t → cond t (Some (position_or_len p xs)) None ≡ Some i → position p (xs ++ y ∷ []) ≡ Some i
    by_case false h f = none_some i f
    by_case true h f =
        let inside : position_or_len p xs < length xs = grind (arith, nat_tests) in
        let other : eqb (position_or_len p xs) (length xs) ≡ false = grind (arith, nat_tests) in
        let same : position_or_len p (xs ++ y ∷ []) ≡ position_or_len p xs = position_or_len_push p xs y ∙ ap (λ b. cond b (length xs + cond (p y) 0 1) (position_or_len p xs)) other in
        at_first p (xs ++ y ∷ []) i (same ∙ some_is (position_or_len p xs) i f) (let here = some_is (position_or_len p xs) i f in omega (arith, here, length-append xs (y ∷ [])))

-- where none passes, the next member is the first that does
next_first : {X : Type 0} (p : X → Bool) (xs : List X) (y : X) → position p xs ≡ None → p y ≡ true → position p (xs ++ y ∷ []) ≡ Some (length xs)
next_first p xs y e passes = by_case (nat_lt (position_or_len p xs) (length xs)) refl e
  where
    by_case : (t : Bool) → nat_lt (position_or_len p xs) (length xs) ≡ t → cond t (Some (position_or_len p xs)) None ≡ None → position p (xs ++ y ∷ []) ≡ Some (length xs)
    by_case true h f = none_some (position_or_len p xs) (sym f)
    by_case false h f =
        let most : position_or_len p xs ≤ length xs = prefix_len-le-length _ xs in
        let all : eqb (position_or_len p xs) (length xs) ≡ true = grind (arith, nat_tests) in
        let same : position_or_len p (xs ++ y ∷ []) ≡ length xs + 0 =
        position_or_len_push p xs y ∙ ap (λ b. cond b (length xs + cond (p y) 0 1) (position_or_len p xs)) all ∙ ap (λ b. length xs + cond b 0 1) passes in
        at_first p (xs ++ y ∷ []) (length xs) (omega (arith, same)) (omega (arith, length-append xs (y ∷ [])))

-- a source of a new name after others
pub AreNumbered-push : (sources : List SourceSpec) (s : SourceSpec) → AreNumbered sources → IsName s.name → source_named sources s.name ≡ None → AreNumbered (sources ++ s ∷ [])
AreNumbered-push sources s numbered named none i t at = by_case (slice_get-push sources s t i at)
  where
    same_name : bytes_eq s.name s.name ≡ true
    same_name = (bytes_eq-Decides s.name s.name).1 refl

    by_case : (slice_get sources i ≡ Some t) ⊎ ((i ≡ length sources) × (s ≡ t)) → IsName t.name × (source_named (sources ++ s ∷ []) t.name ≡ Some i)
    by_case (inl h) = let own = numbered i t h in (own.0, stays_first (λ u. bytes_eq t.name u.name) sources s i own.1)
    by_case (inr (h, same)) =
        let last : source_named (sources ++ s ∷ []) s.name ≡ Some i = next_first (λ u. bytes_eq s.name u.name) sources s none same_name ∙ ap Some (sym h) in
        subst (λ (u : SourceSpec). IsName u.name × (source_named (sources ++ s ∷ []) u.name ≡ Some i)) same (named, last)
