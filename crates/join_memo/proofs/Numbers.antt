-- The number of a label among known.
use Rattle.std.proofs.Common.{◌≡◌, ◌<◌, ◌≤◌, ℕ, zero, suc, Bool, true, false, List, [], ◌∷◌, ◌++◌, length, refl, ◌∙◌, sym, ap, subst, arith, position}
use Rattle.std.specs.Prelude.{nat_lt, not, slice_get, Some}
use Rattle.std.specs.List.{list_any, position_or_len}
use Rattle.std.specs.Str.{bytes_eq}
use Rattle.std.proofs.lemmas.Slice.Eq.{bytes_eq-Decides}
use Rattle.std.proofs.lemmas.Bool.Decides.{nat_tests}
use Rattle.indexmap.specs.IndexSet.{insert_key}
use Rattle.mix_base.proofs.Choices.{some_is}
use Rattle.join_memo.specs.Places.{IsKnown, IsNumber, IsPut}

-- a known label has one number more where one more label is known before it
known_after : (x : List ℕ) (ks : List (List ℕ)) (key : List ℕ) (i : ℕ) → IsKnown ks key i → IsKnown (x ∷ ks) key (suc i)
known_after x ks key i h = record { within = omega (arith, h.within); is = h.is }

-- the first place at which a label passes among the known is its number
pub number_here : (key : List ℕ) (ks : List (List ℕ)) → position_or_len (bytes_eq key) ks < length ks → IsKnown ks key (position_or_len (bytes_eq key) ks)
number_here key [] h = absurd (omega (arith, h))
number_here key (x ∷ ks) h = by_case (number_here key ks) (bytes_eq key x) refl h
  where
    by_case : (position_or_len (bytes_eq key) ks < length ks → IsKnown ks key (position_or_len (bytes_eq key) ks))
        → (b : Bool) → bytes_eq key x ≡ b → position_or_len (bytes_eq key) (x ∷ ks) < length (x ∷ ks)
        → IsKnown (x ∷ ks) key (position_or_len (bytes_eq key) (x ∷ ks))
    by_case more true e h = rw e (record { within = omega arith; is = (let d : key ≡ x = grind (arith, bytes_eq-Decides key x, e) in sym d) })
    by_case more false e h = rw e (subst (λ n. IsKnown (x ∷ ks) key n) (omega arith) (known_after x ks key (position_or_len (bytes_eq key) ks) (more (omega (arith, (rw e at h))))))

-- a label that passes nowhere among the known is none of them
pub number_nowhere : (key : List ℕ) (ks : List (List ℕ)) → length ks ≤ position_or_len (bytes_eq key) ks → (i : ℕ) → IsKnown ks key i → ⊥
number_nowhere key [] h i n = omega (arith, n.within)
number_nowhere key (x ∷ ks) h i n = by_case (number_nowhere key ks) (bytes_eq key x) refl h i n
  where
    by_case : (length ks ≤ position_or_len (bytes_eq key) ks → (i : ℕ) → IsKnown ks key i → ⊥)
        → (b : Bool) → bytes_eq key x ≡ b → length (x ∷ ks) ≤ position_or_len (bytes_eq key) (x ∷ ks) → (i : ℕ) → IsKnown (x ∷ ks) key i → ⊥
    by_case more true e h i n = omega (arith, (rw e at h))
    by_case more false e h zero n = (let d : key ≡ x = sym n.is in grind (arith, bytes_eq-Decides key x, e, d))
    by_case more false e h (suc i) n = more (omega (arith, (rw e at h))) i (record { within = omega (arith, n.within); is = n.is })

-- the place that a set of known labels finds of a label is its number; where it finds none, the label is none of them
pub number_is : (key : List ℕ) (ks : List (List ℕ)) → IsNumber ks key (position (bytes_eq key) ks)
number_is key ks = by_case (nat_lt (position_or_len (bytes_eq key) ks) (length ks)) refl
  where
    by_case : (b : Bool) → nat_lt (position_or_len (bytes_eq key) ks) (length ks) ≡ b → IsNumber ks key (position (bytes_eq key) ks)
    by_case true e = rw e (number_here key ks (grind (arith, nat_tests, e)))
    by_case false e = rw e (number_nowhere key ks (grind (arith, nat_tests, e)))

-- a label that is among them has a place
any_within : (key : List ℕ) (ks : List (List ℕ)) → list_any (bytes_eq key) ks ≡ true → position_or_len (bytes_eq key) ks < length ks
any_within key [] h = cc
any_within key (x ∷ ks) h = by_case (any_within key ks) (bytes_eq key x) refl h
  where
    by_case : (list_any (bytes_eq key) ks ≡ true → position_or_len (bytes_eq key) ks < length ks) → (b : Bool) → bytes_eq key x ≡ b
        → list_any (bytes_eq key) (x ∷ ks) ≡ true → position_or_len (bytes_eq key) (x ∷ ks) < length (x ∷ ks)
    by_case more true e h = rw e (omega arith)
    by_case more false e h = (let rest = more (rw e at h) in rw e (omega (arith, rest)))

-- a label that is not among the known has no place there
none_within : (key : List ℕ) (ks : List (List ℕ)) → list_any (bytes_eq key) ks ≡ false → length ks ≤ position_or_len (bytes_eq key) ks
none_within key [] h = omega arith
none_within key (x ∷ ks) h = by_case (none_within key ks) (bytes_eq key x) refl h
  where
    by_case : (list_any (bytes_eq key) ks ≡ false → length ks ≤ position_or_len (bytes_eq key) ks) → (b : Bool) → bytes_eq key x ≡ b
        → list_any (bytes_eq key) (x ∷ ks) ≡ false → length (x ∷ ks) ≤ position_or_len (bytes_eq key) (x ∷ ks)
    by_case more true e h = (let f : true ≡ false = (rw e at h) in cc)
    by_case more false e h = (let rest = more (rw e at h) in rw e (omega (arith, rest)))

-- what a set answers to a label that is put in, its number and whether it is new, is so of the known labels
pub put_is : (key : List ℕ) (ks after : List (List ℕ)) (i : ℕ) (new : Bool) → new ≡ not (list_any (bytes_eq key) ks) → i ≡ position_or_len (bytes_eq key) ks
    → after ≡ insert_key bytes_eq ks key → IsPut ks key i new after
put_is key ks after i new e f g = by_case (list_any (bytes_eq key) ks) refl
  where
    by_case : (b : Bool) → list_any (bytes_eq key) ks ≡ b → IsPut ks key i new after
    by_case true h =
        let known : IsKnown ks key i = subst (IsKnown ks key) (sym f) (number_here key ks (any_within key ks h)) in
        let same : after ≡ ks = g ∙ rw h refl in
        subst (λ b. IsPut ks key i b after) (sym (e ∙ ap not h)) (known, same)
    by_case false h =
        let none : (j : ℕ) → IsKnown ks key j → ⊥ = number_nowhere key ks (none_within key ks h) in
        let last : after ≡ ks ++ key ∷ [] = g ∙ rw h refl in
        subst (λ b. IsPut ks key i b after) (sym (e ∙ ap not h)) (none, last)

-- a label that stands at a number has it
pub known_at : (ks : List (List ℕ)) (key x : List ℕ) (i : ℕ) → slice_get ks i ≡ Some x → bytes_eq x key ≡ true → IsKnown ks key i
known_at [] key x i e same = cc
known_at (k ∷ ks) key x zero e same = record { within = omega arith; is = some_is k x e ∙ (let d : x ≡ key = grind (arith, bytes_eq-Decides x key, same) in d) }
known_at (k ∷ ks) key x (suc i) e same = known_after k ks key i (known_at ks key x i e same)
