-- Keys that were seen, among the keys of a set.
use Rattle.std.proofs.Common.{◌≡◌, ◌<◌, ◌≤◌, ◌+◌, ℕ, zero, suc, Bool, true, false, ◌||◌, List, [], ◌∷◌, ◌++◌, Some, None, length, get_or, take, map, position, refl, ◌∙◌, sym, ap, arith}
use Rattle.std.specs.Prelude.{nat_lt, not, slice_get, slice_index_or, if◌then◌else◌}
use Rattle.std.proofs.lemmas.Bool.Decides.{nat_tests}
use Rattle.std.specs.List.{list_any, position_or_len, AllByRecursion, IsDistinct}
use Rattle.std.specs.Cmp.{IsEquivalence}
use Rattle.std.specs.Cmp.Lexicographic.{lists_equiv}
use Rattle.std.proofs.Math.Seq.{take-length}
use Rattle.std.proofs.lemmas.List.{map-append}
use Rattle.std.proofs.lemmas.Option.{slice_get-get_or}
use Rattle.indexmap.specs.IndexSet.{insert_key}
use Rattle.mix_base.proofs.Choices.{some_is}
use Rattle.smallvec.specs.SmallVec.{SmallVec}
use Rattle.lazy_binding.specs.declared.key.KeyPart.{KeyPart}
use Rattle.lazy_binding.specs.Keys.{same_parts, was_seen}
use Rattle.lazy_binding.specs.KeyLaws.{part_equivalence}
use Rattle.lazy_binding.proofs.FirstLists.{take_map}

-- whether two keys of a set have the same parts
abbrev same_key : SmallVec KeyPart → SmallVec KeyPart → Bool
same_key a b = same_parts a.items b.items

-- a number is less than another exactly where it is with one more on both sides
one_less : (m n : ℕ) → nat_lt m n ≡ nat_lt (1 + m) (suc n)
one_less m n = grind (arith, nat_tests)

module _ {X : Type 0} (p : X → Bool) where
  -- among the first few there is one that passes where the first such place is among them
  any_within : (xs : List X) (few : ℕ) → position_or_len p xs < length xs → list_any p (take few xs) ≡ nat_lt (position_or_len p xs) few
  any_within [] few h = absurd (omega (arith, h))
  any_within (x ∷ xs) zero h = grind (arith, nat_tests)
  any_within (x ∷ xs) (suc few) h = by_case (p x) refl (any_within xs few)
    where
      by_case : (b : Bool) → p x ≡ b → (position_or_len p xs < length xs → list_any p (take few xs) ≡ nat_lt (position_or_len p xs) few)
          → list_any p (take (suc few) (x ∷ xs)) ≡ nat_lt (position_or_len p (x ∷ xs)) (suc few)
      by_case true e more = rw e (grind (arith, nat_tests))
      by_case false e more = rw e (more (omega (arith, (rw e at h))) ∙ one_less (position_or_len p xs) few)

  -- where there is no such place there is none
  any_missing : (xs : List X) (few : ℕ) → length xs ≤ position_or_len p xs → list_any p (take few xs) ≡ false
  any_missing [] zero h = refl
  any_missing [] (suc few) h = refl
  any_missing (x ∷ xs) zero h = refl
  any_missing (x ∷ xs) (suc few) h = by_case (p x) refl (any_missing xs few)
    where
      by_case : (b : Bool) → p x ≡ b → (length xs ≤ position_or_len p xs → list_any p (take few xs) ≡ false) → list_any p (take (suc few) (x ∷ xs)) ≡ false
      by_case true e more = absurd (omega (arith, (rw e at h)))
      by_case false e more = rw e (more (omega (arith, (rw e at h))))

  -- where the first element that passes a test is at place i, one of the first few does exactly where i is less than few
  any_some : (xs : List X) (few i : ℕ) → position p xs ≡ Some i → list_any p (take few xs) ≡ nat_lt i few
  any_some xs few i h = by_case (nat_lt (position_or_len p xs) (length xs)) refl
    where
      by_case : (b : Bool) → nat_lt (position_or_len p xs) (length xs) ≡ b → list_any p (take few xs) ≡ nat_lt i few
      by_case true e = (let z : position_or_len p xs ≡ i = (let y = rw e at h in cc) in any_within xs few (grind (arith, nat_tests, e)) ∙ ap (λ (m : ℕ). nat_lt m few) z)
      by_case false e = (let y = rw e at h in cc)

  -- where no element of a list passes a test, none of the first few does
  any_none : (xs : List X) (few : ℕ) → position p xs ≡ None → list_any p (take few xs) ≡ false
  any_none xs few h = by_case (nat_lt (position_or_len p xs) (length xs)) refl
    where
      by_case : (b : Bool) → nat_lt (position_or_len p xs) (length xs) ≡ b → list_any p (take few xs) ≡ false
      by_case true e = (let y = rw e at h in cc)
      by_case false e = any_missing xs few (grind (arith, nat_tests, e))

-- whether a key was seen among the first few is whether the set has it among these
seen_is : (key : List KeyPart) (ks : List (SmallVec KeyPart)) → was_seen key (map (λ k. k.items) ks) ≡ list_any (λ k. same_parts key k.items) ks
seen_is key [] = refl
seen_is key (k ∷ ks) = ap (λ (b : Bool). b || was_seen key (map (λ j. j.items) ks)) ((lists_equiv part_equivalence).symm k.items key) ∙ ap (λ (b : Bool). same_parts key k.items || b) (seen_is key ks)

module _ (key : List KeyPart) (ks : List (SmallVec KeyPart)) (few : ℕ) where
  -- whether a key was seen among the first few is whether one of these has its parts
  few_is : was_seen key (take few (map (λ k. k.items) ks)) ≡ list_any (λ k. same_parts key k.items) (take few ks)
  few_is = ap (was_seen key) (take_map (λ k. k.items) ks few) ∙ seen_is key (take few ks)

  -- a key that the set has at this place was seen among the first few where the place is one of theirs
  pub seen_at_place : (i : ℕ) → position (λ k. same_parts key k.items) ks ≡ Some i → nat_lt i few ≡ was_seen key (take few (map (λ k. k.items) ks))
  seen_at_place i h = sym (few_is ∙ any_some (λ k. same_parts key k.items) ks few i h)

  -- a key that the set has not was not seen among the first few
  pub seen_nowhere : position (λ k. same_parts key k.items) ks ≡ None → false ≡ was_seen key (take few (map (λ k. k.items) ks))
  seen_nowhere h = sym (few_is ∙ any_none (λ k. same_parts key k.items) ks few h)

-- a key that was not seen goes last, and any other changes nothing
pub put_last : (key : SmallVec KeyPart) (ks : List (SmallVec KeyPart))
    → map (λ k. k.items) (insert_key same_key ks key) ≡ (if not (was_seen key.items (map (λ k. k.items) ks)) then map (λ k. k.items) ks ++ key.items ∷ [] else map (λ k. k.items) ks)
put_last key ks = by_case (list_any (same_key key) ks) refl
  where
    by_case : (b : Bool) → list_any (same_key key) ks ≡ b
        → map (λ k. k.items) (insert_key same_key ks key) ≡ (if not (was_seen key.items (map (λ k. k.items) ks)) then map (λ k. k.items) ks ++ key.items ∷ [] else map (λ k. k.items) ks)
    by_case true e = rw (seen_is key.items ks ∙ e, e) refl
    by_case false e = rw (seen_is key.items ks ∙ e, e) (map-append (λ k. k.items) ks (key ∷ []))

-- a key is new to the set exactly where it was not seen among the set's keys
pub is_new : (key : SmallVec KeyPart) (ks : List (SmallVec KeyPart)) → not (list_any (same_key key) ks) ≡ not (was_seen key.items (map (λ k. k.items) ks))
is_new key ks = ap not (sym (seen_is key.items ks))

-- a key that was seen among all keys was seen
pub seen_in_all : (key : List KeyPart) (xs : List (List KeyPart)) (n : ℕ) → n ≡ length xs → was_seen key (take n xs) ≡ true → was_seen key xs ≡ true
seen_in_all key xs n e h = sym (ap (was_seen key) (ap (λ (m : ℕ). take m xs) e ∙ take-length xs)) ∙ h

-- what is read at an index of a list is what stands there in an equal list
pub there_in : (xs ks : List (SmallVec KeyPart)) (i : ℕ) (k : SmallVec KeyPart) → xs ≡ ks → i < length xs → k ≡ get_or xs i k → slice_get ks i ≡ Some k
there_in xs ks i k e l is = ap (λ (z : List (SmallVec KeyPart)). slice_get z i) (sym e) ∙ slice_get-get_or xs i k l ∙ ap Some (sym is)

-- a disjunction whose second part is true is true
or_true : (b : Bool) → (b || true) ≡ true
or_true true = refl
or_true false = refl

-- a key, and one of the set at a place that has the same parts
module _ (key : List KeyPart) (k : SmallVec KeyPart) (same : same_parts k.items key ≡ true) where
  -- having the same parts is an equivalence of keys
  equal : IsEquivalence same_parts
  equal = lists_equiv part_equivalence

  -- an element that differs from all of these has no key that one of them has
  apart_from : (xs : List (SmallVec KeyPart)) (x : SmallVec KeyPart) (i : ℕ) → AllByRecursion (λ y. same_key x y ≡ false) xs → slice_get xs i ≡ Some k → same_parts key x.items ≡ false
  apart_from [] x i d e = cc
  apart_from (y ∷ xs) x zero d e =
      sym (equal.congr k.items key x.items same) ∙ equal.symm k.items x.items ∙ ap (λ (z : SmallVec KeyPart). same_parts x.items z.items) (sym (some_is y k e)) ∙ d.0
  apart_from (y ∷ xs) x (suc i) d e = apart_from xs x i d.1 e

  -- none of the keys before a place of the set has the parts of the key there
  none_before : (ks : List (SmallVec KeyPart)) (i : ℕ) → IsDistinct same_key ks → slice_get ks i ≡ Some k → list_any (λ j. same_parts key j.items) (take i ks) ≡ false
  unfolding IsDistinct
  none_before [] i d e = cc
  none_before (x ∷ xs) zero d e = refl
  none_before (x ∷ xs) (suc i) d e = ap (λ (b : Bool). b || list_any (λ j. same_parts key j.items) (take i xs)) (apart_from xs x i d.0 e) ∙ none_before xs i d.1 e

  -- one of the keys up to a place of the set has the parts of the key there
  one_there : (ks : List (SmallVec KeyPart)) (i : ℕ) → slice_get ks i ≡ Some k → list_any (λ j. same_parts key j.items) (take (suc i) ks) ≡ true
  one_there [] i e = cc
  one_there (x ∷ xs) zero e =
      ap (λ (z : SmallVec KeyPart). same_parts key z.items || false) (some_is x k e) ∙ ap (λ (b : Bool). b || false) (equal.symm key k.items ∙ same)
  one_there (x ∷ xs) (suc i) e = ap (λ (b : Bool). same_parts key x.items || b) (one_there xs i e) ∙ or_true (same_parts key x.items)

  module _ (ks : List (SmallVec KeyPart)) (i : ℕ) (there : slice_get ks i ≡ Some k) where
    -- a key at a place is none of those before it
    pub unseen_before : IsDistinct same_key ks → was_seen key (take i (map (λ j. j.items) ks)) ≡ false
    unseen_before d = few_is key ks i ∙ none_before ks i d there

    -- a key at a place is one of those up to it
    pub seen_up_to : was_seen key (take (suc i) (map (λ j. j.items) ks)) ≡ true
    seen_up_to = few_is key ks (suc i) ∙ one_there ks i there

-- at each place of the keys that were seen stands a key of the set, by its parts
key_at : (ks : List (SmallVec KeyPart)) (j : ℕ) → j < length (map (λ k. k.items) ks) → (k : SmallVec KeyPart) × (slice_get ks j ≡ Some k) × (slice_index_or (map (λ k. k.items) ks) j [] ≡ k.items)
key_at [] j l = absurd (omega (arith, l))
key_at (k ∷ ks) zero l = (k, refl, refl)
key_at (k ∷ ks) (suc j) l = key_at ks j (omega (arith, l))

-- a key stands at one place alone
pub seen_alone : (key : List KeyPart) (ks : List (SmallVec KeyPart)) → IsDistinct same_key ks → (j : ℕ) → j < length (map (λ k. k.items) ks)
    → same_parts (slice_index_or (map (λ k. k.items) ks) j []) key ≡ true → was_seen key (take j (map (λ k. k.items) ks)) ≡ false
seen_alone key ks d j l same = (let k = key_at ks j l in unseen_before key k.0 (ap (λ (z : List KeyPart). same_parts z key) (sym k.2) ∙ same) ks j k.1 d)
