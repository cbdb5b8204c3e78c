-- At which place a key stands among those that were seen, and what stands at a place.
use Rattle.std.proofs.Common.{◌≡◌, ◌<◌, ◌≤◌, ℕ, zero, suc, Bool, true, false, ◌||◌, List, [], ◌∷◌, Some, None, length, map, take, refl, ◌∙◌, sym, ap, arith}
use Rattle.std.specs.Prelude.{nat_lt, slice_index_or}
use Rattle.std.specs.List.{AllByRecursion, last_or}
use Rattle.std.proofs.lemmas.Bool.Decides.{nat_tests}
use Rattle.lazy_binding.specs.declared.key.KeyPart.{KeyPart}
use Rattle.lazy_binding.specs.Keys.{same_parts, was_seen}

-- where a choice of two fails, both fail
neither : (a b : Bool) → (a || b) ≡ false → (a ≡ false) × (b ≡ false)
neither true b h = cc
neither false b h = (refl, h)

-- a choice of two holds where the second does
either : (a b : Bool) → b ≡ true → (a || b) ≡ true
either true b h = refl
either false b h = h

-- a number that is lower than another tests as lower
pub below_is : (p q : ℕ) → p < q → nat_lt p q ≡ true
below_is p q l = grind (arith, nat_tests, l)

module _ (key : List KeyPart) where
  -- a key that stands at a place was seen up to it
  seen_here : (xs : List (List KeyPart)) (j : ℕ) → j < length xs → same_parts (slice_index_or xs j []) key ≡ true → was_seen key (take (suc j) xs) ≡ true
  seen_here [] j l h = absurd (omega (arith, l))
  seen_here (x ∷ xs) zero l h = ap (λ (b : Bool). b || was_seen key (take zero xs)) h
  seen_here (x ∷ xs) (suc j) l h = either (same_parts x key) (was_seen key (take (suc j) xs)) (seen_here xs j (omega (arith, l)) h)

  -- a key that was seen up to a place, and not before it, stands there
  there_first : (xs : List (List KeyPart)) (j : ℕ) → j < length xs → was_seen key (take j xs) ≡ false → was_seen key (take (suc j) xs) ≡ true → same_parts (slice_index_or xs j []) key ≡ true
  there_first [] j l h k = absurd (omega (arith, l))
  there_first (x ∷ xs) zero l h k = last (same_parts x key) k
    where
      last : (b : Bool) → (b || false) ≡ true → b ≡ true
      last true e = refl
      last false e = e
  there_first (x ∷ xs) (suc j) l h k =
      let n = neither (same_parts x key) (was_seen key (take j xs)) h in
      there_first xs j (omega (arith, l)) n.1 (sym (ap (λ (b : Bool). b || was_seen key (take (suc j) xs)) n.0) ∙ k)

  -- a key that was not seen stands at no place
  pub nowhere : (xs : List (List KeyPart)) (j : ℕ) → j < length xs → was_seen key xs ≡ false → same_parts (slice_index_or xs j []) key ≡ false
  nowhere [] j l h = absurd (omega (arith, l))
  nowhere (x ∷ xs) zero l h = (neither (same_parts x key) (was_seen key xs) h).0
  nowhere (x ∷ xs) (suc j) l h = nowhere xs j (omega (arith, l)) (neither (same_parts x key) (was_seen key xs) h).1

  module _ (xs : List (List KeyPart)) (m : ℕ) (within : m < length xs) (known : (few : ℕ) → nat_lt m few ≡ was_seen key (take few xs)) where
    -- a key of a number stands at its place
    pub stands_there : same_parts (slice_index_or xs m []) key ≡ true
    stands_there = there_first xs m within (sym (known m) ∙ not_below m) (sym (known (suc m)) ∙ below m)
      where
        not_below : (k : ℕ) → nat_lt k k ≡ false
        not_below k = grind (arith, nat_tests)

        below : (k : ℕ) → nat_lt k (suc k) ≡ true
        below k = grind (arith, nat_tests)

    -- a key that stands at a place stands nowhere else
    pub stands_alone : ((j : ℕ) → j < length xs → same_parts (slice_index_or xs j []) key ≡ true → was_seen key (take j xs) ≡ false) → (j : ℕ) → j < length xs → (j ≡ m → ⊥)
        → same_parts (slice_index_or xs j []) key ≡ false
    stands_alone alone j l ne = by_case (same_parts (slice_index_or xs j []) key) refl
      where
        at : (k : ℕ) → nat_lt k j ≡ false → nat_lt k (suc j) ≡ true → j ≡ k
        at k e f = grind (arith, nat_tests, e, f)

        by_case : (b : Bool) → same_parts (slice_index_or xs j []) key ≡ b → same_parts (slice_index_or xs j []) key ≡ false
        by_case false e = e
        by_case true e = absurd (ne (at m (known j ∙ alone j l e) (known (suc j) ∙ seen_here xs j l e)))

-- the last of the first m + 1 elements, mapped, is the one at index m, mapped
pub last_taken : {X Y : Type 0} (f : X → Y) (xs : List X) (m : ℕ) (d : X) → suc m ≤ length xs → last_or None (map f (take (suc m) xs)) ≡ Some (f (slice_index_or xs m d))
last_taken f [] m d l = absurd (omega (arith, l))
last_taken f (x ∷ xs) zero d l = refl
last_taken f (x ∷ []) (suc m) d l = absurd (omega (arith, l))
last_taken f (x ∷ y ∷ xs) (suc m) d l = last_taken f (y ∷ xs) m d (omega (arith, l))

-- a property of all elements of a list is one of that at each index
pub each_one : {X : Type 0} (P : X → Type 0) (xs : List X) (m : ℕ) (d : X) → m < length xs → AllByRecursion P xs → P (slice_index_or xs m d)
each_one P [] m d l h = absurd (omega (arith, l))
each_one P (x ∷ xs) zero d l h = h.0
each_one P (x ∷ xs) (suc m) d l h = each_one P xs m d (omega (arith, l)) h.1
