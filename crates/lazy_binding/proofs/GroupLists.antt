-- Lists of the members of groups, of which one is changed.
use Rattle.std.proofs.Common.{◌≡◌, ◌<◌, ℕ, zero, suc, List, [], ◌∷◌, map, length, set, refl, sym, ap, arith}
use Rattle.std.specs.Prelude.{slice_index_or}

module _ {X Y : Type 0} (f : X → Y) (none : Y) where
  -- a mapped list keeps its length where one element is written
  pub set_length : (xs : List X) (n : ℕ) (v : X) → length (map f (set xs n v)) ≡ length (map f xs)
  set_length [] n v = refl
  set_length (x ∷ xs) zero v = refl
  set_length (x ∷ xs) (suc n) v = ap suc (set_length xs n v)

  -- a mapped list keeps the other elements where one is written
  pub set_others : (xs : List X) (n j : ℕ) (v : X) → (j ≡ n → ⊥) → slice_index_or (map f (set xs n v)) j none ≡ slice_index_or (map f xs) j none
  set_others [] n j v h = refl
  set_others (x ∷ xs) zero zero v h = absurd (h refl)
  set_others (x ∷ xs) zero (suc j) v h = refl
  set_others (x ∷ xs) (suc n) zero v h = refl
  set_others (x ∷ xs) (suc n) (suc j) v h = set_others xs n j v (λ e. h (ap suc e))

  -- a mapped list has the new element where one is written
  pub set_here : (xs : List X) (n : ℕ) (v : X) → n < length xs → slice_index_or (map f (set xs n v)) n none ≡ f v
  set_here [] n v l = absurd (omega (arith, l))
  set_here (x ∷ xs) zero v l = refl
  set_here (x ∷ xs) (suc n) v l = set_here xs n v (omega (arith, l))

  -- a mapped list stays the same where the new element maps to what the old one did
  pub set_same : (xs : List X) (n : ℕ) (v : X) → f v ≡ slice_index_or (map f xs) n none → map f (set xs n v) ≡ map f xs
  set_same [] n v e = refl
  set_same (x ∷ xs) zero v e = ap (λ (y : Y). y ∷ map f xs) e
  set_same (x ∷ xs) (suc n) v e = ap (λ (ys : List Y). f x ∷ ys) (set_same xs n v e)

  -- what stands at a place of a mapped list is what stands there in the list, mapped
  pub value_at : (xs : List X) (n : ℕ) (v : X) → n < length xs → v ≡ slice_index_or xs n v → slice_index_or (map f xs) n none ≡ f v
  value_at [] n v l e = absurd (omega (arith, l))
  value_at (x ∷ xs) zero v l e = sym (ap f e)
  value_at (x ∷ xs) (suc n) v l e = value_at xs n v (omega (arith, l)) e
