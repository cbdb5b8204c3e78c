-- Numbers within bounds.
use Rattle.std.proofs.Common.{◌≡◌, ℕ, suc, ◌+◌, ◌≤◌, ◌^◌, true, false, cond, arith, refl}
use Rattle.std.specs.Prelude.{nat_le, Bool, Option, Some, None, not, ◌&&◌}
use Rattle.browse_profile.specs.Bounds.{Within, larger, capped, sum, less_one, only_if}

-- less is within the same bound
pub within_less : (x : Option ℕ) (m n : ℕ) → m ≤ n → Within n x → Within m x
within_less None m n h w = tt
within_less (Some k) m n h w = omega (arith, h, w)

-- what is within the first bound is within the greater of two bounds
pub within_left : (x y : Option ℕ) (n : ℕ) → Within n x → Within n (larger x y)
within_left None y n w = tt
within_left (Some a) None n w = tt
within_left (Some a) (Some b) n w = omega (arith, w)

-- what is within the second is within the greater of two bounds
pub within_right : (x y : Option ℕ) (n : ℕ) → Within n y → Within n (larger x y)
within_right None y n w = tt
within_right (Some a) None n w = tt
within_right (Some a) (Some b) n w = omega (arith, w)

-- a capped number bounds what it bounded
pub within_capped : (k n : ℕ) → n ≤ k → Within n (capped k)
within_capped k n h = elim (nat_le k (2 ^ 32)) as (λ w. Within n (cond w (Some k) None)) [ true ↦ h | false ↦ tt ]

-- the sum of numbers within two bounds is within the bounds' sum
pub within_sum : (x y : Option ℕ) (m n : ℕ) → Within m x → Within n y → Within (m + n) (sum x y)
within_sum None y m n v w = tt
within_sum (Some a) None m n v w = tt
within_sum (Some a) (Some b) m n v w = within_capped (a + b) (m + n) (omega (arith, v, w))

-- a number one more than which is within a bound is within one less than the bound
pub within_less_one : (x : Option ℕ) (n : ℕ) → Within (suc n) x → Within n (less_one x)
within_less_one None n w = tt
within_less_one (Some a) n w = omega (arith, w)

-- a number within a bound is within the bound of a case that can be
pub within_case : (b : Bool) (x : Option ℕ) (n : ℕ) → b ≡ true → Within n x → Within n (only_if b x)
within_case true x n h w = w
within_case false x n h w = cc

-- two truth values that are true are true together
pub both_true : (a b : Bool) → a ≡ true → b ≡ true → (a && b) ≡ true
both_true true b h k = k
both_true false b h k = h

-- what is false is not true
pub not_false : (a : Bool) → a ≡ false → not a ≡ true
not_false true h = cc
not_false false h = refl
