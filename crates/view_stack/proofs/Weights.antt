-- The weights of parts: what is served later weighs less than half.
use Rattle.std.proofs.Common.{ℕ, zero, suc, ◌+◌, ◌-◌, ◌^◌, ◌<◌, ◌≤◌, arith}
use Rattle.view_stack.specs.Parts.{full, end}

-- a tree with more levels has no fewer nodes
full_rises : (m n : ℕ) → m ≤ n → full m ≤ full n
unfolding full
full_rises zero n h = omega arith
full_rises (suc m) zero h = absurd (omega (arith, h))
full_rises (suc m) (suc n) h = let r = full_rises m n (omega (arith, h)) in omega (arith, r)

-- a node and two trees with fewer levels have no more nodes than a tree with this many
pub full_holds : (m n : ℕ) → m < n → 1 + full m + full m ≤ full n
unfolding full
full_holds m zero h = absurd (omega (arith, h))
full_holds m (suc n) h = let r = full_rises m n (omega (arith, h)) in omega (arith, r)

-- the parts of a node that is served later have fewer levels than those of an earlier one
pub later_lower : (k n : ℕ) → k < n → n < end → end - suc n < end - suc k
later_lower k n h l = omega (arith, h, l)

-- the parts of each node have fewer levels than the whole
pub all_lower : (n : ℕ) → n < end → end - suc n < end
all_lower n l = omega (arith, l)

-- a number of 64 bits is below those that no node has
pub is_number : (n : ℕ) → n < 2 ^ 64 → n < end
unfolding end
is_number n h = h
