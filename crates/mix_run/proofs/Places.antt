-- Places of views among the views of a catalog, and tests of numbers.
use Rattle.std.proofs.Common.{◌≡◌, ◌<◌, ◌≤◌, ℕ, zero, suc, true, false, nat_lt, List, [], ◌∷◌, Option, None, refl, arith, get_or}
use Rattle.std.proofs.lemmas.Bool.Decides.{nat_tests}
use Rattle.plan_core.specs.declared.plan.Plan.{Plan}
use Rattle.mix_place.specs.Views.{lower_at, lower_of, view_ops}

-- a test of numbers that is passed
pub less_is : (s n : ℕ) → s < n → nat_lt s n ≡ true
less_is s n h = grind (arith, nat_tests)

-- a test of numbers that is not passed
pub more_is : (s n : ℕ) → n ≤ s → nat_lt s n ≡ false
more_is s n h = grind (arith, nat_tests)

-- the operators of a plan, by its place
pub ops_at : (ps : List (Option Plan)) (i : ℕ) → lower_at (lower_of ps) i ≡ view_ops (get_or ps i None)
ops_at [] zero = refl
ops_at [] (suc i) = refl
ops_at (p ∷ ps) zero = refl
ops_at (p ∷ ps) (suc i) = ops_at ps i
