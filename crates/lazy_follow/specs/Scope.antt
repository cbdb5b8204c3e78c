-- What one operator binds as another does.
use Rattle.std.specs.Prelude.{◌≡◌, ℕ, List, Some}
use Rattle.plan_core.specs.Plans.{Operator}
use Rattle.plan_core.specs.Valid.{Kind, kinds}

-- what operator k binds, operator n binds to values of the same kinds
abbrev pub InScope : List Operator → ℕ → ℕ → Type 0
InScope ops n k = (v : ℕ) (kind : Kind) → kinds ops k v ≡ Some kind → kinds ops n v ≡ Some kind
