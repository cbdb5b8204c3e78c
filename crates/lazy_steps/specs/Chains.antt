-- Operators one over another that pass on each binding of their inputs.
use Rattle.std.specs.Prelude.{◌≡◌, ℕ, zero, suc, List}
use Rattle.plan_core.specs.Plans.{Operator}
use Rattle.lazy_binding.specs.declared.position.Position.{Position, Pass'}
use Rattle.lazy_steps.specs.Steps.{PassesAt}

-- the position of the input in a position of an operator that passes on each binding; before all events the same
abbrev pub part_below : Position → Position
part_below (Pass' q c) = c
part_below c = c

-- operator n passes on the bindings of no input as they are: it drops some, orders them, or makes others
abbrev pub PassesNone : List Operator → ℕ → Type 0
PassesNone ops n = (i : ℕ) → PassesAt ops n i → ⊥

-- k operators that pass on each binding stand one over another, the uppermost is n and the input of the lowest is m; position d of m is in position c of n
abbrev pub Descends : List Operator → ℕ → Position → ℕ → ℕ → Position → Type 0
Descends ops n c zero m d = (m ≡ n) × (d ≡ c)
Descends ops n c (suc k) m d = (i : ℕ) × PassesAt ops n i × Descends ops i (part_below c) k m d

-- position y is position x, passed on by k operators one over another
abbrev pub IsLifted : ℕ → Position → Position → Type 0
IsLifted zero x y = y ≡ x
IsLifted (suc k) x y = (z : Position) × (q : _) × IsLifted k x z × (y ≡ Pass' q z)
