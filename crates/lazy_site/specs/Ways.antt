-- The way down from a cursor to where values are made.
use Rattle.std.specs.Prelude.{◌≡◌, ℕ, ◌<◌, ◌≤◌, suc, Some, length}
use Rattle.plan_core.specs.Valid.{Kind, kinds}
use Rattle.plan_core.specs.TolledRows.{tolled_value}
use Rattle.lazy_plan.specs.Bench.{BenchState, ops_of, size_of, IsCursor, binding_at}
use Rattle.lazy_binding.specs.declared.position.Position.{Position}
use Rattle.lazy_site.specs.Sizes.{size, extent}
use Rattle.lazy_site.specs.declared.ways.Way.{Way, Top, Below'}
use Rattle.lazy_site.specs.declared.ways.Ways.{Ways}

-- the value of variable v in the binding of operator n's cursor c is that in the binding of operator m's cursor d, and is of no more lists and trees there
pub record IsHeldAt (st : BenchState) (n : ℕ) (c : Position) (v m : ℕ) (d : Position) : Type 0 where
  pub within : m ≤ n
  pub cursor : IsCursor st m d
  pub value : tolled_value (binding_at st n c) v ≡ tolled_value (binding_at st m d) v
  pub kind : kinds (ops_of st) n v ≡ kinds (ops_of st) m v
  pub size : size (ops_of st) m v ≤ size (ops_of st) n v
  pub extent : extent (size_of st) (ops_of st) m v ≤ extent (size_of st) (ops_of st) n v

-- all variables that operator m binds have in the binding of operator n's cursor c the values that they have in that of operator m's cursor d
pub record IsBelow (st : BenchState) (n : ℕ) (c : Position) (m : ℕ) (d : Position) : Type 0 where
  pub within : m ≤ n
  pub cursor : IsCursor st m d
  pub held : (v : ℕ) (k : Kind) → kinds (ops_of st) m v ≡ Some k → IsHeldAt st n c v m d

-- the operator of the lowest cursor of a way
abbrev pub foot_op : Way → ℕ
foot_op (Top op at) = op
foot_op (Below' op at q above) = op

-- the lowest cursor of a way
abbrev pub foot_at : Way → Position
foot_at (Top op at) = at
foot_at (Below' op at q above) = at

-- a way leads from operator n's cursor c down to a cursor of an operator whose variables all have the same values in both bindings
abbrev pub IsWay : BenchState → ℕ → Position → Way → Type 0
IsWay st n c (Top op at) = (op ≡ n) × (at ≡ c)
IsWay st n c (Below' op at q above) = IsBelow st n c op at × IsWay st n c above

-- both of two ways are from operator n's cursor c
abbrev pub IsWays : BenchState → ℕ → Position → Ways → Type 0
IsWays st n c w = IsWay st n c w.last.value × IsWay st n c w.lowest.value

-- from whatever cursor the first way is, the second is from it too
abbrev pub KeepsWay : Way → Way → Type 0
KeepsWay old new = (st : BenchState) (n : ℕ) (c : Position) → IsWay st n c old → IsWay st n c new

-- from whatever cursor both of the first two ways are, both of the second two are from it too
abbrev pub KeepsWays : Ways → Ways → Type 0
KeepsWays old new = KeepsWay old.last.value new.last.value × KeepsWay old.lowest.value new.lowest.value

-- from whatever cursor the first way is, the second is from it too, and variable v has at its lowest cursor the value that it has in the binding of that cursor
abbrev pub GoesDown : BenchState → ℕ → Way → Way → Type 0
GoesDown st v old new = (n : ℕ) (c : Position) → IsCursor st n c → IsWay st n c old → IsWay st n c new × IsHeldAt st n c v (foot_op new) (foot_at new)

-- operator n binds variable v, and has a cursor c
pub record Has (st : BenchState) (v n : ℕ) (c : Position) : Type 0 where
  pub within : n < length (ops_of st)
  pub cursor : IsCursor st n c
  pub kind : (k : Kind) × (kinds (ops_of st) n v ≡ Some k)

-- a way is from a cursor of an operator that binds variable v
pub record LeadsUp (st : BenchState) (v : ℕ) (w : Way) : Type 0 where
  pub op : ℕ
  pub at : Position
  pub has : Has st v op at
  pub way : IsWay st op at w

-- two ways are from one cursor of an operator that binds variable v
pub record Leads (st : BenchState) (v : ℕ) (w : Ways) : Type 0 where
  pub op : ℕ
  pub at : Position
  pub has : Has st v op at
  pub ways : IsWays st op at w

-- how many cursors of a way lie below its uppermost
abbrev pub steps_up : Way → ℕ
steps_up (Top op at) = 0
steps_up (Below' op at q above) = suc (steps_up above)
