-- What it costs to go from stop to stop of a list, apart from what stands there.
use Rattle.std.specs.Prelude.{ℕ, ◌+◌, List, [], ◌∷◌}
use Rattle.mix_base.specs.Events.{Event, skip, bind}

-- the cost to learn that the list ends; or the cost to reach its first stop, and those after it
pub data Costs : Type 0 where
  ends : (cost : ℕ) → Costs
  stop : (cost : ℕ) → (rest : Costs) → Costs

-- a list's costs after a further cost before its first stop
abbrev pub more : ℕ → Costs → Costs
more n (ends t) = ends (n + t)
more n (stop t c) = stop (n + t) c

-- one list after another: what it costs to leave the first is paid on the way to the second
abbrev pub followed : Costs → Costs → Costs
followed (ends t) d = more t d
followed (stop t c) d = stop t (followed c d)

-- the costs of events: each event costs one, and the bindings are the stops
abbrev pub costs_of : {B : Type 0} → List (Event B) → Costs
costs_of [] = ends 0
costs_of (skip ∷ es) = more 1 (costs_of es)
costs_of (bind b ∷ es) = stop 1 (costs_of es)

-- the cost of all of a list
abbrev pub total : Costs → ℕ
total (ends t) = t
total (stop t c) = t + total c

-- the costs of a list of which the first stop alone counts
abbrev pub first_only : Costs → Costs
first_only (ends t) = ends t
first_only (stop t c) = stop t (ends (total c))
