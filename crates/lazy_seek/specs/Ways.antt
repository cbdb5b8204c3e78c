-- The operators on the way of evidence, as the code has them.
use Rattle.std.specs.Prelude.{◌≡◌, ℕ, Bool, false, List, [], ◌∷◌, slice_index_or}
use Rattle.plan_core.specs.Plans.{Operator}
use Rattle.plan_evidence.specs.Evidence.{is_on_way}
use Rattle.lazy_seek.specs.declared.ways.WayInputs.{WayInputs}
use Rattle.lazy_seek.specs.declared.ways.WayInputs.TheVariants.{None as no_inputs, One, Two}

-- the inputs on the way as a list
abbrev pub way_inputs_of : WayInputs → List ℕ
way_inputs_of no_inputs = []
way_inputs_of (One i) = i ∷ []
way_inputs_of (Two i j) = i ∷ j ∷ []

-- the list tells of each operator whether it is on the way of operator n; those that it doesn't reach are not
abbrev pub IsWay : List Operator → ℕ → List Bool → Type 0
IsWay ops n way = (i : ℕ) → slice_index_or way i false ≡ is_on_way ops n i
