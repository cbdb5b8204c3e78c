-- What is read off an operator.
use Rattle.std.specs.Prelude.{ℕ, Bool, true, false, ◌&&◌, List, [], ◌∷◌}
use Rattle.plan_core.specs.Plans.{Operator, source, get_descendants, join, over, tuple_destroy}
use Rattle.plan_read.specs.declared.ops.Inputs.{Inputs}
use Rattle.plan_read.specs.declared.ops.Inputs.TheVariants.{NoInput, OneInput, TwoInputs}

-- inputs as a list
abbrev pub inputs_in : Inputs → List ℕ
inputs_in NoInput = []
inputs_in (OneInput i) = i ∷ []
inputs_in (TwoInputs i j) = i ∷ j ∷ []

-- an operator is a tupleDestroy
abbrev pub is_destroy : Operator → Bool
is_destroy (source s out) = false
is_destroy (get_descendants input start path out) = false
is_destroy (join left right tests) = false
is_destroy (over input op) = false
is_destroy (tuple_destroy input element) = true

-- a list of operators is empty
abbrev pub are_none : List Operator → Bool
are_none [] = true
are_none (op ∷ ops) = false

-- the last operator, and it alone, is a tupleDestroy, and of its input this holds
abbrev pub ends_by : (ℕ → Bool) → List Operator → Bool
ends_by single [] = false
ends_by single (source s out ∷ ops) = ends_by single ops
ends_by single (get_descendants input start path out ∷ ops) = ends_by single ops
ends_by single (join left right tests ∷ ops) = ends_by single ops
ends_by single (over input op ∷ ops) = ends_by single ops
ends_by single (tuple_destroy input element ∷ ops) = are_none ops && single input
