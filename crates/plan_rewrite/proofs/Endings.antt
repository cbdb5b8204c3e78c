-- Operators of which the last alone is a tupleDestroy.
use Rattle.std.proofs.Common.{◌≡◌, ℕ, Bool, true, List, [], ◌∷◌, ◌++◌, refl, ap}
use Rattle.std.specs.List.{AllByRecursion}
use Rattle.plan_core.specs.Plans.{Operator, source, get_descendants, join, over, tuple_destroy}
use Rattle.plan_core.specs.Valid.{EndsSingle}

-- an operator is no tupleDestroy
abbrev pub IsBelow : Operator → Type 0
IsBelow (source s out) = Unit {0}
IsBelow (get_descendants input start path out) = Unit {0}
IsBelow (join left right tests) = Unit {0}
IsBelow (over input op) = Unit {0}
IsBelow (tuple_destroy input element) = ⊥

-- operators that end with a tupleDestroy
pub record Ended (single : ℕ → Bool) (ops : List Operator) : Type 0 where
  pub prefix : List Operator
  pub input : ℕ
  pub element : ℕ
  pub is : ops ≡ prefix ++ tuple_destroy input element ∷ []
  pub below : AllByRecursion IsBelow prefix
  pub is_single : single input ≡ true

-- an operator that is no tupleDestroy, before operators that end with one, leaves them ending so
ended_more : (single : ℕ → Bool) (op : Operator) (ops : List Operator) → IsBelow op → Ended single ops → Ended single (op ∷ ops)
ended_more single op ops b e = record { prefix = op ∷ e.prefix; input = e.input; element = e.element; is = ap (λ (z : List Operator). op ∷ z) e.is; below = (b, e.below); is_single = e.is_single }

-- the operators of a valid plan end with a tupleDestroy
pub ended_of : (single : ℕ → Bool) (ops : List Operator) → EndsSingle single ops → Ended single ops
ended_of single [] h = absurd h
ended_of single (tuple_destroy input element ∷ []) h = record { prefix = []; input = input; element = element; is = refl; below = tt; is_single = h }
ended_of single (tuple_destroy input element ∷ op ∷ ops) h = absurd h
ended_of single (source s out ∷ ops) h = ended_more single (source s out) ops tt (ended_of single ops h)
ended_of single (get_descendants input start path out ∷ ops) h = ended_more single (get_descendants input start path out) ops tt (ended_of single ops h)
ended_of single (join left right tests ∷ ops) h = ended_more single (join left right tests) ops tt (ended_of single ops h)
ended_of single (over input op ∷ ops) h = ended_more single (over input op) ops tt (ended_of single ops h)
