-- Fronts of the operators so far, kept for the operators that come.
use Rattle.std.specs.Prelude.{◌≡◌, ◌<◌, ◌≤◌, ℕ, Bool, true, false, cond, List, [], ◌∷◌, length, slice_set}
use Rattle.std.specs.List.{AllByRecursion}
use Rattle.mix_base.specs.Ascents.{Among}
use Rattle.plan_core.specs.ByNumber.{op_at}
use Rattle.plan_core.specs.Fronts.{Front, no_front, shape_front, front, front_at}
use Rattle.plan_core.specs.Plans.{Operator}
use Rattle.plan_core.specs.Shapes.{Shape, one_source, visits_below, pairs_up, passes_on, no_events}
use Rattle.plan_core.specs.Trees.{IsTree}
use Rattle.plan_core.specs.Valid.{inputs_of}

-- fronts, each by the number of its operator, and whether each moves on to the operator that has it as an input
pub record Fronts : Type 0 where
  pub moving : Bool
  pub kept : List Front

-- the front that is kept by a number; elsewhere that of no bindings
abbrev pub front_in : Fronts → ℕ → Front
front_in f n = front_at f.kept n

-- the fronts after those of some numbers moved on, if they do
abbrev pub without : Fronts → List ℕ → Fronts
without f [] = f
without f (i ∷ is) = without (record { moving = f.moving; kept = cond f.moving (slice_set f.kept i (no_front true)) f.kept }) is

-- the front of a shape that has one input, from that one's front; of any other, that of no bindings
abbrev pub over_front : Shape → Front → Front
over_front (one_source s out) f = no_front true
over_front (visits_below input start path out) f = shape_front (visits_below input start path out) (λ i. f)
over_front (pairs_up left right tests) f = no_front true
over_front (passes_on input stage) f = shape_front (passes_on input stage) (λ i. f)
over_front (no_events input made) f = no_front true

-- the fronts of the first n operators of a plan: all of them where they don't move on; where they do, those that an operator after them is still to have
pub record AreKept (ops : List Operator) (n : ℕ) (f : Fronts) : Type 0 where
  pub count : length f.kept ≡ n
  pub tree : f.moving ≡ true → IsTree ops
  pub staying : f.moving ≡ false → (i : ℕ) → i < n → front_in f i ≡ front ops i
  pub waiting : (i j : ℕ) → i < n → n ≤ j → j < length ops → Among i (inputs_of (op_at ops j)) → front_in f i ≡ front ops i

-- the fronts of an operator's inputs are those of a plan
abbrev pub HasInputs : List Operator → Fronts → Operator → Type 0
HasInputs ops f op = AllByRecursion (λ i. front_in f i ≡ front ops i) (inputs_of op)
