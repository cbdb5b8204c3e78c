-- Evidence as it is sought, operator by operator.
use Rattle.std.specs.Prelude.{◌≡◌, ◌<◌, ℕ, suc, Bool, true, cond, IsTrue, List, Some, MatchBool, length}
use Rattle.mix_tree.specs.Nodes.{Node}
use Rattle.plan_core.specs.Plans.{Operator}
use Rattle.plan_core.specs.Shapes.{Shape, one_source, visits_below, pairs_up, passes_on, no_events, shape_at}
use Rattle.plan_core.specs.Valid.{kinds, a_node}
use Rattle.plan_evidence.specs.Evidence.{is_on_way, evidence_vars, ShapeHolds}
use Rattle.lazy_plan.specs.Bench.{BenchState, ops_of, documents, told}
use Rattle.lazy_seek.specs.declared.evidence.Found.{Found}
use Rattle.lazy_seek.specs.declared.evidence.Turn.{Turn}
use Rattle.lazy_seek.specs.declared.evidence.Wanted.{Wanted}
use Rattle.lazy_seek.specs.Evidenced.{AreSpotsOf}
use Rattle.lazy_seek.specs.Given.{vars_below, next_given, given}
use Rattle.lazy_seek.specs.Known.{IsKnownAs}
use Rattle.lazy_seek.specs.Reach.{reach}

-- the nodes that the places give which are wanted as evidence
abbrev pub nodes_wanted : List Operator → Wanted → ℕ → Node
nodes_wanted ops w = given ops w.op w.places.now

-- evidence of an operator of the plan is wanted, and as many places are given as it has variables
pub record IsWanted (ops : List Operator) (w : Wanted) : Type 0 where
  pub within : w.op < length ops
  pub places : length (evidence_vars ops w.op) ≡ length w.places.now

-- it is the turn of an operator of the plan, and it is told whether it is on the way of the evidence that is wanted
pub record IsTurn (ops : List Operator) (t : Turn) : Type 0 where
  pub within : t.op < length ops
  pub is_wanted : IsWanted ops t.wanted
  pub way : t.on_way ≡ is_on_way ops t.wanted.op t.op

-- once the operators below i were gone through: for each variable of those on the way that holds a node its node was found, and the spots are those of
-- the variables that visits bind
pub record Knows (st : BenchState) (ops : List Operator) (w : Wanted) (f : Found) (i : ℕ) : Type 0 where
  pub known : (j v : ℕ) → j < i → is_on_way ops w.op j ≡ true → kinds ops j v ≡ Some a_node
      → IsKnownAs st w.places.now f.nodes v (nodes_wanted ops w v)
  pub spots_are : AreSpotsOf st (nodes_wanted ops w) (vars_below ops w.op i) f.spots.items

-- how far a shape reaches at a place: a visit walks to it, other shapes walk nowhere
abbrev pub shape_reach : Shape → List ℕ → ℕ
shape_reach (one_source s out) place = 0
shape_reach (visits_below input start path out) place = reach place
shape_reach (pairs_up left right tests) place = 0
shape_reach (passes_on input stage) place = 0
shape_reach (no_events input made) place = 0

-- how far the operator whose turn it is reaches: to the next place, where it is a visit on the way
abbrev pub turn_reach : List Operator → Turn → ℕ
turn_reach ops t = cond t.on_way (shape_reach (shape_at ops t.op) (next_given ops t.wanted.op t.wanted.places.now t.op)) 0

-- the operator whose turn it is holds of the nodes that the places give
abbrev pub TurnHolds : BenchState → Turn → Type 0
TurnHolds st t = ShapeHolds (documents st) (nodes_wanted (ops_of st) t.wanted) (shape_at (ops_of st) t.op)

-- a call answers that the operator whose turn it is, where it is on the way, holds of the nodes that the places give, and what it binds was found; or that
-- it is on the way and doesn't hold of them
abbrev pub GoesOn : BenchState → BenchState → Turn → Found → Bool → Type 0
GoesOn old new t f holds =
    MatchBool holds (Knows new (ops_of old) t.wanted f (suc t.op) × (IsTrue (told old) → t.on_way ≡ true → TurnHolds old t))
    (IsTrue (told old) → (t.on_way ≡ true) × (TurnHolds old t → ⊥))
