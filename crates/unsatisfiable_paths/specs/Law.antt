-- What is promised of the paths of a plan that match nothing.
use Rattle.std.specs.Prelude.{◌≡◌, ◌<◌, ℕ, true, false, List, [], length}
use Rattle.mix_base.specs.Ascents.{Among}
use Rattle.mix_base.specs.Events.{without_skips}
use Rattle.mix_tree.specs.Nodes.{Documents, Node, kids_at}
use Rattle.path_expr.specs.Matches.{IsMatch}
use Rattle.plan_core.specs.Beside.{EachBinding}
use Rattle.plan_core.specs.Events.{RowEvents, events, visited}
use Rattle.plan_core.specs.Plans.{Operator, PlanValue, rows_of}
use Rattle.plan_core.specs.Shapes.{Shape, one_source, visits_below, pairs_up, passes_on, no_events, shape_at}
use Rattle.plan_core.specs.TolledRows.{row_node}
use Rattle.plan_core.specs.Valid.{IsValid}
use Rattle.browse_visit.specs.declared.shape.Shape.{Shape as SourceShape}
use Rattle.browse_visit.specs.declared.shape.Sort.{Sort}
use Rattle.browse_visit.specs.declared.shape.Sorts.{Sorts}
use Rattle.browse_visit.specs.Layouts.{IsLaid, AreLaid}
use Rattle.browse_visit.specs.Shapes.{shape_at as source_shape, shapes_of, sort_layout, has_sort}
use Rattle.unsatisfiable_paths.specs.declared.path.UnsatisfiablePath.{UnsatisfiablePath}
use Rattle.unsatisfiable_paths.specs.Unsatisfiable.{unsatisfiable_in}

-- below a node stand trees as below a node of one of these sorts
abbrev pub LiesAmong : Documents → SourceShape → Sorts → Node → Type 0
LiesAmong docs shape k n = (s : Sort) × (has_sort k s ≡ true) × IsLaid (sort_layout shape s) (kids_at docs n)

-- a node is as the start of a path is told: of its source, and among its sorts
abbrev pub IsStart : Documents → List SourceShape → UnsatisfiablePath → Node → Type 0
IsStart docs shapes x n = (n.source ≡ x.source) × LiesAmong docs (source_shape shapes x.source) x.from n

-- a shape has a path, and it leads nowhere from the start's node of any binding of its input
abbrev pub HasNoMatch : Documents → (ℕ → RowEvents) → Shape → Type 0
HasNoMatch docs of (one_source s out) = ⊥
HasNoMatch docs of (visits_below input start path out) = EachBinding (λ row. (n : Node) → IsMatch docs path (row_node row start) n → ⊥) (of input)
HasNoMatch docs of (pairs_up left right tests) = ⊥
HasNoMatch docs of (passes_on input stage) = ⊥
HasNoMatch docs of (no_events input made) = ⊥

-- a shape has a path, and the start's node of each binding of its input is as is told
abbrev pub StartsThere : Documents → List SourceShape → UnsatisfiablePath → (ℕ → RowEvents) → Shape → Type 0
StartsThere docs shapes x of (one_source s out) = ⊥
StartsThere docs shapes x of (visits_below input start path out) = EachBinding (λ row. IsStart docs shapes x (row_node row start)) (of input)
StartsThere docs shapes x of (pairs_up left right tests) = ⊥
StartsThere docs shapes x of (passes_on input stage) = ⊥
StartsThere docs shapes x of (no_events input made) = ⊥

-- an operator's path starts where it is told to, has no match from there, and the operator has no binding
pub record IsUnsatisfiable (docs : Documents) (shapes : List SourceShape) (ops : List Operator) (x : UnsatisfiablePath) : Type 0 where
  pub number : x.op < length ops
  pub starts : StartsThere docs shapes x (events docs ops) (shape_at ops x.op)
  pub matches : HasNoMatch docs (events docs ops) (shape_at ops x.op)
  pub unbound : without_skips (events docs ops x.op) ≡ []
  pub bindings : rows_of (visited docs) ops x.op ≡ []

-- over all documents that are laid out as the shapes say, the paths that are told have no match; none of them starts where nothing is known
pub record AreUnsatisfiable (shapes : List SourceShape) (p : PlanValue) (x : UnsatisfiablePath) : Type 0 where
  pub documents : (docs : Documents) → AreLaid (shapes_of shapes) docs → IsUnsatisfiable docs shapes p.ops x
  pub known : x.from.anything ≡ false

-- the paths of a valid plan that match nothing by what is known of its sources match nothing
abbrev pub UnsatisfiableHaveNoMatch : Type 0
UnsatisfiableHaveNoMatch =
    (shapes : List SourceShape) (p : PlanValue) → IsValid p → (x : UnsatisfiablePath) → Among x (unsatisfiable_in shapes p.ops)
    → AreUnsatisfiable shapes p x
