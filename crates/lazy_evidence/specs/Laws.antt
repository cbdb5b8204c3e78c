-- Which bindings are among the events of an operator, and that the nodes at the parts of a position are right evidence of such a one.
use Rattle.std.specs.Prelude.{◌≡◌, ◌<◌, ℕ, Bool, IsTrue, List, length}
use Rattle.mix_base.specs.Ascents.{Among}
use Rattle.mix_base.specs.Events.{finds, found}
use Rattle.mix_tree.specs.Nodes.{Documents}
use Rattle.mix_tree.specs.declared.var.Key.{Key}
use Rattle.plan_core.specs.Beside.{EachBinding}
use Rattle.plan_core.specs.Events.{RowEvents, group_after, events}
use Rattle.plan_core.specs.Plans.{PlanValue}
use Rattle.plan_core.specs.Shapes.{shape_at}
use Rattle.plan_core.specs.TolledRows.{TolledRow}
use Rattle.plan_core.specs.Valid.{IsValid}
use Rattle.plan_evidence.specs.Evidence.{shape_way, AreRight}
use Rattle.plan_evidence.specs.Held.{AreOf}
use Rattle.plan_evidence.specs.Laws.{SomeBinding}
use Rattle.lazy_binding.specs.declared.position.Position.{Position}
use Rattle.lazy_binding.specs.Bench.{IsBench}
use Rattle.lazy_binding.specs.Cursors.{binding, IsFirstBy, IsOf, has_row}
use Rattle.lazy_binding.specs.Unders.{part_at}
use Rattle.lazy_binding.specs.World.{World, docs_of, is_told}
use Rattle.lazy_evidence.specs.Below.{nodes_at}

-- a binding is one of those among events
abbrev pub IsAmong : RowEvents → TolledRow → Type 0
IsAmong es row = SomeBinding (λ b. b ≡ row) es

-- over told sources, where the binding of a position of an operator of a valid plan is among the operator's events, the nodes at the position's parts are right evidence of it
abbrev pub PositionsHaveEvidence : Type 0
PositionsHaveEvidence =
    (p : PlanValue) → IsValid p → (w : World) → IsBench w p.ops → IsTrue (is_told w p.ops) → (n : ℕ) → n < length p.ops → (c : Position) → IsOf w p.ops n c → IsTrue (has_row c)
    → IsAmong (events (docs_of w) p.ops n) (binding w p.ops n c)
    → AreRight (docs_of w) p.ops n (nodes_at w p.ops n c) × AreOf (docs_of w) p.ops n (nodes_at w p.ops n c) (binding w p.ops n c)

-- over told sources, where the binding of a position of an operator of a valid plan is among the operator's events, that of the position's part at each input on the way is among those of the input
abbrev pub PartsAreAmong : Type 0
PartsAreAmong =
    (p : PlanValue) → IsValid p → (w : World) → IsBench w p.ops → IsTrue (is_told w p.ops) → (n : ℕ) → n < length p.ops → (c : Position) → IsOf w p.ops n c → IsTrue (has_row c)
    → IsAmong (events (docs_of w) p.ops n) (binding w p.ops n c) → (i : ℕ) → Among i (shape_way (shape_at p.ops n))
    → IsAmong (events (docs_of w) p.ops i) (binding w p.ops i (part_at p.ops n c i))

-- a binding and each after it are among events
abbrev pub AreAmong : RowEvents → TolledRow → RowEvents → Type 0
AreAmong all row later = IsAmong all row × EachBinding (IsAmong all) later

-- each binding of events is among them
abbrev pub AllAreAmong : Type 0
AllAreAmong = (es : RowEvents) → EachBinding (IsAmong es) es

-- where all bindings of some events are among others, so are the next one that is found and all after it
abbrev pub NextAreAmong : Type 0
NextAreAmong = (all es later : RowEvents) (row : TolledRow) → EachBinding (IsAmong all) es → found es ≡ finds row later → AreAmong all row later

-- the first binding with its keys among events, and all of its group after it, are among them
abbrev pub GroupsAreAmong : Type 0
GroupsAreAmong =
    (docs : Documents) (keys : List Key) (stops : Bool) (es later : RowEvents) (row : TolledRow) → IsFirstBy docs keys es row later → AreAmong es row (group_after docs keys stops row later)
