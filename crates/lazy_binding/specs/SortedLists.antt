-- The sorted list of an orderBy, whose members are positions of its input.
use Rattle.std.specs.Prelude.{ℕ, Bool, IsTrue, List, map}
use Rattle.std.specs.declared.alloc.Global.{Global}
use Rattle.std.specs.declared.rc.Rc.{Rc}
use Rattle.std.specs.List.{AllByRecursion}
use Rattle.plan_core.specs.Plans.{Operator}
use Rattle.plan_core.specs.Shapes.{Shape, passes_on, in_order}
use Rattle.plan_core.specs.Sorted.{sorted_by}
use Rattle.plan_core.specs.TolledRows.{TolledRow}
use Rattle.plan_core.specs.Unary.{comes_before}
use Rattle.lazy_binding.specs.declared.labelled.Labelled.{Labelled}
use Rattle.lazy_binding.specs.declared.position.Position.{Position}
use Rattle.lazy_binding.specs.World.{World}
use Rattle.lazy_binding.specs.Cursors.{binding, has_row, IsOf}

-- the shape of an orderBy of input i by the label of variable v
abbrev pub sorts : ℕ → ℕ → Bool → Shape
sorts i v desc = passes_on i (in_order v desc)

-- each of these positions is one of operator i, and stands at a binding
abbrev pub ArePositions : World → List Operator → ℕ → List (Rc Position Global) → Type 0
ArePositions w ops i places = AllByRecursion (λ c. IsOf w ops i c.value × IsTrue (has_row c.value)) places

-- the bindings of operator i at which these positions stand
abbrev pub bindings_at : World → List Operator → ℕ → List (Rc Position Global) → List TolledRow
bindings_at w ops i places = map (λ c. binding w ops i c.value) places

-- positions sorted by their labels, ties as they stood
abbrev pub by_label : Bool → List Labelled → List Labelled
by_label desc rows = sorted_by (λ a b. comes_before desc a.label b.label) rows
