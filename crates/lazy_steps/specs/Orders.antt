-- The sorted list of an orderBy, and the positions of its input from which it is made.
use Rattle.std.specs.Prelude.{◌≡◌, ◌<◌, ◌≤◌, ℕ, Bool, IsTrue, List, Option, None, Some, map, length}
use Rattle.std.specs.declared.alloc.Global.{Global}
use Rattle.std.specs.declared.rc.Rc.{Rc}
use Rattle.std.specs.declared.vec.Vec.{Vec}
use Rattle.std.specs.List.{AllByRecursion}
use Rattle.mix_base.specs.Events.{without_skips}
use Rattle.lazy_descend.specs.Searches.{AsksAtMost}
use Rattle.mix_tree.specs.Nodes.{label_at}
use Rattle.lxp_core.specs.View.{View}
use Rattle.plan_core.specs.Plans.{Operator}
use Rattle.plan_core.specs.TolledRows.{TolledRow, row_node}
use Rattle.plan_core.specs.Events.{events}
use Rattle.lazy_binding.specs.declared.parts.Growing.{Growing}
use Rattle.lazy_binding.specs.Keeping.{Keeps}
use Rattle.lazy_binding.specs.declared.parts.Walk.{Walk}
use Rattle.lazy_binding.specs.Parts.{operators, world_of}
use Rattle.lazy_binding.specs.SortedLists.{by_label}
use Rattle.lazy_binding.specs.declared.labelled.Labelled.{Labelled}
use Rattle.lazy_binding.specs.declared.position.Position.{Position}
use Rattle.lazy_binding.specs.declared.position.Position.TheVariants.{Sorted}
use Rattle.lazy_binding.specs.Bench.{IsBench}
use Rattle.lazy_binding.specs.World.{World, docs_of, is_told}
use Rattle.lazy_binding.specs.Cursors.{binding, size, has_row, IsOf}
use Rattle.lazy_steps.specs.Steps.{telling, KeepsAbove}

-- a position of operator i stands at a binding, with the label of variable v's node in it
pub record IsGiven (w : World) (ops : List Operator) (i v : ℕ) (x : Labelled) : Type 0 where
  pub of : IsOf w ops i x.place.value
  pub row : IsTrue (has_row x.place.value)
  pub label : IsTrue (is_told w ops) → x.label ≡ label_at (docs_of w) (row_node (binding w ops i x.place.value) v)

-- each of these positions of operator i stands at a binding, with the label of variable v's node in it
abbrev pub AreGiven : World → List Operator → ℕ → ℕ → List Labelled → Type 0
AreGiven w ops i v rows = AllByRecursion (IsGiven w ops i v) rows

-- the bindings of operator i at which these positions with labels stand
abbrev pub rows_of : World → List Operator → ℕ → List Labelled → List TolledRow
rows_of w ops i rows = map (λ x. binding w ops i x.place.value) rows

-- a position stands at index k of a sorted list, or the list ends before it
abbrev pub IsSortedAt : Vec (Rc Position Global) Global → ℕ → Option (Rc Position Global) → Type 0
IsSortedAt list k None = length list.items ≤ k
IsSortedAt list k (Some d) = (k < length list.items) × ((r : Rc (Vec (Rc Position Global) Global) Global) × (r.value ≡ list) × (d.value ≡ Sorted r k))

-- a position stands at the first of these positions, once they are sorted by their labels; there is none where there are none
abbrev pub IsFirstSorted : Bool → List Labelled → Option (Rc Position Global) → Type 0
IsFirstSorted desc rows r = (list : Vec (Rc Position Global) Global) × (list.items ≡ map (λ x. x.place) (by_label desc rows)) × IsSortedAt list 0 r

-- these positions with labels stand at all bindings of operator i, in their order
pub record AreAll (old new : World) (ops : List Operator) (i v : ℕ) (rows : List Labelled) : Type 0 where
  pub given : AreGiven new ops i v rows
  pub few : length rows ≤ size new ops i
  pub bindings : IsTrue (is_told old ops) → rows_of new ops i rows ≡ without_skips (events (docs_of old) ops i)

-- these positions with labels stand at all bindings of the operator that is walked, in their order
abbrev pub AreAllOf : World → World → Walk → ℕ → List Labelled → Type 0
AreAllOf old new k v rows = AreAll old new (operators k.fixed.now) k.op v rows

-- what a walk over all events of an operator leaves, whatever it answers
pub record RanThrough {S : Type 0} (view : S → View) (came_from : S → S → Type 0) (ops : List Operator) (i : ℕ) (s : S) (g : Growing) (s' : S) (g' : Growing) : Type 0 where
  pub came : came_from s s'
  pub bench : IsBench (world_of (view s') g') ops
  pub kept : Keeps (world_of (view s) g) (world_of (view s') g')
  pub above : KeepsAbove (world_of (view s) g) (world_of (view s') g') i
  pub lazy : AsksAtMost (telling (world_of (view s) g) ops) (telling (world_of (view s') g') ops) (length (events (docs_of (world_of (view s) g)) ops i))
