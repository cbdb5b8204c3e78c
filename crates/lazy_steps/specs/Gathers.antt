-- Steps of a groupBy whose groups end with its input, over the members of its groups.
use Rattle.std.specs.Prelude.{◌≡◌, ℕ, suc, Bool, true, false, IsTrue, List, [], Option, None, Some, Result, IfOk, map, slice_get, slice_index_or}
use Rattle.std.specs.declared.alloc.Global.{Global}
use Rattle.std.specs.declared.rc.Rc.{Rc}
use Rattle.std.specs.List.{AllByRecursion}
use Rattle.lxp_core.specs.View.{View}
use Rattle.lxp_core.specs.declared.fault.WalkFault.{WalkFault}
use Rattle.lazy_descend.specs.Searches.{FindsNone}
use Rattle.mix_tree.specs.declared.var.Key.{Key}
use Rattle.plan_core.specs.declared.plan.Piece.{Piece}
use Rattle.plan_core.specs.Plans.{Operator}
use Rattle.plan_core.specs.Shapes.{first_by_keys, shape_at, passes_on}
use Rattle.plan_core.specs.Events.{RowEvents, same_group}
use Rattle.plan_core.specs.TolledRows.{key_values}
use Rattle.lazy_binding.specs.declared.key.KeyPart.{KeyPart}
use Rattle.lazy_binding.specs.declared.parts.Growing.{Growing}
use Rattle.lazy_binding.specs.declared.position.Position.{Position, First'}
use Rattle.lazy_binding.specs.Cursors.{binding, ahead, number, gathers_by}
use Rattle.lazy_binding.specs.Gathered.{Gathered, IsGatheredBy}
use Rattle.lazy_binding.specs.Parts.{operators, shape_walked, world_of}
use Rattle.lazy_binding.specs.World.{World, docs_of, is_told, seen_at, gathered_at, part_value, IsPart}
use Rattle.lazy_steps.specs.declared.gather_steps.Gather.{Gather}
use Rattle.lazy_steps.specs.Steps.{telling, Finds, Ran, HasCause}

-- the operator that is walked is a groupBy of this input by these keys, whose groups end with its input
abbrev pub GathersGroups : Gather → Type 0
GathersGroups k = (made : Piece × ℕ) × (shape_walked k.walk ≡ passes_on k.input (first_by_keys k.keys.now (Some made)))
    × (gathers_by (operators k.walk.fixed.now) (passes_on k.input (first_by_keys k.keys.now (Some made))) ≡ true)

-- the next binding of the input of a groupBy, after the one that was walked to, is one more member of the group of its key
pub record IsFurther (old new : World) (ops : List Operator) (n i : ℕ) (keys : List Key) : Type 0 where
  pub next : Position
  pub found : Finds old new ops i (shape_at ops i) (ahead old ops i (gathered_at old n).last) (number old ops i (gathered_at old n).last) next
  pub key : List KeyPart
  pub parts : AllByRecursion (IsPart new) key
  pub value : IsTrue (is_told new ops) → map (part_value new) key ≡ key_values (docs_of new) keys (binding new ops i next)
  pub goes : IsGatheredBy (gathered_at old n) (gathered_at new n) (seen_at old n) (seen_at new n) key next

-- a call for one more member of the groups of operator n found one, or there is none, and the walk over its input has ended
abbrev pub IsGathered : World → World → List Operator → ℕ → ℕ → List Key → Bool → Type 0
IsGathered old new ops n i keys true = IsFurther old new ops n i keys
IsGathered old new ops n i keys false = FindsNone (telling old ops) (ahead old ops i (gathered_at old n).last)

-- what a call for one more member of a groupBy's groups leaves and answers
pub record GrewGroups {S : Type 0} (view : S → View) (came_from : S → S → Type 0) (k : Gather) (s : S) (g : Growing) (s' : S) (g' : Growing) (result : Result Bool WalkFault) : Type 0 where
  pub ran : Ran view came_from (operators k.walk.fixed.now) k.walk.op
      (ahead (world_of (view s) g) (operators k.walk.fixed.now) k.input (gathered_at (world_of (view s) g) k.walk.op).last) s g s' g'
  pub cause : HasCause (operators k.walk.fixed.now) (view s) (view s') result
  pub answer : IfOk result (IsGathered (world_of (view s) g) (world_of (view s') g') (operators k.walk.fixed.now) k.walk.op k.input k.keys.now)

-- the events of the group of a first member, after a position of the input
abbrev pub members_after : World → List Operator → ℕ → List Key → Position → Position → RowEvents
members_after w ops i keys first at = same_group (docs_of w) keys (binding w ops i first) (ahead w ops i at)

-- the group with number k, counted from 0, has no member, or a position stands at its first one
abbrev pub IsNextGroup : Gathered → ℕ → Option (Rc Position Global) → Type 0
IsNextGroup g k None = slice_get (slice_index_or g.groups k []) 0 ≡ None
IsNextGroup g k (Some d) = (m : Rc Position Global) × (q : Rc (Unit {0}) Global) × (slice_get (slice_index_or g.groups k []) 0 ≡ Some m) × (d.value ≡ First' q m.value (suc k))
