-- What is kept of the operators that are no input yet.
use Rattle.std.specs.Prelude.{◌≡◌, ◌<◌, ◌≤◌, ℕ, List, [], ◌∷◌, ◌++◌, length, drop, slice_get, slice_set, Option, Some, None}
use Rattle.plan_core.specs.Fronts.{Front}
use Rattle.plan_core.specs.Plans.{Operator}
use Rattle.plan_core.specs.Shapes.{shape_of}
use Rattle.plan_core.specs.Valid.{inputs_of, uses_of}
use Rattle.browse_visit.specs.declared.shape.Shape.{Shape as SourceShape}
use Rattle.plan_class.specs.Agree.{known_below}
use Rattle.plan_class.specs.Known.{Known, no_known, known_at, shape_known}
use Rattle.plan_class.specs.VarDomains.{domain_in, AreDomains}
use Rattle.plan_class.specs.declared.so_far.SoFar.{SoFar}

-- what a slot has; an empty one, and none at all, have nothing
abbrev pub slot_known : Option (Option Known) → Known
slot_known None = no_known
slot_known (Some None) = no_known
slot_known (Some (Some k)) = k

-- what the slot of a number has
abbrev pub kept_at : List (Option Known) → ℕ → Known
kept_at slots i = slot_known (slice_get slots i)

-- slots, with those of some numbers emptied
abbrev pub emptied : List (Option Known) → List ℕ → List (Option Known)
emptied slots [] = slots
emptied slots (i ∷ is) = emptied (slice_set slots i None) is

-- what is kept after one operator more: it in a slot of its own, its inputs no longer, and what the variable is that it binds
pub record IsPushed (shapes : List SourceShape) (fronts : ℕ → Front) (old : SoFar) (op : Operator) (new : SoFar) : Type 0 where
  pub slots : new.slots.items ≡ emptied old.slots.items (inputs_of op) ++ Some (shape_known shapes fronts (domain_in old.domains) (kept_at old.slots.items) (shape_of op)) ∷ []
  pub domains : (known : List Known) → AreDomains old.domains known
      → AreDomains new.domains (known ++ shape_known shapes fronts (domain_in old.domains) (kept_at old.slots.items) (shape_of op) ∷ [])

-- what is kept of the first n operators: what the variables are that they bind, and in its slot each that is still to be an input
pub record IsSoFar (shapes : List SourceShape) (ops : List Operator) (n : ℕ) (s : SoFar) : Type 0 where
  pub domains : AreDomains s.domains (known_below shapes ops n)
  pub count : length s.slots.items ≡ n
  pub waiting : (i : ℕ) → i < n → 1 ≤ uses_of (drop n ops) i → slice_get s.slots.items i ≡ Some (Some (known_at (known_below shapes ops n) i))
