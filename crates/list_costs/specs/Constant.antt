-- What the number of a bounded class is by the numbers of lists.
use Rattle.std.specs.Prelude.{◌≡◌, ◌⊎◌, ℕ, List, Option, Some, None, slice_get}
use Rattle.plan_core.specs.declared.plan.Op.TheVariants.{CreateElement}
use Rattle.plan_core.specs.declared.plan.Plan.{Plan}
use Rattle.plan_core.specs.PlanMade.{plan_value}
use Rattle.browse_profile.specs.declared.profile.Profile.{Profile}
use Rattle.browse_profile.specs.Profiles.{greatest}
use Rattle.browse_visit.specs.declared.shape.Shape.{Shape}
use Rattle.browse_visit.specs.Shapes.{shapes_of}
use Rattle.browse_class.specs.Cheap.{IsWithin}
use Rattle.browse_class.specs.Classes.{class_in}
use Rattle.browse_class.specs.declared.class.Class.TheVariants.{Bounded, Browsable}
use Rattle.list_costs.specs.Told.{list_profile}

-- each list over which an operator of a plan makes an element has such numbers
abbrev pub EachList : List Shape → Plan → (Profile → Type 0) → Type 0
EachList shapes plan P =
    (n input list out : ℕ) (label : List ℕ) → slice_get plan.ops.items n ≡ Some (CreateElement input label list out) → P (list_profile shapes plan input list)

-- the greatest number of some list over which an operator of a plan makes an element is this one, or isn't known
abbrev pub SomeListHas : List Shape → Plan → Option ℕ → Type 0
SomeListHas shapes plan most =
    (n input list out : ℕ) × (label : List ℕ) × (slice_get plan.ops.items n ≡ Some (CreateElement input label list out))
    × (greatest (list_profile shapes plan input list) ≡ most)

-- a number is the greatest of 1 and all numbers of the lists of new elements, each of which is known
pub record IsGreatestOfLists (shapes : List Shape) (plan : Plan) (k : ℕ) : Type 0 where
  pub each : EachList shapes plan (IsWithin (Some k))
  pub one : (k ≡ 1) ⊎ SomeListHas shapes plan (Some k)

-- the number of a bounded class is the greatest of 1 and the numbers of the lists of new elements; where a class is browsable, one of these isn't known
pub record ClassIsOfLists : Type 0 where
  pub bounded : (shapes : List Shape) (plan : Plan) (k : ℕ) → class_in (shapes_of shapes) (plan_value plan).ops ≡ Bounded k → IsGreatestOfLists shapes plan k
  pub browsable : (shapes : List Shape) (plan : Plan) → class_in (shapes_of shapes) (plan_value plan).ops ≡ Browsable → SomeListHas shapes plan None
