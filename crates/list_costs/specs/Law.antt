-- What is promised of the numbers of lists.
use Rattle.std.specs.Prelude.{◌≡◌, ℕ, List, Some, slice_get}
use Rattle.mix_tree.specs.Nodes.{Documents}
use Rattle.plan_core.specs.declared.plan.Op.TheVariants.{CreateElement}
use Rattle.plan_core.specs.declared.plan.Plan.{Plan}
use Rattle.plan_core.specs.Beside.{EachBinding}
use Rattle.plan_core.specs.Events.{events}
use Rattle.plan_core.specs.PlanMade.{plan_value}
use Rattle.plan_core.specs.TolledRows.{TolledValue, of_source, element, trees, tolled_value}
use Rattle.plan_core.specs.Valid.{IsValid}
use Rattle.browse_profile.specs.declared.profile.Profile.{Profile}
use Rattle.browse_profile.specs.Fits.{FourFit}
use Rattle.browse_visit.specs.declared.shape.Shape.{Shape}
use Rattle.browse_visit.specs.Layouts.{AreLaid}
use Rattle.browse_visit.specs.Shapes.{shapes_of}
use Rattle.browse_class.specs.Cheap.{spine}
use Rattle.list_costs.specs.Told.{list_profile}

-- a value is a list in which steps cost at most what a profile says
abbrev pub IsListWithin : Profile → TolledValue → Type 0
IsListWithin p (of_source n) = ⊥
IsListWithin p (element label kids) = ⊥
IsListWithin p (trees f) = FourFit p (spine f)

-- over all documents that are laid out as the shapes of a valid plan's sources say, steps in the list of each new element cost at most what is told of it
abbrev pub ListsCostAsTold : Type 0
ListsCostAsTold =
    (shapes : List Shape) (plan : Plan) → IsValid (plan_value plan) → (docs : Documents) → AreLaid (shapes_of shapes) docs → (n input list out : ℕ) (label : List ℕ)
    → slice_get plan.ops.items n ≡ Some (CreateElement input label list out)
    → EachBinding (λ row. IsListWithin (list_profile shapes plan input list) (tolled_value row list)) (events docs (plan_value plan).ops input)
