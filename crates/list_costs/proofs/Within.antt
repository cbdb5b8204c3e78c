-- In the list of a new element steps cost at most what is known of it.
use Rattle.std.proofs.Common.{◌≡◌, ◌<◌, ℕ, List, [], Option, Some, None, subst, arith}
use Rattle.std.specs.List.{AllByRecursion}
use Rattle.mix_tree.specs.Nodes.{Documents}
use Rattle.plan_core.specs.declared.plan.Op.TheVariants.{CreateElement}
use Rattle.plan_core.specs.PlanMade.{plan_value}
use Rattle.plan_core.specs.Plans.{Operator}
use Rattle.plan_core.specs.Shapes.{shape_of}
use Rattle.plan_core.specs.TolledRows.{TolledRow, TolledValue, of_source, element, trees, tolled_value}
use Rattle.plan_core.specs.Typed.{ValidIsTyped}
use Rattle.plan_core.specs.Events.{events}
use Rattle.plan_core.specs.Valid.{Kind, a_list, Kinds, kinds, shape_inputs, IsShapeFit}
use Rattle.plan_core.proofs.Bindings.{binding_weaker}
use Rattle.browse_profile.specs.declared.profile.Profile.{Profile}
use Rattle.browse_visit.specs.Layouts.{Layout}
use Rattle.browse_visit.specs.Shapes.{shapes_of}
use Rattle.browse_class.specs.Bound.{HasValue, IsBound, IsValue}
use Rattle.browse_class.specs.Classes.{KnownOfEvents}
use Rattle.browse_class.specs.Facts.{Facts, facts}
use Rattle.list_costs.specs.Law.{IsListWithin, ListsCostAsTold}
use Rattle.list_costs.specs.Told.{list_profile}
use Rattle.list_costs.proofs.SaidAlike.{found_at}

-- a value that is known to be a list is one within the profile that is known
within : (docs : Documents) (gs : List Layout) (p : Profile) (x : TolledValue) → IsValue docs None a_list gs p x → IsListWithin p x
within docs gs p (of_source n) h = h
within docs gs p (element label kids) h = h
within docs gs p (trees f) h = h.0

-- a binding has a list for a variable that is known to be one, within its profile
row_within : (docs : Documents) (ks : Kinds) (f : Facts) (v : ℕ) → ks v ≡ Some a_list → (row : TolledRow) → IsBound docs None ks f row → IsListWithin (f.lists v) (tolled_value row v)
row_within docs ks f v e row h =
    let bound = subst (λ (k : Option Kind). HasValue docs None k (f.layouts v) (f.lists v) row [] v) e (h v []) in
    within docs (f.layouts v) (f.lists v) (tolled_value row v) bound.1

-- each number of a list that is told bounds what steps in it cost
pub lists_within : ValidIsTyped → KnownOfEvents → ListsCostAsTold
lists_within valid_typed known shapes plan valid docs laid n input list out label e =
    let ops = (plan_value plan).ops in
    let typed = valid_typed (plan_value plan) valid in
    let at = found_at plan.ops.items n (CreateElement input label list out) e in
    let small = subst (λ (o : Operator). AllByRecursion (λ i. i < n) (shape_inputs (shape_of o))) at.1 (typed.inputs n at.0) in
    let fit = subst (λ (o : Operator). IsShapeFit (shape_of o) (kinds ops)) at.1 (typed.fit n at.0) in
    let below = small.0 in
    let inside = at.0 in
    let input_known = known (shapes_of shapes) (plan_value plan) valid docs laid input (omega (arith, below, inside)) in
    binding_weaker (IsBound docs None (kinds ops input) (facts (shapes_of shapes) ops input)) (λ row. IsListWithin (list_profile shapes plan input list) (tolled_value row list))
    (row_within docs (kinds ops input) (facts (shapes_of shapes) ops input) list fit) (events docs ops input) input_known.bound
