-- The constant of a plan, and its class.
use Rattle.std.specs.Prelude.{◌≡◌, ◌<◌, ◌≤◌, ℕ, Bool, true, false, cond, ◌||◌, List, [], ◌∷◌, Option, Some, None, length}
use Rattle.mix_tree.specs.Nodes.{Documents}
use Rattle.plan_core.specs.Events.{events, tolled_document}
use Rattle.plan_core.specs.Fronts.{front}
use Rattle.plan_core.specs.Plans.{Operator, PlanValue}
use Rattle.plan_core.specs.Shapes.{Made, a_list_of, an_element_of, Stage, filters, extends, first_by_keys, one_group, in_order, Shape, one_source, visits_below, pairs_up, passes_on, no_events, shape_of}
use Rattle.plan_core.specs.Tolled.{tolled_at, toll, trees_below, trees_after}
use Rattle.plan_core.specs.Valid.{kinds, IsValid}
use Rattle.browse_profile.specs.Bounds.{larger}
use Rattle.browse_profile.specs.Profiles.{greatest}
use Rattle.browse_visit.specs.Layouts.{Layout, AreLaid}
use Rattle.browse_class.specs.declared.class.Class.{Class}
use Rattle.browse_class.specs.declared.class.Class.TheVariants.{Bounded, Browsable, Unbrowsable}
use Rattle.browse_class.specs.Bound.{AreAsKnown}
use Rattle.browse_class.specs.Facts.{Facts, facts}

-- the greatest number of the list of a new element
abbrev pub made_bound : Made → Facts → Option ℕ
made_bound (a_list_of pieces) f = Some 0
made_bound (an_element_of label list) f = greatest (f.lists list)

-- the greatest number from stop to stop of the list of a new element that a stage makes; 0 where it makes none
abbrev pub stage_bound : Stage → Facts → Option ℕ
stage_bound (filters test) f = Some 0
stage_bound (extends out made) f = made_bound made f
stage_bound (first_by_keys keys group) f = Some 0
stage_bound (one_group piece out) f = Some 0
stage_bound (in_order v desc) f = Some 0

-- the greatest number from stop to stop of the list of a new element that a shape makes; 0 where it makes none
abbrev pub shape_bound : Shape → (ℕ → Facts) → Option ℕ
shape_bound (one_source s out) of = Some 0
shape_bound (visits_below input start path out) of = Some 0
shape_bound (pairs_up left right tests) of = Some 0
shape_bound (passes_on input stage) of = stage_bound stage (of input)
shape_bound (no_events input made) of = Some 0

-- the greatest number from stop to stop of the list of a new element that an operator makes; 0 where it makes none
abbrev pub op_bound : Operator → (ℕ → Facts) → Option ℕ
op_bound op of = shape_bound (shape_of op) of

-- the greatest of 1 and the numbers of all operators of a plan
abbrev pub all_bounds : List Operator → (ℕ → Facts) → Option ℕ
all_bounds [] of = Some 1
all_bounds (op ∷ ops) of = larger (op_bound op of) (all_bounds ops of)

-- the constant of operators over sources that are laid out so
abbrev pub constant : (ℕ → Layout) → List Operator → Option ℕ
constant shapes ops = all_bounds ops (facts shapes ops)

-- whether a stage orders its input's bindings
abbrev pub stage_sorts : Stage → Bool
stage_sorts (filters test) = false
stage_sorts (extends out made) = false
stage_sorts (first_by_keys keys group) = false
stage_sorts (one_group piece out) = false
stage_sorts (in_order v desc) = true

-- whether a shape orders its input's bindings
abbrev pub shape_sorts : Shape → Bool
shape_sorts (one_source s out) = false
shape_sorts (visits_below input start path out) = false
shape_sorts (pairs_up left right tests) = false
shape_sorts (passes_on input stage) = stage_sorts stage
shape_sorts (no_events input made) = false

-- whether an operator orders its input's bindings
abbrev pub op_sorts : Operator → Bool
op_sorts op = shape_sorts (shape_of op)

-- whether some operator of a plan orders its input's bindings
abbrev pub sorts_any : List Operator → Bool
sorts_any [] = false
sorts_any (op ∷ ops) = op_sorts op || sorts_any ops

-- each toll of a step down or right in the plan's document is at most a number
abbrev pub AllTollsWithin : ℕ → Documents → List Operator → Type 0
AllTollsWithin most docs ops =
    (place : List ℕ)
    → (toll (trees_below (tolled_at (tolled_document docs ops) place)) ≤ most) × (toll (trees_after (tolled_at (tolled_document docs ops) place)) ≤ most)

-- the class by the constant
abbrev pub class_by : Option ℕ → Class
class_by None = Browsable
class_by (Some k) = Bounded k

-- the class of a plan over sources that are laid out so
abbrev pub class_in : (ℕ → Layout) → List Operator → Class
class_in shapes ops = cond (sorts_any ops) Unbrowsable (class_by (constant shapes ops))

-- where the class of a valid plan is bounded, so is each toll over documents that are laid out so
abbrev pub BoundedTolls : Type 0
BoundedTolls =
    (shapes : ℕ → Layout) (p : PlanValue) (k : ℕ) → IsValid p → class_in shapes p.ops ≡ Bounded k → (docs : Documents) → AreLaid shapes docs → AllTollsWithin k docs p.ops

-- the events of each operator of a valid plan are as is known of it
abbrev pub KnownOfEvents : Type 0
KnownOfEvents = (shapes : ℕ → Layout) (p : PlanValue) → IsValid p → (docs : Documents) → AreLaid shapes docs
    → (n : ℕ) → n < length p.ops → AreAsKnown docs None (kinds p.ops n) (front p.ops n).vars (facts shapes p.ops n) (events docs p.ops n)
