-- What views over sources mean as sources.
use Rattle.std.specs.Prelude.{◌+◌, ◌-◌, ◌^◌, ◌==◌, ◌&&◌, ℕ, zero, suc, min, cond, Bool, true, false, List, Option, Some, None, length, map, option_map, get_or, slice_get}
use Rattle.std.specs.List.{list_any}
use Rattle.mix_tree.specs.Forest.{Forest, LabelledTree, none, alone}
use Rattle.lxp_core.specs.declared.open_tree.HoleId.{HoleId}
use Rattle.lxp_core.specs.View.{View}
use Rattle.plan_core.specs.declared.plan.Plan.{Plan}
use Rattle.plan_core.specs.Plans.{Operator}
use Rattle.plan_core.specs.Shapes.{shape_of}
use Rattle.plan_core.specs.Tolled.{Tolled, ends, trees_below, trees_after, plain}
use Rattle.lazy_binding.specs.Cursors.{source_number}
use Rattle.lazy_plan.specs.Bench.{BenchState, ops_of}
use Rattle.lazy_plan.specs.Bench as bench
use Rattle.lazy_walk.specs.declared.walk.Walk.{Walk}
use Rattle.lazy_site.specs.Ids.{here}
use Rattle.lazy_walk.specs.Walks.{state_of, plan_of}
use Rattle.lazy_walk.specs.Places.{plan_document}
use Rattle.view_stack.specs.declared.layers.Layers.{Layers}
use Rattle.view_stack.specs.declared.layers.Served.{Served}
use Rattle.view_stack.specs.declared.part.Part.{Part}
use Rattle.view_stack.specs.declared.part.Part.TheVariants.{Whole, Below, After}
use Rattle.view_stack.specs.Beside.{beside}
use Rattle.view_stack.specs.Parts.{hole_of, part_of}
use Rattle.view_stack.specs.Parts as parts

-- WHAT IS STACKED

-- the state of a stack: what the sources below mean, the views over them, the nodes that were served, and how many fills were asked
pub record Stacking : Type 0 where
  pub base : View
  pub views : List (Option Walk)
  pub served : List Served
  pub fills : ℕ

-- the state of a stack, given what the sources below mean
abbrev pub stacking_in : {S : Type 0} → (S → View) → Layers S → Stacking
stacking_in view l = record { base = view l.base; views = l.views.items; served = l.served.items; fills = l.fills }

-- the view of a number; none where it is not mounted, or where there are not so many
abbrev pub view_at : List (Option Walk) → ℕ → Option Walk
view_at views i = get_or views i None

-- the plans of views, where they are mounted
abbrev pub plans_of : List (Option Walk) → List (Option Plan)
plans_of views = map (option_map plan_of) views

-- A VIEW

-- whether a view tells its document: where each source that it names does
abbrev pub is_told : View → Option Walk → Bool
is_told v None = false
is_told v (Some m) = bench.told (state_of v m)

-- whether a view is forward: where each source that it names is told and forward
abbrev pub is_forward : View → Option Walk → Bool
is_forward v None = true
is_forward v (Some m) = bench.told (state_of v m) && bench.forward (state_of v m)

-- whether the source that is read, where one is, has this number
abbrev pub is_source : ℕ → Option ℕ → Bool
is_source s None = false
is_source s (Some r) = r == s

-- whether one of the operators reads a source
abbrev pub names : List Operator → ℕ → Bool
names ops s = list_any (λ o. is_source s (source_number (shape_of o))) ops

-- the sum of the counts of those numbers below n that pass a test
abbrev pub sum_below : (ℕ → Bool) → (ℕ → ℕ) → ℕ → ℕ
sum_below test counts zero = 0
sum_below test counts (suc n) = cond (test n) (counts n) 0 + sum_below test counts n

-- how often a view failed: as often as the sources did that it names, up to the end of the count
abbrev pub faults : View → Option Walk → ℕ
faults v None = 0
faults v (Some m) = min (sum_below (names (ops_of (state_of v m))) v.faults v.count) (2 ^ 64 - 1)

-- THE PARTS OF A VIEW

-- the list of a tree alone; no trees where there is none
abbrev pub tree_alone : Option LabelledTree → Forest
tree_alone None = none
tree_alone (Some t) = alone t

-- the tree of a node that was served, and those after it
abbrev pub served_tree : BenchState → Option Served → Tolled
served_tree st None = ends 0
served_tree st (Some e) = here st e.node.site

-- the trees of a part: the plan's document, or what is below or after a node
abbrev pub part_forest : BenchState → List Served → Part → Forest
part_forest st served Whole = tree_alone (plan_document st)
part_forest st served (Below n) = plain (trees_below (served_tree st (slice_get served n)))
part_forest st served (After n) = plain (trees_after (served_tree st (slice_get served n)))

-- what a function makes of the part of a hole, or the value given for none
abbrev pub of_part : {A : Type 0} → A → (Part → A) → Option Part → A
of_part a f None = a
of_part a f (Some p) = f p

-- the trees that a hole of a view stands for
abbrev pub forest : View → List Served → Option Walk → HoleId → Forest
forest v served None h = none
forest v served (Some m) h = of_part none (part_forest (state_of v m) served) (part_of h)

-- whether a node was served of the view of this number
abbrev pub is_of : ℕ → Option Served → Bool
is_of i None = false
is_of i (Some e) = e.view == i

-- whether a part is one of the view of this number: the whole, or below or after a node that was served of it
abbrev pub has_part : List Served → ℕ → Part → Bool
has_part served i Whole = true
has_part served i (Below n) = is_of i (slice_get served n)
has_part served i (After n) = is_of i (slice_get served n)

-- whether the view of a number knows a hole
abbrev pub knows : List Served → ℕ → HoleId → Bool
knows served i h = of_part false (has_part served i) (part_of h)

-- the weight of a hole of a view
abbrev pub weight : HoleId → ℕ
weight h = of_part 0 parts.weight (part_of h)

-- ALL SOURCES

-- what the views mean as sources; it is left open whether their lists are small
abbrev pub views_of : Stacking → View
views_of k = record {
  count = length k.views;
  root = λ i. hole_of Whole;
  told = λ i. is_told k.base (view_at k.views i);
  knows = λ i. knows k.served i;
  forest = λ i. forest k.base k.served (view_at k.views i);
  weight = λ i. weight;
  forward = λ i. is_forward k.base (view_at k.views i);
  small = λ i. false;
  fills = k.fills;
  faults = λ i. faults k.base (view_at k.views i);
}

-- what a stack means as sources: the sources below, and the views with the numbers after theirs
abbrev pub view_of : Stacking → View
view_of k = beside k.base (views_of k)
