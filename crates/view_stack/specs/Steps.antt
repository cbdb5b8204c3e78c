-- What fills leave of a stack of views.
use Rattle.std.specs.Prelude.{◌≡◌, ◌+◌, ◌*◌, ◌-◌, ◌^◌, ◌≤◌, ◌⊎◌, ℕ, nat_lt, cond, true, false, IsTrue, List, Option, Some, None, length, get_or, slice_get, MatchOption}
use Rattle.std.specs.List.{AllByRecursion, list_all}
use Rattle.mix_base.specs.Counts.{HasRisen}
use Rattle.mix_tree.specs.Forest.{none, tree}
use Rattle.mix_tree.specs.Nodes.{Documents}
use Rattle.lxp_core.specs.declared.open_tree.HoleId.{HoleId}
use Rattle.lxp_core.specs.Open.{Open, nil, node, hole}
use Rattle.lxp_core.specs.View.{View, Keeps, document}
use Rattle.plan_core.specs.declared.plan.Plan.{Plan}
use Rattle.plan_core.specs.PlanMade.{plan_value}
use Rattle.plan_core.specs.Plans.{Operator}
use Rattle.plan_core.specs.Tolled.{trees_below, trees_after, plain}
use Rattle.plan_core.specs.Valid.{IsValid, HasSource}
use Rattle.lazy_binding.specs.Cursors.{IsRead}
use Rattle.lazy_binding.specs.World.{reads}
use Rattle.lazy_plan.specs.Bench.{BenchState, KeepsBench, told}
use Rattle.lazy_walk.specs.declared.walk.Walk.{Walk}
use Rattle.lazy_walk.specs.declared.ids.WalkedNode.{WalkedNode}
use Rattle.lazy_site.specs.Ids.{here}
use Rattle.lazy_walk.specs.Kept.{KeepsWalks, TreesStay}
use Rattle.lazy_walk.specs.Walks.{state_of, plan_of, IdentifiersStay, IsWalkOf}
use Rattle.lazy_walk.specs.Places.{IsAt, down_toll, right_toll}
use Rattle.view_stack.specs.declared.layers.Found.{Found}
use Rattle.view_stack.specs.declared.layers.Layers.{Layers}
use Rattle.view_stack.specs.declared.layers.Served.{Served}
use Rattle.view_stack.specs.declared.part.Part.{Part}
use Rattle.view_stack.specs.declared.part.Part.TheVariants.{Whole, Below, After}
use Rattle.view_stack.specs.Parts.{hole_of, part_of}
use Rattle.view_stack.specs.Stacks.{Stacking, stacking_in, view_at, view_of, plans_of, part_forest, has_part, knows}

-- there is no plan, or it is valid and reads only sources below this number
abbrev pub IsPlanOver : ℕ → Option Plan → Type 0
IsPlanOver count p = MatchOption p (Unit {0}) (λ q. IsValid (plan_value q) × AllByRecursion (HasSource count) (plan_value q).ops)

-- a view is not mounted, or it is a walk over sources that mean this
abbrev pub IsViewOver : View → Option Walk → Type 0
IsViewOver v r = MatchOption r (Unit {0}) (IsWalkOf v)

-- IDENTIFIERS THAT STAND

-- an identifier stands at some place of the document
abbrev pub Stands : BenchState → WalkedNode → Type 0
Stands st n = (p : List ℕ) × IsAt st n p

-- walks that no call takes stay, and whatever calls leave of one, its earlier identifiers stay and stand for the same trees
pub record KeepsViews : Type 0 where
  pub views : KeepsWalks
  pub nodes : IdentifiersStay
  pub trees : TreesStay

-- the node of a part was served, and its identifier stands
abbrev pub IsPartOf : BenchState → List Served → Part → Type 0
IsPartOf st served Whole = Unit {0}
IsPartOf st served (Below n) = (e : Served) × (slice_get served n ≡ Some e) × Stands st e.node
IsPartOf st served (After n) = (e : Served) × (slice_get served n ≡ Some e) × Stands st e.node

-- the view of a node that was served is mounted, and the node's identifier stands in it
pub record IsServed (v : View) (views : List (Option Walk)) (e : Served) : Type 0 where
  pub view : Walk
  pub there : view_at views e.view ≡ Some view
  pub stands : Stands (state_of v view) e.node

-- each view that is mounted is a walk over the sources below, and each node that was served is one of its view
pub record IsSound (k : Stacking) : Type 0 where
  pub views : (i : ℕ) (m : Walk) → view_at k.views i ≡ Some m → IsWalkOf k.base m
  pub served : (n : ℕ) (e : Served) → slice_get k.served n ≡ Some e → IsServed k.base k.views e

-- the layers of a stack are sound, where the sources below mean this
abbrev pub AreSound : {S : Type 0} → (S → View) → Layers S → Type 0
AreSound view l = IsSound (stacking_in view l)

-- FILLS OF THE SOURCES BELOW

-- the documents of sources; a number that no source has stands for no trees
abbrev pub documents_of : View → Documents
documents_of v s = cond (nat_lt s v.count) (document v s) none

-- no step from a node of the document of these operators costs more than this
abbrev pub CostsAtMost : Documents → List Operator → ℕ → Type 0
CostsAtMost docs ops most = (p : List ℕ) → (down_toll docs ops p ≤ most) × (right_toll docs ops p ≤ most)

-- no step from a node of a view over these sources costs more than this, and no fill of one of them does
pub record Bounds (v : View) (plans : List (Option Plan)) (most : ℕ) : Type 0 where
  pub one : 1 ≤ most
  pub steps : (i : ℕ) (p : Plan) → get_or plans i None ≡ Some p → CostsAtMost (documents_of v) (plan_value p).ops most

-- each source that one of these plans names is told and forward
abbrev pub AreOpen : View → List (Option Plan) → Type 0
AreOpen v plans = (i : ℕ) (p : Plan) → get_or plans i None ≡ Some p
    → IsTrue (list_all (reads v.told) (plan_value p).ops) × IsTrue (list_all (reads v.forward) (plan_value p).ops)

-- the sources below were asked at most so many fills for each fill of the stack, or the count of these stands at its end
abbrev pub AsksEach : Stacking → Stacking → ℕ → Type 0
AsksEach old new most = (new.base.fills + most * old.fills ≤ old.base.fills + most * new.fills) ⊎ (2 ^ 64 - 1 ≤ new.fills)

-- a view that is mounted goes on as a walk of the same plan with the identifiers that it had, and one that is not stays so
abbrev pub ViewGoes : View → View → Option Walk → Option Walk → Type 0
ViewGoes v v' None r = r ≡ None
ViewGoes v v' (Some m) r = (m' : Walk) × (r ≡ Some m') × KeepsBench (state_of v m) (state_of v' m')

-- the sources below keep what every call keeps, each view goes on, and each node that was served keeps its number
pub record Goes (old new : Stacking) : Type 0 where
  pub base : Keeps old.base new.base
  pub count : length new.views ≡ length old.views
  pub views : (i : ℕ) → ViewGoes old.base new.base (view_at old.views i) (view_at new.views i)
  pub served : (n : ℕ) (e : Served) → slice_get old.served n ≡ Some e → slice_get new.served n ≡ Some e

-- what a fill leaves before it is counted, whatever it answers
pub record Moved {S : Type 0} (view : S → View) (came_from : S → S → Type 0) (old new : Layers S) : Type 0 where
  pub came : came_from old.base new.base
  pub goes : Goes (stacking_in view old) (stacking_in view new)
  pub sound : AreSound view new
  pub fills : new.fills ≡ old.fills
  pub lazy : (most : ℕ) → Bounds (view old.base) (plans_of old.views.items) most → AreOpen (view old.base) (plans_of old.views.items)
      → (view new.base).fills ≤ (view old.base).fills + most

-- from the old state came the new one: it did of the sources below, what every call keeps is kept, the plans are the same, and where all sources
-- that these name are told and forward, each fill of the stack asked at most as many below as the dearest step of a view costs, or one
pub record CameFrom {S : Type 0} (view : S → View) (came_from : S → S → Type 0) (old new : Layers S) : Type 0 where
  pub base : came_from old.base new.base
  pub kept : Keeps (view_of (stacking_in view old)) (view_of (stacking_in view new))
  pub plans : plans_of new.views.items ≡ plans_of old.views.items
  pub lazy : (most : ℕ) → Bounds (view old.base) (plans_of old.views.items) most → AreOpen (view old.base) (plans_of old.views.items)
      → AsksEach (stacking_in view old) (stacking_in view new) most

-- ONE VIEW

-- what a call of one walk leaves of it and of the sources below, whatever it answers
pub record Stepped {S : Type 0} (view : S → View) (came_from : S → S → Type 0) (s : S) (m : Walk) (s' : S) (m' : Walk) : Type 0 where
  pub came : came_from s s'
  pub walk : IsWalkOf (view s') m'
  pub kept : KeepsBench (state_of (view s) m) (state_of (view s') m')
  pub lazy : (most : ℕ) → CostsAtMost (documents_of (view s)) (plan_value (plan_of m)).ops most
      → IsTrue (list_all (reads (view s).told) (plan_value (plan_of m)).ops) → IsTrue (list_all (reads (view s).forward) (plan_value (plan_of m)).ops)
      → (view s').fills ≤ (view s).fills + most

-- a source that the operators read failed
abbrev pub SomeFailed : List Operator → View → View → Type 0
SomeFailed ops old new = (s : ℕ) × IsRead ops s × HasRisen (old.faults s) (new.faults s)

-- a call answers no node, and over told sources the part has no trees; or an identifier that stands, and over told sources for the first of them
abbrev pub GivesNode : BenchState → BenchState → List Served → Part → Option WalkedNode → Type 0
GivesNode old new served part r =
    MatchOption r (IsTrue (told old) → part_forest old served part ≡ none)
    (λ n. Stands new n × (IsTrue (told old) → part_forest old served part ≡ plain (here new n.site)))

-- a call answers no node, and over told sources the part has no trees; or an identifier that stands, with the label of the first of them
abbrev pub GivesFound : BenchState → BenchState → List Served → Part → Option Found → Type 0
GivesFound old new served part r =
    MatchOption r (IsTrue (told old) → part_forest old served part ≡ none)
    (λ f. Stands new f.node
    × (IsTrue (told old) → part_forest old served part ≡ tree f.label (plain (trees_below (here new f.node.site))) (plain (trees_after (here new f.node.site)))))

-- a node that is served as this number, with the hole below it and, where it isn't the root, the hole after it
abbrev pub given : List ℕ → ℕ → Part → Open
given label n Whole = node label (hole (hole_of (Below n)) nil) nil
given label n part = node label (hole (hole_of (Below n)) nil) (hole (hole_of (After n)) nil)

-- a list that answers the fill of a view's hole has no tree; or it has one node, with a hole below it and, where it isn't the root, a hole after it
abbrev pub IsOneStep : HoleId → Open → Type 0
IsOneStep h o = (o ≡ nil) ⊎ ((p : Part) × (part_of h ≡ Some p) × (label : List ℕ) × (n : ℕ) × (o ≡ given label n p))

-- the fill of a hole of the view of a number needs nothing of the sources below: it stands for the whole document, or the view is not mounted
abbrev pub NeedsNone : List (Option Walk) → ℕ → HoleId → Type 0
NeedsNone views i h = (part_of h ≡ Some Whole) ⊎ (view_at views i ≡ None)

-- a hole stands for this part, which the view of a number has; or there is none, and that view doesn't know the hole
abbrev pub IsKnownPart : List Served → ℕ → HoleId → Option Part → Type 0
IsKnownPart served i h None = knows served i h ≡ false
IsKnownPart served i h (Some p) = (part_of h ≡ Some p) × (has_part served i p ≡ true)
