-- The places of a plan's document at which identifiers stand.
use Rattle.std.specs.Prelude.{◌≡◌, ℕ, false, IsTrue, List, Option, Some, MatchOption}
use Rattle.std.specs.List.{AllByRecursion}
use Rattle.mix_tree.specs.Forest.{LabelledTree, alone}
use Rattle.mix_tree.specs.Place.{has_place, tree_at}
use Rattle.mix_tree.specs.Nodes.{Documents}
use Rattle.plan_core.specs.Plans.{Operator, document}
use Rattle.plan_core.specs.Tolled.{toll, trees_below, trees_after, paid, tolled_at}
use Rattle.plan_core.specs.Events.{visited, tolled_document}
use Rattle.lazy_plan.specs.Bench.{BenchState, ops_of, documents, told}
use Rattle.lazy_walk.specs.Above.{rests_above, top_above, HasTop, IsLedTo}
use Rattle.lazy_site.specs.Ids as ids
use Rattle.lazy_walk.specs.declared.ids.WalkedNode.{WalkedNode}

-- the document that the plan makes of the documents of the sources
abbrev pub plan_document : BenchState → Option LabelledTree
plan_document st = document (visited (documents st)) (ops_of st)

-- what it costs to come to the first child of the node at a place of the document, or to learn that it has none
abbrev pub down_toll : Documents → List Operator → List ℕ → ℕ
down_toll docs ops p = toll (trees_below (tolled_at (tolled_document docs ops) p))

-- what it costs to come to the next sibling of the node at a place of the document, or to learn that it has none
abbrev pub right_toll : Documents → List Operator → List ℕ → ℕ
right_toll docs ops p = toll (trees_after (tolled_at (tolled_document docs ops) p))

-- the plan's document has a node at this place
abbrev pub HasPlace : BenchState → List ℕ → Type 0
HasPlace st p = (t : LabelledTree) → plan_document st ≡ Some t → IsTrue (has_place (alone t) p)

-- the plan's document has no node at the place that is asked for, or no place is asked for
abbrev pub HasNoPlace : BenchState → Option (List ℕ) → Type 0
HasNoPlace st goal = (t : LabelledTree) → plan_document st ≡ Some t → (p : List ℕ) → goal ≡ Some p → has_place (alone t) p ≡ false

-- a label is that of the node at a place of the plan's document
abbrev pub IsLabelAt : BenchState → List ℕ → List ℕ → Type 0
IsLabelAt st p label = (t : LabelledTree) → plan_document st ≡ Some t → (u : LabelledTree) × (tree_at t p ≡ Some u) × (label ≡ u.label)

-- an identifier is one of the walk: so are the place at which it stands, and what is kept above it
pub record IsNode (st : BenchState) (n : WalkedNode) : Type 0 where
  pub site : ids.IsSite st n.site
  pub above : AllByRecursion (ids.IsRest st) (rests_above n.above)
  pub top : HasTop st n.site (top_above n.above)

-- an identifier stands at a place of the plan's document, where the sources are told: the tree there and those after it, with their tolls, are
-- those that the identifier stands for, and what is kept above it leads there
pub record IsAt (st : BenchState) (n : WalkedNode) (p : List ℕ) : Type 0 where
  pub node : IsNode st n
  pub place : IsTrue (told st) → HasPlace st p
  pub here : IsTrue (told st) → ids.here st n.site ≡ paid (tolled_at (tolled_document (documents st) (ops_of st)) p)
  pub above : IsTrue (told st) → IsLedTo st n.site (rests_above n.above) (top_above n.above) p

-- a call answers no node, or an identifier of the walk
abbrev pub GivesNode : BenchState → Option WalkedNode → Type 0
GivesNode st r = MatchOption r (Unit {0}) (IsNode st)

-- an identifier stands at the place that is asked for, where the plan's document has a node
pub record IsThere (old new : BenchState) (goal : Option (List ℕ)) (n : WalkedNode) : Type 0 where
  pub place : List ℕ
  pub asked : goal ≡ Some place
  pub has : HasPlace old place
  pub at : IsAt new n place

-- where the sources are told, a call answers no node exactly where the plan's document has none at the place that is asked for, and else an identifier that stands there
abbrev pub GivesPlace : BenchState → BenchState → Option (List ℕ) → Option WalkedNode → Type 0
GivesPlace old new goal r = IsTrue (told old) → MatchOption r (HasNoPlace old goal) (IsThere old new goal)
