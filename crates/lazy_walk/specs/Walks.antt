-- What a walk stands for: all that callers speak of.
use Rattle.std.specs.Prelude.{◌≡◌, ◌≤◌, ◌<◌, ℕ, IsTrue, List, Option, Some, MatchOption, Result, IfOk}
use Rattle.mix_tree.specs.Forest.{LabelledTree}
use Rattle.mix_tree.specs.Nodes.{Documents}
use Rattle.lxp_core.specs.View.{View}
use Rattle.plan_core.specs.declared.plan.Plan.{Plan}
use Rattle.plan_core.specs.Plans.{PlanValue, document}
use Rattle.plan_core.specs.Events.{visited}
use Rattle.plan_core.specs.Valid.{IsValid}
use Rattle.lazy_plan.specs.Bench.{BenchState, IsBenchOf, KeepsBench, told}
use Rattle.lazy_plan.specs.Bench as bench
use Rattle.lxp_core.specs.declared.fault.WalkFault.{WalkFault}
use Rattle.lazy_site.specs.Ids as ids
use Rattle.lazy_site.specs.Heights as heights
use Rattle.lazy_walk.specs.Places.{IsNode, IsAt, IsLabelAt, GivesPlace}
use Rattle.lazy_walk.specs.declared.ids.WalkedNode.{WalkedNode}
use Rattle.lazy_walk.specs.declared.walk.Walk.{Walk}

-- the state of a walk whose sources mean this
abbrev pub state_of : View → Walk → BenchState
state_of v m = bench.state_of v m.bench

-- the plan of a walk
abbrev pub plan_of : Walk → Plan
plan_of m = bench.plan_of m.bench

-- a walk is sound over sources that mean this
abbrev pub IsWalkOf : View → Walk → Type 0
IsWalkOf v m = IsBenchOf v m.bench

-- a number of an identifier that no call raises, and that falls with each step to the right
abbrev pub node_left : BenchState → WalkedNode → ℕ
node_left st n = ids.site_left st n.site

-- fewer nodes than this are to the right of the node that was found, where one was
abbrev pub HasFewer : ℕ → BenchState → Option WalkedNode → Type 0
HasFewer w st r = MatchOption r (Unit {0}) (λ n. node_left st n < w)

-- a number of an identifier that no call raises, that falls with each step down, and that no step to the right raises
abbrev pub node_height : BenchState → WalkedNode → ℕ
node_height st n = heights.site_height st n.site

-- the height of the node that was found, where one was, is below this
abbrev pub HasLower : ℕ → BenchState → Option WalkedNode → Type 0
HasLower height st r = MatchOption r (Unit {0}) (λ n. node_height st n < height)

-- the height of the node that was found, where one was, is not above this
abbrev pub HasNoHigher : ℕ → BenchState → Option WalkedNode → Type 0
HasNoHigher height st r = MatchOption r (Unit {0}) (λ n. node_height st n ≤ height)

-- no earlier identifier stands higher than it stood
abbrev pub KeepsHeights : BenchState → BenchState → Type 0
KeepsHeights old new = (n : WalkedNode) → IsNode old n → node_height new n ≤ node_height old n

-- where an identifier stands at place p, a call answers the node at another place, or that there is none
abbrev pub LeadsTo : BenchState → BenchState → WalkedNode → List ℕ → Option (List ℕ) → Result (Option WalkedNode) WalkFault → Type 0
LeadsTo old new n p goal result = IsAt old n p → IfOk result (GivesPlace old new goal)

-- where the sources are told and an identifier stands at place p, this is the label of the node there
abbrev pub IsLabelOf : BenchState → WalkedNode → List ℕ → List ℕ → Type 0
IsLabelOf st n p label = IsAt st n p → IsTrue (told st) → IsLabelAt st p label

-- each earlier identifier stays one, at the place where it stood, and its number did not rise
pub record NodesStay (old new : BenchState) : Type 0 where
  pub node : (n : WalkedNode) → IsNode old n → IsNode new n
  pub place : (n : WalkedNode) (p : List ℕ) → IsAt old n p → IsAt new n p
  pub left : (n : WalkedNode) → IsNode old n → node_left new n ≤ node_left old n

-- what a call leaves, whatever it answers: each earlier identifier stays, and stands no higher
pub record HasWalked {S : Type 0} (view : S → View) (came_from : S → S → Type 0) (s : S) (m : Walk) (s' : S) (m' : Walk) : Type 0 where
  pub came : came_from s s'
  pub walk : IsWalkOf (view s') m'
  pub kept : KeepsBench (state_of (view s) m) (state_of (view s') m')
  pub nodes : NodesStay (state_of (view s) m) (state_of (view s') m')
  pub heights : KeepsHeights (state_of (view s) m) (state_of (view s') m')

-- whatever calls leave, each earlier identifier stays
abbrev pub IdentifiersStay : Type 0
IdentifiersStay = (old new : BenchState) → KeepsBench old new → NodesStay old new

-- over any source documents a valid plan has a document
abbrev pub HasDocuments : PlanValue → Type 0
HasDocuments p = IsValid p → (docs : Documents) → (t : LabelledTree) × (document (visited docs) p.ops ≡ Some t)
