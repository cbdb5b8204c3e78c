-- What calls leave of walks that they don't take, and what identifiers stand for.
use Rattle.std.specs.Prelude.{◌≡◌, ℕ, IsTrue, List, Some}
use Rattle.mix_tree.specs.Forest.{LabelledTree, alone}
use Rattle.mix_tree.specs.Place.{trees_at}
use Rattle.lxp_core.specs.View.{View, Keeps}
use Rattle.plan_core.specs.PlanMade.{plan_value}
use Rattle.plan_core.specs.Tolled.{plain}
use Rattle.plan_core.specs.Valid.{IsValid}
use Rattle.lazy_plan.specs.Bench.{BenchState, KeepsBench, told}
use Rattle.lazy_walk.specs.declared.ids.WalkedNode.{WalkedNode}
use Rattle.lazy_walk.specs.declared.walk.Walk.{Walk}
use Rattle.lazy_site.specs.Ids.{here}
use Rattle.lazy_walk.specs.Walks.{state_of, IsWalkOf}
use Rattle.lazy_walk.specs.Places.{IsNode, IsAt, plan_document}

-- a walk that calls of its sources don't take: what these mean is its sources still, and what every call keeps of it is kept
pub record IsKept (v v' : View) (m : Walk) : Type 0 where
  pub walk : IsWalkOf v' m
  pub kept : KeepsBench (state_of v m) (state_of v' m)

-- where sources keep what every call keeps, each walk over them that no call takes stays one over them
abbrev pub KeepsWalks : Type 0
KeepsWalks = (v v' : View) (m : Walk) → IsWalkOf v m → Keeps v v' → IsKept v v' m

-- whatever calls leave, each earlier identifier stands for the same tree, with the same trees after it
abbrev pub TreesStay : Type 0
TreesStay = (old new : BenchState) → KeepsBench old new → (n : WalkedNode) → IsNode old n → here new n.site ≡ here old n.site

-- over told sources an identifier stands for the tree at its place of the plan's document, and for the trees after that
abbrev pub TreesAreThere : Type 0
TreesAreThere =
    (st : BenchState) → IsValid (plan_value st.plan) → IsTrue (told st) → (t : LabelledTree) → plan_document st ≡ Some t → (n : WalkedNode) (p : List ℕ) → IsAt st n p
    → plain (here st n.site) ≡ trees_at (alone t) p
