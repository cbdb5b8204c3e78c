-- Places below a source's node.
use Rattle.std.specs.Prelude.{◌≡◌, ◌++◌, ℕ, true, IsTrue, List, Option, MatchOption}
use Rattle.mix_tree.specs.Forest.{none, tree}
use Rattle.mix_tree.specs.Nodes.{Documents, Node, label_at, kids_at}
use Rattle.mix_tree.specs.Place.{has_place}
use Rattle.tree_buffer.specs.declared.spot.Spot.{Spot}
use Rattle.lazy_binding.specs.World.{place_in}
use Rattle.lazy_plan.specs.Bench.{BenchState, documents, told, node_at, IsSpotAt}
use Rattle.lazy_seek.specs.declared.places.NodeAt.{NodeAt}

-- a place below a node is there; the empty one is the node's own
abbrev pub IsBelowNode : Documents → Node → List ℕ → Type 0
IsBelowNode docs n p = has_place (tree (label_at docs n) (kids_at docs n) none) p ≡ true

-- a spot stands for a place below a node, which is there
pub record StandsBelow (old new : BenchState) (from : NodeAt) (p : List ℕ) (x : Spot) : Type 0 where
  pub spot : IsSpotAt new from.source x
  pub place_is : place_in new.world from.source x ≡ place_in old.world from.source from.spot ++ p
  pub there : IsTrue (told old) → IsBelowNode (documents old) (node_at old from.source from.spot) p

-- over told sources there is no such place below a node, or the spot stands for it
abbrev pub GivesBelow : BenchState → BenchState → NodeAt → List ℕ → Option Spot → Type 0
GivesBelow old new from p r = MatchOption r (IsTrue (told old) → IsBelowNode (documents old) (node_at old from.source from.spot) p → ⊥) (StandsBelow old new from p)
