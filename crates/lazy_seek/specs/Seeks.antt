-- What a walk to a place comes to.
use Rattle.std.specs.Prelude.{◌≡◌, ℕ, IsTrue, List, [], Option, MatchOption}
use Rattle.mix_tree.specs.Forest.{none, tree}
use Rattle.mix_tree.specs.Nodes.{Node, node_trees}
use Rattle.path_expr.specs.Form.{Form}
use Rattle.path_expr.specs.Matches.{LeadsTo}
use Rattle.lxp_core.specs.View.{View}
use Rattle.tree_buffer.specs.declared.spot.Spot.{Spot}
use Rattle.lazy_binding.specs.World.{place_in}
use Rattle.lazy_plan.specs.declared.bench.Bench.{Bench}
use Rattle.lazy_plan.specs.Bench.{BenchState, state_of, documents, told, IsSpotAt, BenchRan, AsksAtMost}

-- what a call leaves that asks at most so many fills
pub record Sought {S : Type 0} (view : S → View) (came_from : S → S → Type 0) (most : ℕ) (s : S) (b : Bench) (s' : S) (b' : Bench) : Type 0 where
  pub ran : BenchRan view came_from s b s' b'
  pub asks : AsksAtMost (state_of (view s) b) (state_of (view s') b') most

-- a node of a source
abbrev pub node_in : ℕ → List ℕ → Node
node_in source place = record { source = source; place = place }

-- the document of a source has no such place
abbrev pub HasNone : BenchState → ℕ → List ℕ → Type 0
HasNone st source place = node_trees (documents st) (node_in source place) ≡ none

-- a spot stands for a place, which the document has
pub record StandsAt (old new : BenchState) (source : ℕ) (place : List ℕ) (x : Spot) : Type 0 where
  pub spot : IsSpotAt new source x
  pub place_is : place_in new.world source x ≡ place
  pub there : IsTrue (told old) → HasNone old source place → ⊥

-- over told sources there is no such place, or the spot stands for it
abbrev pub GivesPlace : BenchState → BenchState → ℕ → List ℕ → Option Spot → Type 0
GivesPlace old new source place r = MatchOption r (IsTrue (told old) → HasNone old source place) (StandsAt old new source place)

-- over told sources a path leads from one place of a source's document to another
abbrev pub LeadsBy : BenchState → Form → ℕ → List ℕ → List ℕ → Type 0
LeadsBy st path source start place = LeadsTo path (tree [] (documents st source) none) start place

-- over told sources the path leads there exactly where a spot is given
abbrev pub GivesMatch : BenchState → Form → ℕ → List ℕ → List ℕ → Option Spot → Type 0
GivesMatch old path source start place r =
    IsTrue (told old) → MatchOption r (LeadsBy old path source start place → ⊥) (λ x. LeadsBy old path source start place)
