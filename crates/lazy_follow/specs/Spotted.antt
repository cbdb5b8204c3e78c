-- Evidence by its spots, and the nodes for which it stands.
use Rattle.std.specs.Prelude.{◌≡◌, ◌<◌, ℕ, suc, List, length}
use Rattle.mix_tree.specs.Nodes.{Node}
use Rattle.lxp_core.specs.View.{View}
use Rattle.plan_evidence.specs.Evidence.{evidence_vars}
use Rattle.lazy_plan.specs.declared.bench.Bench.{Bench}
use Rattle.lazy_plan.specs.Bench.{BenchState, state_of, ops_of, IsBenchOf, IsSpotAt, node_at}
use Rattle.lazy_seek.specs.declared.places.NodeAt.{NodeAt}
use Rattle.lazy_seek.specs.Evidenced.{AreSpotsOf}
use Rattle.lazy_seek.specs.Given.{given}
use Rattle.lazy_follow.specs.declared.evidence.Evidence.{Evidence}

-- a property of each state that a bench may be in, whatever its sources mean
abbrev pub InEach : Bench → (BenchState → Type 0) → Type 0
InEach b P = (view : View) → IsBenchOf view b → P (state_of view b)

-- a property of a state that a bench may be in
abbrev pub InSome : Bench → (BenchState → Type 0) → Type 0
InSome b P = (view : View) × IsBenchOf view b × P (state_of view b)

-- the nodes that places give to the variables of evidence
abbrev pub nodes_of : BenchState → List (List ℕ) → Evidence → ℕ → Node
nodes_of st places e = given (ops_of st) e.op places

-- evidence of an operator of the plan other than the last: a spot for each of its variables, which stands for the node that these places give to it
pub record IsSpotted (st : BenchState) (places : List (List ℕ)) (e : Evidence) : Type 0 where
  pub within : suc e.op < length (ops_of st)
  pub vars : e.vars.items ≡ evidence_vars (ops_of st) e.op
  pub spots : AreSpotsOf st (nodes_of st places e) e.vars.items e.spots.items

-- a spot of a source stands for a node
pub record StandsFor (st : BenchState) (n : Node) (x : NodeAt) : Type 0 where
  pub spot : IsSpotAt st x.source x.spot
  pub node : node_at st x.source x.spot ≡ n
