-- Members of groups by their evidence.
use Rattle.std.specs.Prelude.{◌≡◌, ◌<◌, ℕ, IsTrue, List, Option, MatchOption, length}
use Rattle.plan_core.specs.ByNumber.{op_at}
use Rattle.plan_core.specs.Valid.{kinds, AreNodes}
use Rattle.plan_forms.specs.Forms.{input_at, keys_of}
use Rattle.lazy_plan.specs.Bench.{BenchState, ops_of, documents, told}
use Rattle.lazy_follow.specs.declared.evidence.Evidence.{Evidence}
use Rattle.lazy_follow.specs.declared.members.Group.{Group}
use Rattle.lazy_follow.specs.Following.{IsMet}
use Rattle.lazy_follow.specs.Spotted.{IsSpotted}

-- a group of groupBy op in a binding, by evidence of that binding: the operators of both bind its keys' variables to nodes
pub record IsGroup (st : BenchState) (places : List (List ℕ)) (g : Group) : Type 0 where
  pub here : IsSpotted st places g.here.now
  pub within : g.op < length (ops_of st)
  pub low : input_at (ops_of st) g.op < g.op
  pub nodes_here : AreNodes (keys_of (op_at (ops_of st) g.op)) (kinds (ops_of st) g.here.now.op)
  pub nodes_there : AreNodes (keys_of (op_at (ops_of st) g.op)) (kinds (ops_of st) (input_at (ops_of st) g.op))

-- the places of a member are right evidence of the groupBy's input, and agree by its keys with those by which the binding at hand was reached
abbrev pub IsMemberOf : BenchState → List (List ℕ) → Group → List (List ℕ) → Type 0
IsMemberOf st places g tuple =
    IsMet (documents st) (ops_of st) (keys_of (op_at (ops_of st) g.op)) (record { op = g.here.now.op; places = places }) (record { op = input_at (ops_of st) g.op; places = tuple })

-- over told sources the places are those of a member exactly where evidence is given
abbrev pub GivesMember : BenchState → List (List ℕ) → Group → List (List ℕ) → Option Evidence → Type 0
GivesMember st places g tuple r = IsTrue (told st) → MatchOption r (IsMemberOf st places g tuple → ⊥) (λ e. IsMemberOf st places g tuple)

-- evidence of a binding of the input of groupBy op by these places
abbrev pub IsEvidenceAt : BenchState → ℕ → List (List ℕ) → Evidence → Type 0
IsEvidenceAt st op places e = (e.op ≡ input_at (ops_of st) op) × IsSpotted st places e
