-- Spots of evidence.
use Rattle.std.specs.Prelude.{◌≡◌, ◌+◌, ℕ, IsTrue, List, [], ◌∷◌, Option, MatchOption}
use Rattle.std.specs.declared.vec.Vec.{Vec}
use Rattle.std.specs.declared.alloc.Global.{Global}
use Rattle.mix_tree.specs.Nodes.{Node}
use Rattle.tree_buffer.specs.declared.spot.Spot.{Spot}
use Rattle.plan_evidence.specs.Evidence.{evidence_vars, IsEvidence}
use Rattle.lazy_plan.specs.Bench.{BenchState, ops_of, documents, told, node_at, IsSpotAt}
use Rattle.lazy_seek.specs.Given.{given}
use Rattle.lazy_seek.specs.Reach.{reach}

-- the reaches of places together
abbrev pub reaches : List (List ℕ) → ℕ
reaches [] = 0
reaches (p ∷ places) = reach p + reaches places

-- spots stand for the nodes of variables, one for each
abbrev pub AreSpotsOf : BenchState → (ℕ → Node) → List ℕ → List Spot → Type 0
AreSpotsOf st nodes [] [] = Unit {0}
AreSpotsOf st nodes [] (x ∷ xs) = ⊥
AreSpotsOf st nodes (v ∷ vs) [] = ⊥
AreSpotsOf st nodes (v ∷ vs) (x ∷ xs) = IsSpotAt st (nodes v).source x × (node_at st (nodes v).source x ≡ nodes v) × AreSpotsOf st nodes vs xs

-- spots stand for the nodes that places give to the variables of evidence of operator n: each at its place, in the source of its variable
abbrev pub AreSpotsGiven : BenchState → ℕ → List (List ℕ) → List Spot → Type 0
AreSpotsGiven st n places spots = AreSpotsOf st (given (ops_of st) n places) (evidence_vars (ops_of st) n) spots

-- over told sources the places aren't right evidence, or they are, and the spots stand for its nodes
abbrev pub GivesEvidence : BenchState → BenchState → ℕ → List (List ℕ) → Option (Vec Spot Global) → Type 0
GivesEvidence old new n places r =
    IsTrue (told old) → MatchOption r ((nodes : ℕ → Node) → IsEvidence (documents old) (ops_of old) n places nodes → ⊥)
    (λ spots. (nodes : ℕ → Node) × IsEvidence (documents old) (ops_of old) n places nodes
    × AreSpotsOf new nodes (evidence_vars (ops_of old) n) spots.items)
