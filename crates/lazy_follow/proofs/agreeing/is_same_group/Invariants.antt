use Rattle.std.proofs.Common.{◌≡◌, ℕ, List, IsTrue, drop}
use Rattle.std.specs.List.{list_all}
use Rattle.lazy_plan.specs.Bench.{documents, told}
use Rattle.lazy_follow.specs.Spotted.{IsSpotted, nodes_of, InEach}
use Rattle.lazy_follow.proofs.Agreements.{agree}
use Rattle.lazy_follow.proofs.agreeing.is_same_group.Given as goal

abbrev pub invariant-loop-key : goal.invariant-loop-key
invariant-loop-key l = (places others : List (List ℕ)) → InEach l.bench (λ st. IsSpotted st places l.here → IsSpotted st others l.there → IsTrue (told st)
    → list_all (agree (documents st) (nodes_of st places l.here) (nodes_of st others l.there)) l.fn.keys
    ≡ list_all (agree (documents st) (nodes_of st places l.here) (nodes_of st others l.there)) (drop l.key-index l.keys))
