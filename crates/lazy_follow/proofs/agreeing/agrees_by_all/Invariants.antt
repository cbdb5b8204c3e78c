use Rattle.std.proofs.Common.{◌≡◌, ℕ, List, IsTrue, drop}
use Rattle.std.specs.List.{list_all}
use Rattle.plan_core.specs.TolledRows.{row_node}
use Rattle.lazy_plan.specs.Bench.{documents, told, IsCursor, binding_at}
use Rattle.lazy_follow.specs.Spotted.{IsSpotted, nodes_of, InEach}
use Rattle.lazy_follow.proofs.Agreements.{agree}
use Rattle.lazy_follow.proofs.agreeing.agrees_by_all.Given as goal

abbrev pub invariant-loop-key : goal.invariant-loop-key
invariant-loop-key l = (places : List (List ℕ)) → InEach l.bench (λ st. IsSpotted st places l.evidence → IsCursor st l.evidence.op l.c → IsTrue (told st)
    → list_all (agree (documents st) (nodes_of st places l.evidence) (row_node (binding_at st l.evidence.op l.c))) l.fn.keys
    ≡ list_all (agree (documents st) (nodes_of st places l.evidence) (row_node (binding_at st l.evidence.op l.c))) (drop l.key-index l.keys))
