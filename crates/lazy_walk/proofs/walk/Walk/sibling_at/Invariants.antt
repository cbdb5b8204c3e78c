use Rattle.std.proofs.Common.{◌≡◌, ◌≤◌, ◌+◌, ◌++◌, ◌∷◌, [], ℕ, List}
use Rattle.std.specs.Prelude.{IsTrue}
use Rattle.lazy_plan.specs.Bench.{told}
use Rattle.lazy_walk.specs.Walks.{state_of, node_height, HasWalked}
use Rattle.lazy_walk.specs.Places.{IsNode, IsAt, HasPlace}
use Rattle.lazy_walk.proofs.OnWay.{OnWay}
use Rattle.lazy_walk.proofs.walk.Walk.sibling_at.Given as goal

abbrev pub invariant-loop-step : goal.invariant-loop-step
invariant-loop-step g l =
    let old = state_of (g.S.Sources.view l.fn.s) l.fn.self in
    let now = state_of (g.S.Sources.view l.s) l.self in
    record {
      walked : HasWalked g.S.Sources.view g.S.Sources.came_from l.fn.s l.fn.self l.s l.self;
      node : IsNode now l.node;
      height : node_height now l.node ≤ node_height old l.fn.first;
      way : IsTrue (told old) → (q : List ℕ) (i : ℕ) → IsAt old l.fn.first (q ++ i ∷ []) → HasPlace old (q ++ (i + l.fn.more) ∷ [])
          → (on : OnWay old now l.node q i l.fn.more) × (on.index ≡ i + l._step);
    }
