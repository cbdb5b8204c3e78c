use Rattle.std.proofs.Common.{◌≤◌}
use Rattle.std.specs.Prelude.{IsTrue}
use Rattle.lazy_plan.specs.Bench.{told}
use Rattle.lazy_walk.specs.Walks.{state_of, node_height, node_left, HasWalked}
use Rattle.lazy_walk.specs.Places.{IsNode}
use Rattle.lazy_walk.proofs.Searching.{SiblingWay}
use Rattle.lazy_walk.proofs.walk.Walk.sibling_led.Given as goal

abbrev pub invariant-siblings : goal.invariant-siblings
invariant-siblings g l =
    let view = g.S.Sources.view in
    let old = state_of (view l.fn.s) l.fn.self in
    let now = state_of (view l.s) l.self in
    record {
      walked : HasWalked view g.S.Sources.came_from l.fn.s l.fn.self l.s l.self;
      node : IsNode now l.node;
      height : node_height now l.node ≤ node_height old l.fn.first;
      way : IsTrue (told old) → SiblingWay old now l.fn.first l.node l.fn.ahead;
    }

abbrev pub decreases-siblings : goal.decreases-siblings
decreases-siblings g l = node_left (state_of (g.S.Sources.view l.s) l.self) l.node
