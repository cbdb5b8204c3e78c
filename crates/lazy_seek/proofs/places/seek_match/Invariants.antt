use Rattle.std.proofs.Common.{◌≡◌, ◌++◌, take}
use Rattle.path_expr.specs.Form.{Form}
use Rattle.path_auto.specs.Automaton.{table_of}
use Rattle.lazy_binding.specs.World.{place_in}
use Rattle.lazy_plan.specs.Bench.{state_of, ops_of, IsSpotAt, IsVisitAlong}
use Rattle.lazy_seek.specs.Reach.{reach}
use Rattle.lazy_seek.specs.Seeks.{Sought}
use Rattle.lazy_seek.proofs.Matching.{IsAtStates, IsOnWay}
use Rattle.lazy_seek.proofs.places.seek_match.Given as goal

abbrev pub invariant-loop-index : goal.invariant-loop-index
invariant-loop-index g l =
    let old = state_of (g.S.Sources.view l.fn.s) l.fn.bench in
    let from = place_in old.world l.start.source l.start.spot in
    record {
      sought : Sought g.S.Sources.view g.S.Sources.came_from (reach (take l.index-index l.way.steps.now)) l.fn.s l.fn.bench l.s l.bench;
      spot : IsSpotAt (state_of (g.S.Sources.view l.s) l.bench) l.start.source l.spot;
      place_is : place_in (state_of (g.S.Sources.view l.s) l.bench).world l.start.source l.spot ≡ from ++ take l.index-index l.way.steps.now;
      there : IsOnWay old l.start.source from (take l.index-index l.way.steps.now);
      states : (path : Form) → IsVisitAlong (ops_of old) l.way.op path → IsAtStates old l.start.source from (take l.index-index l.way.steps.now) (table_of path) l.states;
    }
