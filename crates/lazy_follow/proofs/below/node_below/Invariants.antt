use Rattle.std.proofs.Common.{◌≡◌, ◌++◌, take}
use Rattle.lazy_binding.specs.World.{place_in}
use Rattle.lazy_plan.specs.Bench.{state_of, IsSpotAt}
use Rattle.lazy_seek.specs.Reach.{reach}
use Rattle.lazy_seek.specs.Seeks.{Sought}
use Rattle.lazy_seek.proofs.Matching.{IsOnWay}
use Rattle.lazy_follow.proofs.below.node_below.Given as goal

abbrev pub invariant-loop-index : goal.invariant-loop-index
invariant-loop-index g l =
    let old = state_of (g.S.Sources.view l.fn.s) l.fn.bench in
    let start = place_in old.world l.from.source l.from.spot in
    record {
      sought : Sought g.S.Sources.view g.S.Sources.came_from (reach (take l.index-index l.steps)) l.fn.s l.fn.bench l.s l.bench;
      spot : IsSpotAt (state_of (g.S.Sources.view l.s) l.bench) l.from.source l.spot;
      place_is : place_in (state_of (g.S.Sources.view l.s) l.bench).world l.from.source l.spot ≡ start ++ take l.index-index l.steps;
      there : IsOnWay old l.from.source start (take l.index-index l.steps);
    }
