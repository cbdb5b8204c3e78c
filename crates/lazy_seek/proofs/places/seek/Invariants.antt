use Rattle.std.proofs.Common.{◌≡◌, take}
use Rattle.std.specs.Prelude.{IsTrue}
use Rattle.lazy_binding.specs.World.{place_in}
use Rattle.lazy_plan.specs.Bench.{state_of, told, IsSpotAt}
use Rattle.lazy_seek.specs.Reach.{reach}
use Rattle.lazy_seek.specs.Seeks.{Sought, HasNone}
use Rattle.lazy_seek.proofs.places.seek.Given as goal

abbrev pub invariant-loop-index : goal.invariant-loop-index
invariant-loop-index g l = record {
  sought : Sought g.S.Sources.view g.S.Sources.came_from (reach (take l.index-index l.steps)) l.fn.s l.fn.bench l.s l.bench;
  spot : IsSpotAt (state_of (g.S.Sources.view l.s) l.bench) l.top.source l.spot;
  place_is : place_in (state_of (g.S.Sources.view l.s) l.bench).world l.top.source l.spot ≡ take l.index-index l.steps;
  there : IsTrue (told (state_of (g.S.Sources.view l.fn.s) l.fn.bench)) → HasNone (state_of (g.S.Sources.view l.fn.s) l.fn.bench) l.top.source (take l.index-index l.steps) → ⊥;
}
