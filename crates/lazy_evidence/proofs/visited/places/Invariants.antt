use Rattle.std.proofs.Common.{◌≡◌, ◌++◌, drop}
use Rattle.lazy_evidence.specs.Noted.{places_there, AreSpots}
use Rattle.lazy_evidence.proofs.visited.places.Given as goal

abbrev pub invariant-loop-spot : goal.invariant-loop-spot
invariant-loop-spot l = record {
  known : AreSpots l.buffers (drop l.spot-index l.spots);
  places : l.places.items ++ places_there l.buffers (drop l.spot-index l.spots) ≡ places_there l.fn.buffers l.fn.spots;
}
