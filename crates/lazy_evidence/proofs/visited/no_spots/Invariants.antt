use Rattle.std.proofs.Common.{◌≡◌, None, replicate}
use Rattle.lazy_evidence.proofs.visited.no_spots.Given as goal

abbrev pub invariant-loop : goal.invariant-loop
invariant-loop l = l.spots.items ≡ replicate l.counter None
