use Rattle.std.proofs.Common.{◌≡◌, ◌+◌, drop}
use Rattle.xmas_read.specs.Value.{place_in}
use Rattle.xmas_read.proofs.names.place_in.Given as goal

abbrev pub invariant-loop-i : goal.invariant-loop-i
invariant-loop-i l = l.i + place_in (drop l.i l.names) l.name ≡ place_in l.names l.name
