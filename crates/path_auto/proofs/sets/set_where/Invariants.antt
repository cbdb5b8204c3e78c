use Rattle.std.proofs.Common.{◌≡◌, drop}
use Rattle.std.specs.Int.RustNames.{bit_or}
use Rattle.path_auto.specs.Sets.{set_of}
use Rattle.path_auto.proofs.sets.set_where.Given as goal

abbrev pub invariant-loop-at : goal.invariant-loop-at
invariant-loop-at l = bit_or l.set (set_of (drop l.at l.lives) l.at) ≡ set_of l.lives 0
