use Rattle.std.proofs.Common.{length}
use Rattle.lazy_walk.specs.Above.{rests}
use Rattle.lazy_walk.proofs.naming.+levels_to.Given as goal

abbrev pub decreases-levels_to : goal.decreases-levels_to
decreases-levels_to l = length (rests l.above.now.value)
