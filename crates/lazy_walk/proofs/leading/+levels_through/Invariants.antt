use Rattle.lazy_site.specs.Levels.{lists_in}
use Rattle.lazy_walk.proofs.leading.+levels_through.Given as goal

abbrev pub decreases-levels_through : goal.decreases-levels_through
decreases-levels_through l = lists_in l.rest.now.value
