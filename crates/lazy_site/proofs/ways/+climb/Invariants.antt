use Rattle.lazy_site.specs.Ways.{steps_up}
use Rattle.lazy_site.proofs.ways.+climb.Given as goal

abbrev pub decreases-climb : goal.decreases-climb
decreases-climb l = steps_up l.way.now.value
