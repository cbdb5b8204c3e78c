use Rattle.lazy_site.specs.Ways.{foot_op}
use Rattle.lazy_site.proofs.ways.+descend.Given as goal

abbrev pub decreases-descend : goal.decreases-descend
decreases-descend l = foot_op l.way.now.value
