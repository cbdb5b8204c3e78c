use Rattle.lazy_site.specs.Levels.{lists_in}
use Rattle.lazy_walk.proofs.naming.+push_last.Given as goal

abbrev pub decreases-push_last : goal.decreases-push_last
decreases-push_last l = lists_in l.rest.now.value
