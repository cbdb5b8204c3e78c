use Rattle.lazy_site.specs.Levels.{lists_in}
use Rattle.lazy_walk.proofs.naming.+push_pieces.Given as goal

abbrev pub decreases-push_pieces : goal.decreases-push_pieces
decreases-push_pieces l = lists_in l.rest.now.value
