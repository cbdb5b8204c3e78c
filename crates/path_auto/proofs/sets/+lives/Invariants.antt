use Rattle.std.proofs.Common.{◌+◌, ◌*◌}
use Rattle.path_expr.specs.Form.{paths_of}
use Rattle.path_expr.specs.Size.{size_of, form_size}
use Rattle.path_auto.proofs.sets.+lives.Given as goal

abbrev pub decreases-push_lives : goal.decreases-push_lives
decreases-push_lives l = 2 * form_size l.path.now

abbrev pub decreases-push_lives_turn : goal.decreases-push_lives_turn
decreases-push_lives_turn l = 2 * size_of (paths_of l.paths.now) + 1

abbrev pub decreases-push_lives_one : goal.decreases-push_lives_one
decreases-push_lives_one l = 2 * size_of (paths_of l.paths.now) + 1
