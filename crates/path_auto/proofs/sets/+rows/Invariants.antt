use Rattle.std.proofs.Common.{◌+◌, ◌*◌}
use Rattle.path_expr.specs.Form.{paths_of}
use Rattle.path_expr.specs.Size.{size_of, form_size}
use Rattle.path_auto.proofs.sets.+rows.Given as goal

abbrev pub decreases-push_after : goal.decreases-push_after
decreases-push_after l = 2 * form_size l.path.now

abbrev pub decreases-push_after_turn : goal.decreases-push_after_turn
decreases-push_after_turn l = 2 * size_of (paths_of l.paths.now) + 1

abbrev pub decreases-push_after_one : goal.decreases-push_after_one
decreases-push_after_one l = 2 * size_of (paths_of l.paths.now) + 1
