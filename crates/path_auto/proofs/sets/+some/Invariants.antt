use Rattle.std.proofs.Common.{◌+◌, ◌*◌}
use Rattle.path_expr.specs.Form.{paths_of}
use Rattle.path_expr.specs.Size.{size_of, form_size}
use Rattle.path_auto.proofs.sets.+some.Given as goal

abbrev pub decreases-some_path : goal.decreases-some_path
decreases-some_path l = 2 * form_size l.path.now

abbrev pub decreases-some_turn : goal.decreases-some_turn
decreases-some_turn l = 2 * size_of (paths_of l.paths.now) + 1

abbrev pub decreases-some_one : goal.decreases-some_one
decreases-some_one l = 2 * size_of (paths_of l.paths.now) + 1
