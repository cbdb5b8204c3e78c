use Rattle.std.proofs.Common.{◌+◌, ◌*◌}
use Rattle.path_expr.specs.Form.{paths_of}
use Rattle.path_expr.specs.Size.{size_of, form_size}
use Rattle.path_auto.proofs.sets.+entry.Given as goal

abbrev pub decreases-entry_path : goal.decreases-entry_path
decreases-entry_path l = 2 * form_size l.path.now

abbrev pub decreases-entry_turn : goal.decreases-entry_turn
decreases-entry_turn l = 2 * size_of (paths_of l.paths.now) + 1

abbrev pub decreases-entry_one : goal.decreases-entry_one
decreases-entry_one l = 2 * size_of (paths_of l.paths.now) + 1
