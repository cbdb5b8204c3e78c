use Rattle.std.proofs.Common.{◌+◌, ◌*◌}
use Rattle.path_expr.specs.Form.{paths_of}
use Rattle.path_expr.specs.Size.{size_of, form_size}
use Rattle.path_auto.proofs.sets.+tests.Given as goal

abbrev pub decreases-push_labels : goal.decreases-push_labels
decreases-push_labels l = 2 * form_size l.path.now

abbrev pub decreases-push_all_labels : goal.decreases-push_all_labels
decreases-push_all_labels l = 2 * size_of (paths_of l.paths.now) + 1
