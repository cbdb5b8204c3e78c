use Rattle.std.proofs.Common.{◌+◌, ◌*◌}
use Rattle.path_expr.specs.Form.{paths_of}
use Rattle.path_expr.specs.Size.{size_of, form_size}
use Rattle.browse_visit.proofs.samples.+names.Given as goal

abbrev pub decreases-push_names : goal.decreases-push_names
decreases-push_names l = 2 * form_size l.path.now

abbrev pub decreases-push_all_names : goal.decreases-push_all_names
decreases-push_all_names l = 2 * size_of (paths_of l.paths.now) + 1
