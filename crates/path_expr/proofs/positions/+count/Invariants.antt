use Rattle.std.proofs.Common.{◌≡◌, ◌+◌, ◌*◌, ◌≤◌, drop}
use Rattle.path_expr.specs.Form.{positions_of, paths_of}
use Rattle.path_expr.specs.Count.{count}
use Rattle.path_expr.specs.Size.{size_of, form_size}
use Rattle.path_expr.proofs.positions.+count.Given as goal

abbrev pub decreases-count_positions : goal.decreases-count_positions
decreases-count_positions l = 2 * form_size l.path.now

abbrev pub decreases-count_all : goal.decreases-count_all
decreases-count_all l = 2 * size_of (paths_of l.paths.now) + 1

abbrev pub invariant-count_all-loop-path : goal.invariant-count_all-loop-path
invariant-count_all-loop-path l = record {
  positions : l.count + positions_of (paths_of (drop l.path-index l.paths)) ≡ positions_of (paths_of l.fn.paths);
  listed : l.count + count (paths_of (drop l.path-index l.paths)) ≡ count (paths_of l.fn.paths);
  size : size_of (paths_of (drop l.path-index l.paths)) ≤ size_of (paths_of l.fn.paths);
}
