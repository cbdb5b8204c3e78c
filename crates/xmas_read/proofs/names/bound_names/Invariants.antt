use Rattle.std.proofs.Common.{◌≡◌, ◌++◌, drop}
use Rattle.xmas_read.specs.Tree.{bound_names}
use Rattle.xmas_read.proofs.names.bound_names.Given as goal

abbrev pub invariant-loop-cond : goal.invariant-loop-cond
invariant-loop-cond l = l.names.items ++ bound_names (drop l.cond-index l.conds) ≡ bound_names l.conds
