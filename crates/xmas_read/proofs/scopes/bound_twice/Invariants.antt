use Rattle.std.proofs.Common.{◌≡◌, [], drop}
use Rattle.xmas_read.specs.Refusals.{first_in, bound_again}
use Rattle.xmas_read.proofs.scopes.bound_twice.Given as goal

abbrev pub invariant-loop-cond : goal.invariant-loop-cond
invariant-loop-cond l = first_in (bound_again l.earlier.items (drop l.cond-index l.conds)) ≡ first_in (bound_again [] l.conds)
