use Rattle.std.proofs.Common.{◌≡◌, [], drop}
use Rattle.xmas_read.specs.Refusals.{first_in, unbound_in}
use Rattle.xmas_read.proofs.scopes.unbound_cond.Given as goal

abbrev pub invariant-loop-cond : goal.invariant-loop-cond
invariant-loop-cond l = first_in (unbound_in l.names l.earlier.items (drop l.cond-index l.conds)) ≡ first_in (unbound_in l.names [] l.conds)
