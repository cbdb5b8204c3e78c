use Rattle.std.proofs.Common.{◌≡◌, ◌++◌, map, drop}
use Rattle.xmas_read.specs.Tree.{conds_vars}
use Rattle.xmas_read.proofs.vars.push_conds.Given as goal

abbrev pub invariant-loop-cond : goal.invariant-loop-cond
invariant-loop-cond l = map (λ v. v.now) l.vars.items ++ conds_vars (drop l.cond-index l.conds) ≡ map (λ v. v.now) l.fn.vars.items ++ conds_vars l.conds
