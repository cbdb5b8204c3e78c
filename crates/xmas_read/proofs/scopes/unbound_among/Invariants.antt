use Rattle.std.proofs.Common.{◌≡◌, map, drop}
use Rattle.xmas_read.specs.Refusals.{first_in, unbound_vars}
use Rattle.xmas_read.proofs.scopes.unbound_among.Given as goal

abbrev pub invariant-loop-var : goal.invariant-loop-var
invariant-loop-var l = first_in (unbound_vars l.names (map (λ v. v.now) (drop l.var-index l.vars))) ≡ first_in (unbound_vars l.names (map (λ v. v.now) l.vars))
