use Rattle.std.proofs.Common.{◌≡◌, drop}
use Rattle.std.specs.Prelude.{◌==◌}
use Rattle.std.specs.List.{list_any}
use Rattle.lazy_binding.proofs.variable_spots.is_among.Given as goal

abbrev pub invariant-loop-u : goal.invariant-loop-u
invariant-loop-u l = list_any (λ u. u == l.v) (drop l.u-index l.vars) ≡ list_any (λ u. u == l.fn.v) l.fn.vars
