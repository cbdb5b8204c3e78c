use Rattle.std.proofs.Common.{◌≡◌, drop}
use Rattle.mix_tree.specs.Keys.{has_var}
use Rattle.plan_forms.proofs.variables.names_var.Given as goal

abbrev pub invariant-loop-key : goal.invariant-loop-key
invariant-loop-key l = has_var (drop l.key-index l.keys) l.v ≡ has_var l.fn.keys l.fn.v
