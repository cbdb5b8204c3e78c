use Rattle.std.proofs.Common.{◌≡◌, drop}
use Rattle.xmas_rule.specs.Bindings.{node_of}
use Rattle.plain_rule.proofs.binding.node_among.Given as goal

abbrev pub invariant-loop-entry : goal.invariant-loop-entry
invariant-loop-entry l = node_of (drop l.entry-index l.entries) l.var ≡ node_of l.entries l.var
