-- The blanks for the lists so far.
use Rattle.std.proofs.Common.{◌≡◌}
use Rattle.list_costs.specs.Words.{indent}
use Rattle.list_costs.proofs.words.indent.Given as goal

abbrev pub invariant-loop-around : goal.invariant-loop-around
invariant-loop-around l = l.blanks.items ≡ indent l.around
