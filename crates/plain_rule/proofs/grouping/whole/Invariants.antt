use Rattle.std.proofs.Common.{◌≡◌, take}
use Rattle.plain_rule.proofs.grouping.whole.Given as goal

abbrev pub invariant-loop-binding : goal.invariant-loop-binding
invariant-loop-binding l = l.copies.items ≡ take l.binding-index l.bindings
