use Rattle.std.proofs.Common.{◌≡◌, take}
use Rattle.plain_rule.proofs.matching.with_label.Given as goal

abbrev pub invariant-loop-l : goal.invariant-loop-l
invariant-loop-l l = l.longer.items ≡ take l.l-index l.labels
