use Rattle.std.proofs.Common.{◌≡◌, ◌++◌}
use Rattle.lxp_memory.proofs.document.place.Given as goal

abbrev pub invariant-loop-kid : goal.invariant-loop-kid
invariant-loop-kid l = l.queue.items ≡ l.initial.queue.items ++ l.yielded
