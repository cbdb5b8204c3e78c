use Rattle.std.proofs.Common.{◌≡◌}
use Rattle.std.specs.Int.RustNames.{bit_or}
use Rattle.path_auto.specs.Sets.{step_from}
use Rattle.path_auto.proofs.auto.step_table.Given as goal

abbrev pub invariant-loop-rest : goal.invariant-loop-rest
invariant-loop-rest l = bit_or l.found (step_from l.labels l.after 0 l.rest l.label) ≡ step_from l.labels l.after 0 l.states l.label

abbrev pub decreases-loop-rest : goal.decreases-loop-rest
decreases-loop-rest l = l.rest
