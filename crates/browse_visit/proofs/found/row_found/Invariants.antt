use Rattle.std.proofs.Common.{◌≡◌, ◌≤◌, drop, length}
use Rattle.path_auto.specs.Automaton.{machine_of}
use Rattle.browse_visit.specs.Found.{row_found}
use Rattle.browse_visit.proofs.found.row_found.Given as goal

abbrev pub invariant-loop-at : goal.invariant-loop-at
invariant-loop-at l = (l.found ≡ row_found (machine_of l.automaton) l.labels l.states (drop l.at l.columns)) × (l.at ≤ length l.columns)

abbrev pub decreases-loop-at : goal.decreases-loop-at
decreases-loop-at l = l.at
