use Rattle.std.proofs.Common.{◌≡◌, ◌≤◌, drop, length}
use Rattle.path_auto.specs.Automaton.{machine_of}
use Rattle.browse_visit.specs.Shapes.{row_of}
use Rattle.browse_visit.specs.Visits.{visit_profile}
use Rattle.browse_visit.proofs.visit.row_profile.Given as goal

abbrev pub invariant-loop-at : goal.invariant-loop-at
invariant-loop-at l = (l.found ≡ visit_profile (machine_of l.automaton) l.labels l.states (row_of (drop l.at l.columns))) × (l.at ≤ length l.columns)

abbrev pub decreases-loop-at : goal.decreases-loop-at
decreases-loop-at l = l.at
