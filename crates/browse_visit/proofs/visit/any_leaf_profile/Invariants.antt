use Rattle.std.proofs.Common.{◌≡◌, ◌<◌, drop, length}
use Rattle.path_auto.specs.Automaton.{machine_of}
use Rattle.browse_profile.specs.Profiles.{one_skip, any_of}
use Rattle.browse_visit.specs.Visits.{tree_profile}
use Rattle.browse_visit.proofs.visit.any_leaf_profile.Given as goal

abbrev pub invariant-loop-at : goal.invariant-loop-at
invariant-loop-at l =
    (l.found ≡ any_of (λ x. tree_profile (machine_of l.automaton) ((machine_of l.automaton).step l.states x) one_skip) (drop l.at l.labels)) × (l.at < length l.labels)

abbrev pub decreases-loop-at : goal.decreases-loop-at
decreases-loop-at l = l.at
