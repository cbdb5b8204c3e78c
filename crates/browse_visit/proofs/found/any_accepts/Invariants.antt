use Rattle.std.proofs.Common.{◌≡◌, drop}
use Rattle.std.specs.List.{list_any}
use Rattle.path_auto.specs.Automaton.{machine_of}
use Rattle.browse_visit.proofs.found.any_accepts.Given as goal

abbrev pub invariant-loop-l : goal.invariant-loop-l
invariant-loop-l l =
    list_any (λ x. (machine_of l.automaton).accepts ((machine_of l.automaton).step l.states x)) (drop l.l-index l.labels)
    ≡ list_any (λ x. (machine_of l.automaton).accepts ((machine_of l.automaton).step l.states x)) l.labels
