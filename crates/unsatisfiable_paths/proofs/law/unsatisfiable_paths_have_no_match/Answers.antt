use Rattle.unsatisfiable_paths.proofs.Unmatched.{unsatisfiable_have_no_match}
use Rattle.unsatisfiable_paths.proofs.law.unsatisfiable_paths_have_no_match.Goals as goal

pub returns : goal.returns
returns c =
    unsatisfiable_have_no_match c.valid_plans_are_typed.ensures c.events_are_as_known.ensures c.visits_are_as_laid.ensures c.visits_are_matches.ensures c.events_are_bindings.ensures
