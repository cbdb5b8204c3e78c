use Rattle.path_auto.proofs.Bindings.{visits_are_matches as law}
use Rattle.path_auto.proofs.law.visits_are_matches.Goals as goal

pub returns : goal.returns
returns c = law
