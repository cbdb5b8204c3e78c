use Rattle.browse_visit.proofs.Laid.{visits_are_as_laid as law}
use Rattle.browse_visit.proofs.law.visits_are_as_laid.Goals as goal

pub returns : goal.returns
returns c = law
