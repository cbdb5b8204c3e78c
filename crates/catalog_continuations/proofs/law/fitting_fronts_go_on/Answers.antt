use Rattle.catalog_continuations.proofs.GoingOn.{fitting_go_on}
use Rattle.catalog_continuations.proofs.law.fitting_fronts_go_on.Goals as goal

pub returns : goal.returns
returns c = fitting_go_on
