use Rattle.plan_core.proofs.Fronted.{apart_are_passed as law}
use Rattle.plan_core.proofs.law.apart_are_passed.Goals as goal

pub returns : goal.returns
returns c = law
