use Rattle.plan_core.proofs.Fronted.{fronts_are_of_events as law}
use Rattle.plan_core.proofs.law.fronts_are_of_events.Goals as goal

pub returns : goal.returns
returns c = law
