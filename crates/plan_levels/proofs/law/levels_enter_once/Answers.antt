use Rattle.plan_levels.proofs.Entering.{levels_once}
use Rattle.plan_levels.proofs.law.levels_enter_once.Goals as goal

pub returns : goal.returns
returns c = levels_once
