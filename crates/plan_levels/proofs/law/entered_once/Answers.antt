use Rattle.plan_levels.proofs.Entering.{enters_alike}
use Rattle.plan_levels.proofs.law.entered_once.Goals as goal

pub returns : goal.returns
returns c = enters_alike
