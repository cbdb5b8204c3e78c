use Rattle.plan_levels.proofs.Told.{singles_told}
use Rattle.plan_levels.proofs.law.singles_are_told.Goals as goal

pub returns : goal.returns
returns c = singles_told
