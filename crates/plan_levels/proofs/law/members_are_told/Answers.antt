use Rattle.plan_levels.proofs.Told.{members_told}
use Rattle.plan_levels.proofs.law.members_are_told.Goals as goal

pub returns : goal.returns
returns c = members_told
