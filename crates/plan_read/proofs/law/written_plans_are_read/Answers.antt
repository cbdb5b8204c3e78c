use Rattle.plan_read.proofs.Renumbered.{written_read}
use Rattle.plan_read.proofs.law.written_plans_are_read.Goals as goal

pub returns : goal.returns
returns c = written_read
