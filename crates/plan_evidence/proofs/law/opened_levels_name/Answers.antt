use Rattle.plan_evidence.proofs.Opened.{opened_named}
use Rattle.plan_evidence.proofs.law.opened_levels_name.Goals as goal

pub returns : goal.returns
returns c = opened_named
