use Rattle.plan_evidence.proofs.Leading.{remains_lead}
use Rattle.plan_evidence.proofs.law.remains_lead.Goals as goal

pub returns : goal.returns
returns c = remains_lead
