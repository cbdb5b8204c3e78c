use Rattle.lazy_evidence.proofs.Holds.{positions_have_evidence}
use Rattle.lazy_evidence.proofs.law.positions_have_evidence.Goals as goal

pub returns : goal.returns
returns c = positions_have_evidence
