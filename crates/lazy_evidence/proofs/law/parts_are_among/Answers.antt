use Rattle.lazy_evidence.proofs.Holds.{parts_are_among}
use Rattle.lazy_evidence.proofs.law.parts_are_among.Goals as goal

pub returns : goal.returns
returns c = parts_are_among
