use Rattle.lazy_evidence.proofs.Among.{next_among}
use Rattle.lazy_evidence.proofs.law.next_are_among.Goals as goal

pub returns : goal.returns
returns c = next_among
