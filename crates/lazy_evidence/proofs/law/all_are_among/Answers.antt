use Rattle.lazy_evidence.proofs.Among.{all_among}
use Rattle.lazy_evidence.proofs.law.all_are_among.Goals as goal

pub returns : goal.returns
returns c = all_among
