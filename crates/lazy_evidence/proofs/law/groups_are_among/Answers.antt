use Rattle.lazy_evidence.proofs.Among.{groups_among}
use Rattle.lazy_evidence.proofs.law.groups_are_among.Goals as goal

pub returns : goal.returns
returns c = groups_among
