use Rattle.lazy_seek.proofs.Knowing.{knows_none}
use Rattle.lazy_seek.proofs.evidence.Found.new.Goals as goal

pub returns : goal.returns
returns c = λ st ops w. knows_none st ops w _ c.new-2.ensures.items
