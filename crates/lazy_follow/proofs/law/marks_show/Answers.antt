use Rattle.lazy_follow.proofs.MarkLabels.{marks_show}
use Rattle.lazy_follow.proofs.law.marks_show.Goals as goal

pub returns : goal.returns
returns c = marks_show c.tolled_is_document.ensures
