use Rattle.lazy_follow.proofs.Staying.{marks_stay}
use Rattle.lazy_follow.proofs.law.marks_stay.Goals as goal

pub returns : goal.returns
returns c = marks_stay
