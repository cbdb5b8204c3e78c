use Rattle.lazy_site.proofs.Indexes.{rests_tell_indexes}
use Rattle.lazy_site.proofs.law.rests_tell_indexes.Goals as goal

pub returns : goal.returns
returns c = rests_tell_indexes
