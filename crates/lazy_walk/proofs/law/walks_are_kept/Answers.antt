use Rattle.lazy_walk.proofs.Kept.{walk_kept}
use Rattle.lazy_walk.proofs.law.walks_are_kept.Goals as goal

pub returns : goal.returns
returns c = walk_kept c.buffers_are_kept.ensures
