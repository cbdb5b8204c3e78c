use Rattle.tree_buffer.proofs.Laws.{one_spot as law}
use Rattle.tree_buffer.proofs.law.spots_are_one.Goals as goal

pub returns : goal.returns
returns c = law
