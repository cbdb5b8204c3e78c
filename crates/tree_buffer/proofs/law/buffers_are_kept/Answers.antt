use Rattle.tree_buffer.proofs.Laws.{keeps_buffers as law}
use Rattle.tree_buffer.proofs.law.buffers_are_kept.Goals as goal

pub returns : goal.returns
returns c = λ v v' b sources keeps. law sources keeps
