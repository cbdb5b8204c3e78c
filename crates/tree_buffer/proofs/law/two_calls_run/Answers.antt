use Rattle.tree_buffer.proofs.Laws.{ran_twice as law}
use Rattle.tree_buffer.proofs.law.two_calls_run.Goals as goal

pub returns : goal.returns
returns g d = λ s t u a b c first second. law g.met.S.Sources.after first second
