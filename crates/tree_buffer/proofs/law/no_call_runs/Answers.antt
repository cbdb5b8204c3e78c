use Rattle.tree_buffer.proofs.Laws.{ran_same as law}
use Rattle.tree_buffer.proofs.law.no_call_runs.Goals as goal

pub returns : goal.returns
returns g c = law g.met.S.Sources.same
