use Rattle.std.proofs.Common.{arith}
use Rattle.mix_reach.proofs.Counted.{came_counted}
use Rattle.mix_reach.proofs.reached.ReachedSources.fill.Goals as goal

pub returns-clause-came : goal.returns-clause-came
returns-clause-came g c = came_counted _ _ _ c.give-answer.ensures.came (omega arith) (omega arith)
