use Rattle.path_auto.proofs.Least.{without_is}
use Rattle.path_auto.proofs.sets.without_least.Goals as goal

pub returns-clause-others : goal.returns-clause-others
returns-clause-others c = without_is c.args.states
