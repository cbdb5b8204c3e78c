use Rattle.lxp_remote.proofs.Ruled.{told_keep}
use Rattle.lxp_remote.proofs.rules.told_lists_keep_rules.Goals as goal

pub returns : goal.returns
returns c = told_keep
