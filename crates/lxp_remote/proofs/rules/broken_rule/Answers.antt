use Rattle.std.proofs.Common.{sym}
use Rattle.lxp_remote.proofs.Ruled.{not_nil, some_trees}
use Rattle.lxp_remote.proofs.rules.broken_rule.Goals as goal

pub returns-then-not-has_some_node : goal.returns-then-not-has_some_node
returns-then-not-has_some_node c = (not_nil c.args.trees.now (some_trees c.args.trees.now c.if-not-is_empty.ensures), sym c.if-not-has_some_node.ensures)
