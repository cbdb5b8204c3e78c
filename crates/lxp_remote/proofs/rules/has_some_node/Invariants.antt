use Rattle.std.proofs.Common.{◌≡◌, drop}
use Rattle.lxp_core.specs.Open.{has_node}
use Rattle.wire_text.specs.Wired.{without_weights}
use Rattle.wire_text.specs.Plain.{plain}
use Rattle.lxp_remote.proofs.rules.has_some_node.Given as goal

abbrev pub invariant-loop-tree : goal.invariant-loop-tree
invariant-loop-tree l = has_node (without_weights (plain (drop l.tree-index l.trees))) ≡ has_node (without_weights (plain l.trees))
