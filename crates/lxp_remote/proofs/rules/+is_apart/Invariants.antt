use Rattle.wire_text.specs.Wired.{size_of}
use Rattle.wire_text.specs.Plain.{plain}
use Rattle.lxp_remote.proofs.Ruled.{SameApart}
use Rattle.lxp_remote.proofs.rules.+is_apart.Given as goal

abbrev pub decreases-is_apart : goal.decreases-is_apart
decreases-is_apart l = size_of (plain l.trees.now)

abbrev pub invariant-loop-tree : goal.invariant-loop-tree
invariant-loop-tree l = SameApart l.trees l.tree-index l.after_hole
