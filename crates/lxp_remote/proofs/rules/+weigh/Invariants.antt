use Rattle.std.proofs.Common.{◌≡◌, ◌+◌, ◌*◌, drop}
use Rattle.wire_text.specs.Wired.{nil, size_of, total_of}
use Rattle.wire_text.specs.Plain.{plain, put}
use Rattle.lxp_remote.proofs.rules.+weigh.Given as goal

abbrev pub decreases-tree_total : goal.decreases-tree_total
decreases-tree_total l = 2 * size_of (put l.tree.now nil)

abbrev pub decreases-list_total : goal.decreases-list_total
decreases-list_total l = 2 * size_of (plain l.trees.now) + 1

abbrev pub invariant-list_total-loop-tree : goal.invariant-list_total-loop-tree
invariant-list_total-loop-tree l = l.sum + total_of (plain (drop l.tree-index l.trees)) ≡ total_of (plain l.trees)
