use Rattle.std.proofs.Common.{◌+◌, ◌*◌, drop}
use Rattle.wire_text.specs.Wired.{nil, size_of, holes_of}
use Rattle.wire_text.specs.Plain.{plain, put}
use Rattle.lxp_remote.proofs.Learnt.{Learning}
use Rattle.lxp_remote.proofs.learning.+learn.Given as goal

abbrev pub decreases-learn_tree : goal.decreases-learn_tree
decreases-learn_tree l = 2 * size_of (put l.tree.now nil)

abbrev pub decreases-learn_list : goal.decreases-learn_list
decreases-learn_list l = 2 * size_of (plain l.trees.now) + 1

abbrev pub invariant-learn_list-loop-tree : goal.invariant-learn_list-loop-tree
invariant-learn_list-loop-tree l = Learning l.root l.fn.known l.known (holes_of (plain l.trees)) (holes_of (plain (drop l.tree-index l.trees)))
