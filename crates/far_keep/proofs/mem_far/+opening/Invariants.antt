use Rattle.std.proofs.Common.{◌≡◌, ◌+◌, ◌*◌, take}
use Rattle.mix_tree.specs.Forest.{forest_of}
use Rattle.mix_tree.specs.Weight.{nodes_of, tree_nodes}
use Rattle.lxp_core.specs.Open.{without_holes}
use Rattle.lxp_core.specs.Plain.{plain}
use Rattle.far_keep.proofs.mem_far.+opening.Given as goal

abbrev pub decreases-open_tree : goal.decreases-open_tree
decreases-open_tree l = 2 * tree_nodes l.tree.now

abbrev pub decreases-open_list : goal.decreases-open_list
decreases-open_list l = 2 * nodes_of (forest_of l.trees.now) + 1

-- the trees so far stand there without holes
abbrev pub invariant-open_list-trees : goal.invariant-open_list-trees
invariant-open_list-trees l = plain l.list.items ≡ without_holes (forest_of (take l.tree-index l.trees))
