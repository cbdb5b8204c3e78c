use Rattle.std.proofs.Common.{◌≡◌, ◌+◌, drop}
use Rattle.mix_tree.specs.Forest.{forest_of}
use Rattle.mix_tree.specs.Weight.{nodes_of}
use Rattle.far_keep.proofs.mem_far.+count_nodes.Given as goal

abbrev pub decreases-count_nodes : goal.decreases-count_nodes
decreases-count_nodes l = nodes_of (forest_of l.trees.now)

-- the nodes so far and those of the trees to come are those of all
abbrev pub invariant-trees : goal.invariant-trees
invariant-trees l = l.count + nodes_of (forest_of (drop l.tree-index l.trees)) ≡ nodes_of (forest_of l.trees)
