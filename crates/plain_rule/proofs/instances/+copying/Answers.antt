use Rattle.std.proofs.Common.{◌<◌, ◌+◌, ◌*◌, rules, arith}
use Rattle.mix_tree.specs.Forest.{forest_of}
use Rattle.mix_tree.specs.Weight.{nodes_of, tree_nodes}
use Rattle.plain_rule.proofs.Standing.{fewer_nodes}
use Rattle.plain_rule.proofs.instances.+copying.Goals as goal

pub copy_trees-copy_tree-requires : goal.copy_trees-copy_tree-requires
copy_trees-copy_tree-requires t c =
    let fewer : 2 * tree_nodes c.tree-item.result < 2 * nodes_of (forest_of c.args.trees.now) + 1 =
    omega (arith, fewer_nodes c.args.trees.now c.loop-tree.tree-index c.tree-item.result c.loop-tree-test.true c.tree-item.is) in
    search rules
