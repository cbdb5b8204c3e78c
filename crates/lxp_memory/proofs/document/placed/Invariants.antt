use Rattle.std.proofs.Common.{◌≡◌, ◌+◌, ◌≤◌, true, Some, length, []}
use Rattle.std.specs.List.{AllByRecursion}
use Rattle.mix_tree.specs.Forest.{alone, first_tree, forest_of}
use Rattle.mix_tree.specs.Weight.{nodes_of, tree_nodes}
use Rattle.lxp_memory.specs.Nodes.{AreWithin, trees_before}
use Rattle.lxp_memory.specs.Small.{IsSmallBelow, fits_wire}
use Rattle.lxp_memory.proofs.document.placed.Given as goal

abbrev pub invariant-loop-tree : goal.invariant-loop-tree
invariant-loop-tree l = record {
  first : first_tree (forest_of (trees_before l.nodes.items l.queue.items)) ≡ Some (record { label = []; kids = alone l.fn.root });
  within : AreWithin l.nodes.items (length l.queue.items);
  left : length l.nodes.items + nodes_of (forest_of l.queue.items) ≡ nodes_of (alone l.fn.root) + 1;
  bound : AllByRecursion (λ t. tree_nodes t ≤ nodes_of (alone l.fn.root) + 1) (trees_before l.nodes.items l.queue.items);
  small : fits_wire l.fn.root ≡ true → AllByRecursion IsSmallBelow (trees_before l.nodes.items l.queue.items);
}

abbrev pub decreases-loop-tree : goal.decreases-loop-tree
decreases-loop-tree l = nodes_of (forest_of l.queue.items)
