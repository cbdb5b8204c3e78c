-- How many nodes the trees of a document have, so that the weight of a hole is a difference.
use Rattle.std.specs.Prelude.{◌≡◌, ℕ, suc, ◌≤◌, List, [], length, drop, slice_index}
use Rattle.mix_tree.specs.Forest.{forest_of}
use Rattle.mix_tree.specs.Weight.{nodes_of}
use Rattle.lxp_memory.specs.declared.document.DocNode.{DocNode}
use Rattle.lxp_memory.specs.Nodes.{trees_before}

-- how many nodes the trees of the nodes from one on have together
abbrev pub total_from : List DocNode → ℕ → ℕ
total_from ns i = nodes_of (forest_of (drop i (trees_before ns [])))

-- these are, for each node and for the end, how many nodes the trees from there on have together
pub record AreSums (ns : List DocNode) (sums : List ℕ) : Type 0 where
  pub count : length sums ≡ suc (length ns)
  pub each : (i : ℕ) → i ≤ length ns → slice_index sums i ≡ total_from ns i
