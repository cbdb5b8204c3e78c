-- How many nodes trees have; no tree of a list has more than all of them together.
use Rattle.std.specs.Prelude.{ℕ, ◌+◌, ◌≤◌, List, [], ◌∷◌}
use Rattle.std.proofs.Common.{arith}
use denote.Param.Weighed.{most}
use Rattle.mix_tree.specs.Forest.{Forest, none, tree, LabelledTree, forest_of}

-- the nodes of a list of trees
abbrev pub nodes_of : Forest → ℕ
nodes_of none = 0
nodes_of (tree label kids rest) = 1 + nodes_of kids + nodes_of rest

-- how many nodes a tree has
abbrev pub tree_nodes : LabelledTree → ℕ
tree_nodes t = 1 + nodes_of t.kids

-- no tree of a list has more nodes than the whole list
pub most_le-nodes_of : (ts : List LabelledTree) → most (λ t. tree_nodes t + 1) ts ≤ nodes_of (forest_of ts) + 1
most_le-nodes_of [] = omega arith
most_le-nodes_of (t ∷ ts) = omega (arith, most_le-nodes_of ts)
