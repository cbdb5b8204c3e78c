-- How a document lies in memory: its nodes level by level, the children of each side by side after it.
use Rattle.std.specs.Prelude.{◌≡◌, ℕ, zero, suc, ◌+◌, ◌<◌, ◌≤◌, List, [], ◌∷◌, ◌++◌, length, take, drop}
use Rattle.mix_tree.specs.Forest.{Forest, LabelledTree, forest_of}
use Rattle.lxp_memory.specs.declared.document.DocNode.{DocNode}

-- the tree of a node, before the trees of the nodes after it, among which its children are
abbrev pub with_node : DocNode → List LabelledTree → List LabelledTree
with_node n after = record { label = n.label; kids = forest_of (take n.count (drop n.ahead after)) } ∷ after

-- the tree of each node, before further trees
abbrev pub trees_before : List DocNode → List LabelledTree → List LabelledTree
trees_before [] further = further
trees_before (n ∷ ns) further = with_node n (trees_before ns further)

-- the number of a node's first child
abbrev pub first_of : List DocNode → ℕ → ℕ
first_of [] i = 0
first_of (n ∷ ns) zero = suc n.ahead
first_of (n ∷ ns) (suc i) = suc (first_of ns i)

-- how many children a node has
abbrev pub count_of : List DocNode → ℕ → ℕ
count_of [] i = 0
count_of (n ∷ ns) zero = n.count
count_of (n ∷ ns) (suc i) = count_of ns i

-- the label of a node
abbrev pub label_of : List DocNode → ℕ → List ℕ
label_of [] i = []
label_of (n ∷ ns) zero = n.label
label_of (n ∷ ns) (suc i) = label_of ns i

-- the trees of so many nodes, side by side from one on
abbrev pub run : List DocNode → ℕ → ℕ → Forest
run ns i count = forest_of (take count (drop i (trees_before ns [])))

-- the children of each node are among the nodes and so many further trees
abbrev pub AreWithin : List DocNode → ℕ → Type 0
AreWithin ns further = (i : ℕ) → i < length ns → first_of ns i + count_of ns i ≤ length ns + further

-- a tree's root stands after the nodes, and its children stand after the trees that are still to be placed
pub record IsPlaced (t : LabelledTree) (nodes : List DocNode) (queue : List LabelledTree) (nodes' : List DocNode) (queue' : List LabelledTree) : Type 0 where
  pub node : DocNode
  pub kids : List LabelledTree
  pub label : node.label ≡ t.label
  pub ahead : node.ahead ≡ length queue
  pub count : node.count ≡ length kids
  pub below : forest_of kids ≡ t.kids
  pub nodes_are : nodes' ≡ nodes ++ node ∷ []
  pub queue_is : queue' ≡ queue ++ kids
