-- The nodes of a document from the last to the first in document order, so that the nodes below a node stand right before it, and
-- before those the nodes of its later siblings.
use Rattle.std.specs.Prelude.{◌≡◌, ℕ, List, [], ◌∷◌, ◌++◌, length}
use Rattle.std.proofs.Common.{get_or}
use Rattle.mix_tree.specs.Forest.{Forest, none, tree, LabelledTree, alone}
use Rattle.mix_tree.specs.Weight.{nodes_of}

-- a node: its label, and how many nodes are below it
pub record LaidNode : Type 0 where
  pub label : List ℕ
  pub below : ℕ

-- a node of this label with nothing below it
abbrev pub bare_node : List ℕ → LaidNode
bare_node label = record { label = label; below = 0 }

-- the nodes of a list of trees
abbrev pub laid : Forest → List LaidNode
laid none = []
laid (tree label kids rest) = laid rest ++ (laid kids ++ record { label = label; below = nodes_of kids } ∷ [])

-- the node at a position; one without a label, where there are not so many
abbrev pub node_at : List LaidNode → ℕ → LaidNode
node_at ns i = get_or ns i (record { label = []; below = 0 })

-- how many nodes are below the node at a position
abbrev pub below : List LaidNode → ℕ → ℕ
below ns i = (node_at ns i).below

-- the label of the last node has some bytes more
abbrev pub longer : List ℕ → List LaidNode → List LaidNode
longer piece [] = []
longer piece (n ∷ v) = record { label = n.label ++ piece; below = n.below } ∷ v

-- the node before which so many stand in document order gets all nodes after it
abbrev pub Closes : List LaidNode → ℕ → List LaidNode → Type 0
Closes old place new = (xs ys : List LaidNode) (n : LaidNode) → old ≡ xs ++ n ∷ ys → length ys ≡ place → new ≡ xs ++ record { label = n.label; below = length xs } ∷ ys

-- the nodes are those of a tree, below the document node
abbrev pub IsDocument : List LaidNode → LabelledTree → Type 0
IsDocument nodes t = nodes ≡ laid (alone (record { label = []; kids = alone t }))
