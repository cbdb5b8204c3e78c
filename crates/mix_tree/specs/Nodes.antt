-- Nodes of source documents. A source has a document node above its root, and places are counted from it: the root stands at 0.
use Rattle.std.specs.Prelude.{◌≡◌, ◌⊎◌, ◌<◌, ℕ, Bool, List, [], ◌∷◌, ◌==◌, ◌&&◌}
use Rattle.std.specs.Str.{bytes_eq}
use Rattle.mix_tree.specs.Forest.{Forest, none, tree, first_kids}
use Rattle.mix_tree.specs.Place.{trees_at}

-- the document of each source, by its number
abbrev pub Documents : Type 0
Documents = ℕ → Forest

-- a node: its source, and its place counted from the document node
pub record Node : Type 0 where
  pub source : ℕ
  pub place : List ℕ

-- the document node of a source
abbrev pub document_node : ℕ → Node
document_node s = record { source = s; place = [] }

-- whether two nodes have the same source and the same place
abbrev pub same_node : Node → Node → Bool
same_node a b = (a.source == b.source) && bytes_eq a.place b.place

-- the tree at a node and the siblings after it
abbrev pub node_trees : Documents → Node → Forest
node_trees docs n = trees_at (tree [] (docs n.source) none) n.place

-- the label of the first tree; the empty one where there is none
abbrev pub label_of_first : Forest → List ℕ
label_of_first none = []
label_of_first (tree label kids rest) = label

-- the label of a node
abbrev pub label_at : Documents → Node → List ℕ
label_at docs n = label_of_first (node_trees docs n)

-- the children of a node, with all that is below them
abbrev pub kids_at : Documents → Node → Forest
kids_at docs n = first_kids (node_trees docs n)

-- document order: a place stands before those below it, and else by the smaller index at the first difference
abbrev pub PlaceBefore : List ℕ → List ℕ → Type 0
PlaceBefore [] [] = ⊥
PlaceBefore [] (j ∷ q) = Unit {0}
PlaceBefore (i ∷ p) [] = ⊥
PlaceBefore (i ∷ p) (j ∷ q) = (i < j) ⊎ ((i ≡ j) × PlaceBefore p q)
