-- What a walk writes, and what is left of it.
use Rattle.std.specs.Prelude.{◌≡◌, ℕ, ◌+◌, ◌*◌, ◌≤◌, true, length, List, [], ◌∷◌, Option, Some, None}
use Rattle.mix_tree.specs.Forest.{Forest, none, tree, labels_of}
use Rattle.mix_tree.specs.Place.{trees_at}
use Rattle.lxp_core.specs.View.{View}
use Rattle.tree_buffer.specs.declared.buffer.Buffer.{Buffer}
use Rattle.tree_buffer.specs.declared.spot.Spot.{Spot}
use Rattle.tree_buffer.specs.Document.{document_node}
use Rattle.tree_buffer.specs.Buffer.{number_of, place_of, below, after, trees_from}

-- the labels of the first tree in document order
abbrev pub first_labels : Forest → List (List ℕ)
first_labels none = []
first_labels (tree label kids rest) = label ∷ labels_of kids

-- the labels of the tree at an answer, and of those after it
abbrev pub labels_from : View → Buffer → Option Spot → List (List ℕ)
labels_from v b r = labels_of (trees_from (document_node v (number_of b)) b r)

-- how many nodes there are from an answer on, at most
abbrev pub left : View → Buffer → Option Spot → ℕ
left v b None = 0
left v b (Some x) = 1 + below v b x + after v b x

-- the labels of the subtree at a spot
abbrev pub labels_at : View → Buffer → Spot → List (List ℕ)
labels_at v b p = first_labels (trees_at (document_node v (number_of b)) (place_of b p))

-- a forward source was asked at most two fills for each label that was put after those before
abbrev pub AsksTwo : View → Buffer → View → List (List ℕ) → List (List ℕ) → Type 0
AsksTwo v b v' before after = v.forward (number_of b) ≡ true → v'.fills + 2 * length before ≤ v.fills + 2 * length after

-- a forward source was asked at most two fills for each label that was put after those before, and one less in all
abbrev pub AsksOneLess : View → Buffer → View → List (List ℕ) → List (List ℕ) → Type 0
AsksOneLess v b v' before after = v.forward (number_of b) ≡ true → v'.fills + 2 * length before + 1 ≤ v.fills + 2 * length after
