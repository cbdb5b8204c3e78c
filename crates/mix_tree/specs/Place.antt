-- Places: lists of child indexes. The empty place is the first tree of a list of trees itself.
use Rattle.std.specs.Prelude.{ℕ, ◌+◌, List, [], ◌∷◌, ◌++◌, Bool, is_some, Option, Some, None, option_map}
use Rattle.mix_tree.specs.Forest.{Forest, LabelledTree, alone, first_tree, first_label, first_kids, from}

-- the tree at a place and the siblings after it; what has no such place has none there
abbrev pub trees_at : Forest → List ℕ → Forest
trees_at f [] = f
trees_at f (i ∷ place) = trees_at (from i (first_kids f)) place

-- whether there is such a place
abbrev pub has_place : Forest → List ℕ → Bool
has_place f place = is_some (first_label (trees_at f place))

-- the subtree of a tree at a place, where there is one
abbrev pub tree_at : LabelledTree → List ℕ → Option LabelledTree
tree_at t place = first_tree (trees_at (alone t) place)

-- the place of the first child
abbrev pub child_place : List ℕ → List ℕ
child_place place = place ++ 0 ∷ []

-- the place of the next sibling, the last index one greater; the root has none
abbrev pub next_place : List ℕ → Option (List ℕ)
next_place [] = None
next_place (i ∷ []) = Some ((i + 1) ∷ [])
next_place (i ∷ j ∷ place) = option_map (λ q. i ∷ q) (next_place (j ∷ place))
