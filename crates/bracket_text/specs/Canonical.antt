-- The canonical text of a tree: canonical spellings of the labels, no blanks, and no brackets after a leaf.
use Rattle.std.specs.Prelude.{ℕ, List, [], ◌∷◌, ◌++◌}
use Rattle.mix_tree.specs.Forest.{Forest, none, tree, LabelledTree}
use Rattle.mix_tree.specs.Spelling.{spelling}

-- brackets round the text of children, where there are any
abbrev pub canon_brackets : Forest → List ℕ → List ℕ
canon_brackets none x = []
canon_brackets (tree label kids rest) x = 91 ∷ x ++ 93 ∷ []

-- a comma before the text of the other trees, where there are any
abbrev pub canon_rest : Forest → List ℕ → List ℕ
canon_rest none x = []
canon_rest (tree label kids rest) x = 44 ∷ x

-- the canonical text of the trees of a list
abbrev pub canon_trees : Forest → List ℕ
canon_trees none = []
canon_trees (tree label kids rest) = spelling label ++ canon_brackets kids (canon_trees kids) ++ canon_rest rest (canon_trees rest)

-- the canonical text of a tree
abbrev pub canon : LabelledTree → List ℕ
canon t = spelling t.label ++ canon_brackets t.kids (canon_trees t.kids)
