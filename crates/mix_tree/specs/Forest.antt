-- Labelled ordered trees, apart from how they lie in memory.
use Rattle.std.specs.Prelude.{ℕ, zero, suc, List, [], ◌∷◌, ◌++◌, Option, Some, None}

-- an ordered list of trees: none, or a first tree (its label and its children) and the trees after it
pub data Forest : Type 0 where
  none : Forest
  tree : (label : List ℕ) → (kids : Forest) → (rest : Forest) → Forest

-- a tree: a label and its children
pub record LabelledTree : Type 0 where
  pub label : List ℕ
  pub kids : Forest

-- the trees of a list, one after another
abbrev pub forest_of : List LabelledTree → Forest
forest_of [] = none
forest_of (t ∷ ts) = tree t.label t.kids (forest_of ts)

-- the list of a tree alone
abbrev pub alone : LabelledTree → Forest
alone t = tree t.label t.kids none

-- the first tree, where there is one
abbrev pub first_tree : Forest → Option LabelledTree
first_tree none = None
first_tree (tree label kids rest) = Some (record { label = label; kids = kids })

-- the label of the first tree, where there is one
abbrev pub first_label : Forest → Option (List ℕ)
first_label none = None
first_label (tree label kids rest) = Some label

-- the children of the first tree
abbrev pub first_kids : Forest → Forest
first_kids none = none
first_kids (tree label kids rest) = kids

-- the trees after the first
abbrev pub after_first : Forest → Forest
after_first none = none
after_first (tree label kids rest) = rest

-- the trees from an index on
abbrev pub from : ℕ → Forest → Forest
from zero f = f
from (suc i) f = from i (after_first f)

-- one list of trees after another
abbrev pub followed : Forest → Forest → Forest
followed none g = g
followed (tree label kids rest) g = tree label kids (followed rest g)

-- the labels in document order
abbrev pub labels_of : Forest → List (List ℕ)
labels_of none = []
labels_of (tree label kids rest) = label ∷ (labels_of kids ++ labels_of rest)

-- the trees that f gives for each member, one after another
abbrev pub joined : {X : Type 0} → (X → Forest) → List X → Forest
joined f [] = none
joined f (x ∷ xs) = followed (f x) (joined f xs)
