-- What it costs to search siblings and to print a subtree, where a way from each place of the document has a toll.
use Rattle.std.specs.Prelude.{ℕ, ◌+◌, cond, List, Option, Some, None}
use Rattle.std.specs.Str.{bytes_eq}
use Rattle.mix_tree.specs.Forest.{Forest, none, tree, LabelledTree, alone, first_kids, after_first}
use Rattle.mix_tree.specs.Place.{trees_at, child_place, next_place}
use Rattle.mix_script.specs.declared.step.Way.{Way}
use Rattle.mix_script.specs.declared.step.Way.TheVariants.{Down, Right}

-- the toll from a place, and none where there is no place
abbrev pub toll_from : {W : Type 0} → (W → ℕ) → Option W → ℕ
toll_from toll None = 0
toll_from toll (Some x) = toll x

-- the tolls of the ways to the right from a node at a place with these later siblings: up to the first one with a label, or
-- to the last one and the way after it
abbrev pub search_toll : (Way → List ℕ → ℕ) → List ℕ → Forest → List ℕ → ℕ
search_toll toll label none place = toll Right place
search_toll toll label (tree other kids rest) place =
    toll Right place + cond (bytes_eq other label) 0 (toll_from (search_toll toll label rest) (next_place place))

-- the toll of a search from a place of a tree for the first later sibling with a label
abbrev pub select_toll : (Way → List ℕ → ℕ) → LabelledTree → List ℕ → List ℕ → ℕ
select_toll toll t label place = search_toll toll label (after_first (trees_at (alone t) place)) place

-- the tolls of the ways down and to the right from each node of these trees, the first of which stands at a place
abbrev pub trees_toll : (Way → List ℕ → ℕ) → Forest → List ℕ → ℕ
trees_toll toll none place = 0
trees_toll toll (tree label kids rest) place =
    toll Down place + trees_toll toll kids (child_place place) + toll Right place + toll_from (trees_toll toll rest) (next_place place)

-- the toll of the text of the subtree at a place of a tree: the way down from the node there, and the ways down and to the
-- right from each node below it
abbrev pub print_toll : (Way → List ℕ → ℕ) → LabelledTree → List ℕ → ℕ
print_toll toll t place = toll Down place + trees_toll toll (first_kids (trees_at (alone t) place)) (child_place place)

-- the toll of the texts of the subtrees of a node and its later siblings
abbrev pub siblings_toll : (Way → List ℕ → ℕ) → LabelledTree → List ℕ → ℕ
siblings_toll toll t place = trees_toll toll (trees_at (alone t) place) place

-- the toll of the text of the subtree at a place, and of the way to the right from there
abbrev pub one_toll : (Way → List ℕ → ℕ) → LabelledTree → List ℕ → ℕ
one_toll toll t place = print_toll toll t place + toll Right place
