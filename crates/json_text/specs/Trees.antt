-- The trees of JSON values. Below a node that has a value stand the members of an object, called by their names, or those of an array,
-- called "item", or one leaf with the text of a string, number or boolean, or nothing where the value is null.
use Rattle.std.specs.Prelude.{ℕ, Bool, true, false, List, codes}
use Rattle.mix_tree.specs.Forest.{Forest, none, tree, LabelledTree}
use Rattle.json.specs.Json.{Json, null, boolean, number, string, array, object, Items, no_items, item, Members, no_members, member}

-- one leaf alone
abbrev pub leaf : List ℕ → Forest
leaf label = tree label none none

-- the word that spells a boolean
abbrev pub word_of : Bool → List ℕ
word_of true = codes "true"
word_of false = codes "false"

abbrev mutual
  -- the trees below a node that has the value
  pub value_trees : Json → Forest
  value_trees null = none
  value_trees (boolean b) = leaf (word_of b)
  value_trees (number text) = leaf text
  value_trees (string text) = leaf text
  value_trees (array js) = items_trees js
  value_trees (object ms) = members_trees ms

  -- the trees of an array's members
  pub items_trees : Items → Forest
  items_trees no_items = none
  items_trees (item j js) = tree (codes "item") (value_trees j) (items_trees js)

  -- the trees of an object's members
  pub members_trees : Members → Forest
  members_trees no_members = none
  members_trees (member name j ms) = tree name (value_trees j) (members_trees ms)

-- the tree of a value that has a name
abbrev pub value_tree : List ℕ → Json → LabelledTree
value_tree name j = record { label = name; kids = value_trees j }
