-- The document of a source, as one tree: the document node, whose label is empty, above the document.
use Rattle.std.specs.Prelude.{ℕ, Bool, false, List, [], Option, Some, None}
use Rattle.mix_tree.specs.Forest.{Forest, none, tree}
use Rattle.mix_tree.specs.Place.{has_place, next_place}
use Rattle.lxp_core.specs.View.{View, document}

-- the document node of a source, with all that is below it
abbrev pub document_node : View → ℕ → Forest
document_node v n = tree [] (document v n) none

-- whether a place is given and a document has it
abbrev pub has_given : Forest → Option (List ℕ) → Bool
has_given f None = false
has_given f (Some place) = has_place f place

-- whether the node at a place has a next sibling
abbrev pub has_next : Forest → List ℕ → Bool
has_next f place = has_given f (next_place place)
