-- The visit of the trees below a node along an automaton over their labels, event by event.
use Rattle.std.specs.Prelude.{ℕ, cond, List, [], ◌∷◌, ◌++◌, unwrap_or}
use Rattle.mix_base.specs.Events.{Event, skip, bind}
use Rattle.mix_tree.specs.Forest.{Forest, none, tree, first_kids}
use Rattle.mix_tree.specs.Place.{trees_at, child_place, next_place}
use Rattle.mix_tree.specs.Nodes.{Documents, Node}
use Rattle.path_expr.specs.Form.{Form}
use Rattle.path_auto.specs.Automaton.{Machine, machine_of, table_of}

-- the place of the next sibling
abbrev pub place_after : List ℕ → List ℕ
place_after at = unwrap_or (next_place at) at

-- the events at the trees of a list in order, the first of which stands at a place, from the states above them. A tree that is
-- accepted is a binding of its place, any other a skip; where the states after its label go on, the visit of its children
-- follows. At the end of a list comes a skip
abbrev pub visit : Machine → ℕ → List ℕ → Forest → List (Event (List ℕ))
visit m q at none = skip ∷ []
visit m q at (tree label kids rest) =
    cond (m.accepts (m.step q label)) (bind at) skip
    ∷ (cond (m.goes_on (m.step q label)) (visit m (m.step q label) (child_place at) kids) [] ++ visit m q (place_after at) rest)

-- the events of the visit of the children of the node at a place
abbrev pub visit_below : Machine → Forest → List ℕ → List (Event (List ℕ))
visit_below m f start = visit m m.start (child_place start) (first_kids (trees_at f start))

-- the visit along the automaton of a path, below a node of a source document
abbrev pub visits : Documents → Form → Node → List (Event (List ℕ))
visits docs p n = visit_below (machine_of (table_of p)) (tree [] (docs n.source) none) n.place
