-- What holds of the visit along an automaton.
use Rattle.std.specs.Prelude.{ℕ, List, []}
use Rattle.mix_base.specs.Events.{without_skips}
use Rattle.mix_tree.specs.Forest.{Forest, none, tree}
use Rattle.mix_tree.specs.Nodes.{Documents, Node}
use Rattle.path_expr.specs.Form.{Form}
use Rattle.path_expr.specs.Matches.{AreMatches}
use Rattle.path_auto.specs.Automaton.{Machine, Follows}
use Rattle.path_auto.specs.Visit.{visit_below, visits}

-- the bindings of the visit along a machine that follows a path are the matches of the path, in document order, once each
abbrev pub BindingsAreMatches : Type 0
BindingsAreMatches =
    (m : Machine) (p : Form) → Follows m p → (f : Forest) (start : List ℕ) → AreMatches p f start (without_skips (visit_below m f start))

-- the bindings of the visit along each path's automaton, below each node of the source documents, are the path's matches
abbrev pub VisitsAreMatches : Type 0
VisitsAreMatches =
    (docs : Documents) (p : Form) (n : Node) → AreMatches p (tree [] (docs n.source) none) n.place (without_skips (visits docs p n))
