-- The matches of a path in a document: which nodes it leads to.
use Rattle.std.specs.Prelude.{◌≡◌, ◌↔◌, ◌<◌, ℕ, true, List, [], ◌∷◌, ◌++◌, length, unwrap_or}
use Rattle.mix_base.specs.Ascents.{Among, Ascending}
use Rattle.mix_tree.specs.Forest.{Forest, none, tree, first_label, first_kids, from}
use Rattle.mix_tree.specs.Place.{trees_at, has_place}
use Rattle.mix_tree.specs.Nodes.{Documents, Node, PlaceBefore}
use Rattle.path_expr.specs.Form.{Form}
use Rattle.path_expr.specs.Description.{Labels, Describes}

-- the labels on the way down from a list of trees: that of the tree at the first index, that of its child at the next, and so on
abbrev pub labels_down : Forest → List ℕ → Labels
labels_down f [] = []
labels_down f (i ∷ place) = unwrap_or (first_label (from i f)) [] ∷ labels_down (first_kids (from i f)) place

-- a path leads from one place to another: that lies strictly below, and the path describes the labels on the way
pub record LeadsTo (p : Form) (f : Forest) (start at : List ℕ) : Type 0 where
  pub way : List ℕ
  pub below : 0 < length way
  pub place : start ++ way ≡ at
  pub there : has_place f at ≡ true
  pub described : Describes p (labels_down (first_kids (trees_at f start)) way)

-- a node is a match of a path from another node of the same source
abbrev pub IsMatch : Documents → Form → Node → Node → Type 0
IsMatch docs p start n = (n.source ≡ start.source) × LeadsTo p (tree [] (docs start.source) none) start.place n.place

-- the places are the matches of the path from a place, all of them, in document order and once each
pub record AreMatches (p : Form) (f : Forest) (start : List ℕ) (places : List (List ℕ)) : Type 0 where
  pub ascending : Ascending PlaceBefore places
  pub exactly : (q : List ℕ) → Among q places ↔ LeadsTo p f start q
