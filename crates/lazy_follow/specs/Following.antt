-- How the text of an identifier is followed, by the evidence that it has: at each level the nodes that its places give, and no binding.
use Rattle.std.specs.Prelude.{◌≡◌, ◌==◌, ℕ, true, cond, Option, Some, None, MatchOption, List, [], ◌∷◌, slice_get, option_and_then, option_map}
use Rattle.std.specs.List.{last_or}
use Rattle.mix_tree.specs.Forest.{none, tree}
use Rattle.mix_tree.specs.Nodes.{Documents, Node, label_at, kids_at}
use Rattle.mix_tree.specs.Place.{has_place}
use Rattle.mix_tree.specs.declared.var.Key.{Key}
use Rattle.node_text.specs.Node.{LevelValue, NodeValue}
use Rattle.plan_core.specs.declared.plan.Piece.{Piece}
use Rattle.plan_core.specs.declared.plan.Piece.TheVariants.{Var as var_piece, LabelOf as label_piece, Text as text_piece}
use Rattle.plan_core.specs.Plans.{Operator, PlanValue}
use Rattle.plan_core.specs.TolledRows.{same_values}
use Rattle.plan_core.specs.Valid.{IsValid}
use Rattle.plan_evidence.specs.Evidence.{IsEvidence}
use Rattle.plan_evidence.specs.Held.{node_values, UsesHeld}
use Rattle.plan_evidence.specs.Named.{maker, Listing, of_pieces, of_group, list_of, element_list, outer_of, Names}
use Rattle.lazy_seek.specs.Given.{given}

-- WHAT A LEVEL CHOOSES

-- what a level chooses of a list: nothing; a tree of a piece; a member of the bindings of an input that agree by keys, with the tree of a piece over it; or a
-- list of pieces among the pieces
pub data Choice : Type 0 where
  nothing : Choice
  a_tree : (piece : Piece) → Choice
  a_member : (input : ℕ) → (keys : List Key) → (piece : Piece) → Choice
  a_list_among : (pieces : List Piece) → Choice

-- what is chosen where a level has no places
abbrev pub without_places : List (List ℕ) → Choice → Choice
without_places [] c = c
without_places (p ∷ places) c = nothing

-- what a level with these places chooses of a variable's value, that is this list or none
abbrev pub value_choice : ℕ → List (List ℕ) → Option Listing → Choice
value_choice v places None = without_places places (a_tree (var_piece v))
value_choice v places (Some (of_pieces inner)) = without_places places (a_list_among inner)
value_choice v places (Some (of_group n keys piece)) = a_member n keys piece

-- what a level with these places chooses of a piece
abbrev pub piece_choice : List Operator → List (List ℕ) → Option Piece → Choice
piece_choice ops places None = nothing
piece_choice ops places (Some (var_piece v)) = value_choice v places (list_of ops v)
piece_choice ops places (Some (label_piece v)) = without_places places (a_tree (label_piece v))
piece_choice ops places (Some (text_piece label)) = without_places places (a_tree (text_piece label))

-- what a level chooses of a list; the list of a groupBy by itself counts as piece 0 alone
abbrev pub choice : List Operator → Listing → LevelValue → Choice
choice ops (of_pieces pieces) l = piece_choice ops l.tuple (slice_get pieces l.piece)
choice ops (of_group n keys piece) l = cond (l.piece == 0) (a_member n keys piece) nothing

-- the list of the element that a piece is, if it is one
abbrev pub list_in : List Operator → Piece → Option Listing
list_in ops (var_piece v) = option_and_then (list_of ops) (element_list (maker ops v))
list_in ops (label_piece v) = None
list_in ops (text_piece label) = None

-- FOLLOWING

-- where a text has led: an operator of whose bindings one was reached, and the places by which it was
pub record Stand : Type 0 where
  pub op : ℕ
  pub places : List (List ℕ)

module _ (docs : Documents) (ops : List Operator) where
  -- the nodes of variables by which a binding was reached
  abbrev pub nodes_at : Stand → ℕ → Node
  nodes_at s = given ops s.op s.places

  -- the places of the second are right evidence, and agree by keys with that of the first
  pub record IsMet (keys : List Key) (here there : Stand) : Type 0 where
    pub evidence : IsEvidence docs ops there.op there.places (nodes_at there)
    pub same_group : same_values (node_values docs keys (nodes_at here)) (node_values docs keys (nodes_at there)) ≡ true

  -- a place below a variable's node is there; below an element there is none
  abbrev pub IsUnderVar : Stand → ℕ → Option ℕ → List ℕ → Type 0
  IsUnderVar s v None p = has_place (tree (label_at docs (nodes_at s v)) (kids_at docs (nodes_at s v)) none) p ≡ true
  IsUnderVar s v (Some u) p = p ≡ []

  -- a place below the tree of a piece is there: the tree's own, which is empty, or, where it is a source's node, that of a node below it
  abbrev pub IsUnder : Stand → Piece → List ℕ → Type 0
  IsUnder s (var_piece v) p = IsUnderVar s v (element_list (maker ops v)) p
  IsUnder s (label_piece v) p = p ≡ []
  IsUnder s (text_piece label) p = p ≡ []

  -- the levels behind a tree can be followed into its list, as is said of the rest; where there are none, the place below is there
  abbrev pub FollowsTree : (Stand → Listing → Type 0) → Stand → Piece → List LevelValue → List ℕ → Type 0
  FollowsTree rest here piece [] p = IsUnder here piece p
  FollowsTree rest here piece (l ∷ ls) p = MatchOption (list_in ops piece) ⊥ (rest here)

  -- the levels behind one can be followed from what it chooses with its places, as is said of the rest
  abbrev pub FollowsFrom : (Stand → Listing → Type 0) → Stand → List (List ℕ) → Choice → List LevelValue → List ℕ → Type 0
  FollowsFrom rest here places nothing ls p = ⊥
  FollowsFrom rest here places (a_tree piece) ls p = FollowsTree rest here piece ls p
  FollowsFrom rest here places (a_member n keys piece) ls p =
      (let there : Stand = record { op = n; places = places } in IsMet keys here there × FollowsTree rest there piece ls p)
  FollowsFrom rest here places (a_list_among inner) ls p = rest here (of_pieces inner)

  -- levels and a place below can be followed from a list
  abbrev pub Follows : Stand → Listing → List LevelValue → List ℕ → Type 0
  Follows here list [] p = ⊥
  Follows here list (l ∷ ls) p = FollowsFrom (λ there inner. Follows there inner ls p) here l.tuple (choice ops list l) ls p

  -- levels and a place below can be followed from the list of the outer element, which stands in the single binding of an operator without evidence
  pub record FollowsFromOuter (levels : List LevelValue) (inside : List ℕ) : Type 0 where
    pub input : ℕ
    pub outer : ℕ
    pub list : Listing
    pub is_outer : outer_of (last_or None ops) ≡ Some (input, outer)
    pub is_list : list_in ops (var_piece outer) ≡ Some list
    pub follows : Follows (record { op = input; places = [] }) list levels inside

  -- levels and a place below can be followed: none lead to the root, others from the outer element
  abbrev pub IsFollowedBy : List LevelValue → List ℕ → Type 0
  IsFollowedBy [] inside = inside ≡ []
  IsFollowedBy (l ∷ ls) inside = FollowsFromOuter (l ∷ ls) inside

  -- an identifier's text, as what it says, can be followed to the end
  abbrev pub IsFollowed : NodeValue → Type 0
  IsFollowed d = IsFollowedBy d.levels d.inside

-- WHERE LEVELS END

-- where levels end, as the plan says: for each level the operator of whose bindings it chooses a member, if it chooses one; and the tree at their end, by where
-- the binding was reached over which it is made, and its piece
pub record Ending : Type 0 where
  pub inputs : List (Option ℕ)
  pub stand : Stand
  pub piece : Piece

-- where levels end with one more before them
abbrev pub before : Option ℕ → Ending → Ending
before input e = record { inputs = input ∷ e.inputs; stand = e.stand; piece = e.piece }

module _ (ops : List Operator) where
  -- where the levels behind a tree end, as is said of the rest: at the tree, where there are none, else in its list
  abbrev pub tree_ending : (Stand → Listing → Option Ending) → Stand → Piece → List LevelValue → Option Ending
  tree_ending rest here piece [] = Some (record { inputs = []; stand = here; piece = piece })
  tree_ending rest here piece (l ∷ ls) = option_and_then (rest here) (list_in ops piece)

  -- where a level that chooses this with its places, and those behind it, end, as is said of the rest
  abbrev pub choice_ending : (Stand → Listing → Option Ending) → Stand → List (List ℕ) → Choice → List LevelValue → Option Ending
  choice_ending rest here places nothing ls = None
  choice_ending rest here places (a_tree piece) ls = option_map (before None) (tree_ending rest here piece ls)
  choice_ending rest here places (a_member n keys piece) ls = option_map (before (Some n)) (tree_ending rest (record { op = n; places = places }) piece ls)
  choice_ending rest here places (a_list_among inner) ls = option_map (before None) (rest here (of_pieces inner))

  -- where levels from a list end
  abbrev pub ending : Stand → Listing → List LevelValue → Option Ending
  ending here list [] = None
  ending here list (l ∷ ls) = choice_ending (λ there inner. ending there inner ls) here l.tuple (choice ops list l) ls

  -- where levels end from the outer element on, which stands in the single binding of an operator without evidence
  abbrev pub outer_ending : ℕ × ℕ → List LevelValue → Option Ending
  outer_ending o levels = tree_ending (λ there inner. ending there inner levels) (record { op = o.0; places = [] }) (var_piece o.1) levels

  -- where the levels of a text end
  abbrev pub text_ending : List LevelValue → Option Ending
  text_ending levels = option_and_then (λ o. outer_ending o levels) (outer_of (last_or None ops))

-- LAW

-- where each operator of a valid plan uses what its inputs hold alone, a text names a node exactly where it can be followed to the end
abbrev pub FollowedAreNamed : Type 0
FollowedAreNamed =
    (p : PlanValue) → IsValid p → UsesHeld p.ops → (docs : Documents) (d : NodeValue)
    → (IsFollowed docs p.ops d → (place : List ℕ) × Names docs p.ops d place) × ((place : List ℕ) → Names docs p.ops d place → IsFollowed docs p.ops d)
