-- Which node of a plan's document the text of an identifier names.
use Rattle.std.specs.Prelude.{◌≡◌, ◌+◌, ℕ, suc, true, cond, ◌==◌, Option, Some, None, List, [], ◌∷◌, take, slice_get}
use Rattle.std.specs.List.{filter, list_any, last_or}
use Rattle.mix_base.specs.Events.{without_skips, found}
use Rattle.mix_tree.specs.Forest.{LabelledTree, none, tree, alone}
use Rattle.mix_tree.specs.Nodes.{Documents, Node, label_at, kids_at}
use Rattle.mix_tree.specs.Place.{has_place}
use Rattle.mix_tree.specs.declared.var.Key.{Key}
use Rattle.node_text.specs.Node.{LevelValue, NodeValue, IsFormed}
use Rattle.plan_core.specs.declared.plan.Piece.{Piece}
use Rattle.plan_core.specs.declared.plan.Piece.TheVariants.{Var as var_piece, LabelOf as label_piece, Text as text_piece}
use Rattle.plan_core.specs.Events.{events, first_row, visited}
use Rattle.plan_core.specs.Plans.{Operator, source, get_descendants, join, over, tuple_destroy, PlanValue, document}
use Rattle.plan_core.specs.Shapes.{a_list_of, an_element_of, extends, first_by_keys, one_group, Shape, passes_on, no_events, shape_of}
use Rattle.plan_core.specs.Tolled.{Tolled, ends, item}
use Rattle.plan_core.specs.TolledRows.{TolledRow, TolledValue, of_source, element, trees, tolled_value, key_values, same_values, all_items}
use Rattle.plan_core.specs.Valid.{outs_of, IsValid}
use Rattle.plan_evidence.specs.Evidence.{AreRight, IsEvidence}
use Rattle.plan_evidence.specs.Held.{node_values, AreOf}

-- LISTS AND WHERE THEY ARE MADE

-- the shape of the operator that binds a variable anew; where none does, one without bindings
abbrev pub maker : List Operator → ℕ → Shape
maker [] v = no_events 0 0
maker (op ∷ ops) v = cond (list_any (λ w. w == v) (outs_of op)) (shape_of op) (maker ops v)

-- how a list is made: of pieces over one binding, or of a piece over the bindings of an input that agree by keys
pub data Listing : Type 0 where
  of_pieces : (pieces : List Piece) → Listing
  of_group : (input : ℕ) → (keys : List Key) → (piece : Piece) → Listing

-- how a shape makes the list of the variable that it binds anew, if that is a list
abbrev pub listing : Shape → Option Listing
listing (passes_on input (extends out (a_list_of pieces))) = Some (of_pieces pieces)
listing (passes_on input (first_by_keys keys (Some group))) = Some (of_group input keys group.0)
listing (passes_on input (one_group piece out)) = Some (of_group input [] piece)
listing f = None

-- the variable of the list below the element that a shape makes, if it makes one
abbrev pub element_list : Shape → Option ℕ
element_list (passes_on input (extends out (an_element_of label list))) = Some list
element_list f = None

-- how the list of a variable is made, if it is one
abbrev pub list_of : List Operator → ℕ → Option Listing
list_of ops v = listing (maker ops v)

-- a piece is a single tree, and no list
abbrev pub IsSingle : List Operator → Piece → Type 0
IsSingle ops (var_piece v) = list_of ops v ≡ None
IsSingle ops (label_piece v) = Unit {0}
IsSingle ops (text_piece label) = Unit {0}

-- how many trees a list with tolls has
abbrev pub count_trees : Tolled → ℕ
count_trees (ends t) = 0
count_trees (item t label kids rest) = suc (count_trees rest)

-- how many trees the pieces before piece k have, over a binding
abbrev pub before_piece : Documents → List Piece → TolledRow → ℕ → ℕ
before_piece docs pieces row k = count_trees (all_items docs (take k pieces) row (ends 0))

-- the bindings of operator n that agree with a binding by keys, in order
abbrev pub members : Documents → List Operator → ℕ → List Key → TolledRow → List TolledRow
members docs ops n keys row = filter (λ r. same_values (key_values docs keys row) (key_values docs keys r)) (without_skips (events docs ops n))

-- FOLLOWING A TEXT

-- a binding, and the evidence by which it was reached, as nodes of variables
pub record Reached : Type 0 where
  pub row : TolledRow
  pub nodes : ℕ → Node

module _ (docs : Documents) (ops : List Operator) where
  -- the places of a level are right evidence of operator n that agrees by the keys with the evidence at hand, and it is of member j of the group of the
  -- binding at hand
  pub record IsMember (n : ℕ) (keys : List Key) (here : Reached) (places : List (List ℕ)) (j : ℕ) (there : Reached) : Type 0 where
    pub evidence : IsEvidence docs ops n places there.nodes
    pub same_group : same_values (node_values docs keys here.nodes) (node_values docs keys there.nodes) ≡ true
    pub of : AreOf docs ops n there.nodes there.row
    pub at : slice_get (members docs ops n keys here.row) j ≡ Some there.row

  -- a level leads from a list to the tree at an index, which is made of this piece over a binding: a member of a groupBy's list, which is then piece 0;
  -- a piece that is a single tree; or a member of the list that a piece is
  pub data Picks : Reached → Listing → LevelValue → ℕ → Reached → Piece → Type 0 where
    of_member : {here there : Reached} {n j : ℕ} {keys : List Key} {piece : Piece} {l : LevelValue} → l.piece ≡ 0
        → IsMember n keys here l.tuple j there → Picks here (of_group n keys piece) l j there piece
    of_piece : {here : Reached} {pieces : List Piece} {l : LevelValue} {piece : Piece} → slice_get pieces l.piece ≡ Some piece → l.tuple ≡ []
        → IsSingle ops piece → Picks here (of_pieces pieces) l (before_piece docs pieces here.row l.piece) here piece
    of_list_member : {here there : Reached} {pieces : List Piece} {v n j : ℕ} {keys : List Key} {piece : Piece} {l : LevelValue}
        → slice_get pieces l.piece ≡ Some (var_piece v) → list_of ops v ≡ Some (of_group n keys piece) → IsMember n keys here l.tuple j there
        → Picks here (of_pieces pieces) l (before_piece docs pieces here.row l.piece + j) there piece

  -- a place below a value is the value's own, which is empty, or, where the value is a source's node, that of a node below it
  abbrev pub IsBelow : TolledValue → List ℕ → Type 0
  IsBelow (of_source n) p = has_place (tree (label_at docs n) (kids_at docs n) none) p ≡ true
  IsBelow (element label kids) p = p ≡ []
  IsBelow (trees f) p = ⊥

  -- a piece over a binding ends the levels, and the place below it is the piece's own, or, where the piece is a source's node, that of a node below it
  abbrev pub Ends : TolledRow → Piece → List ℕ → Type 0
  Ends row (var_piece v) p = IsBelow (tolled_value row v) p
  Ends row (label_piece v) p = p ≡ []
  Ends row (text_piece label) p = p ≡ []

  -- levels and a place below lead from a list to a place, counted from the list: to a tree or a node below it, into an element, or into a concatenation
  -- among the pieces
  pub data Leads : Reached → Listing → List LevelValue → List ℕ → List ℕ → Type 0 where
    to_tree : {here there : Reached} {list : Listing} {l : LevelValue} {j : ℕ} {piece : Piece} {p : List ℕ} → Picks here list l j there piece
        → Ends there.row piece p → Leads here list (l ∷ []) p (j ∷ p)
    to_element : {here there : Reached} {list inner : Listing} {l : LevelValue} {ls : List LevelValue} {j v u : ℕ} {p q : List ℕ}
        → Picks here list l j there (var_piece v) → element_list (maker ops v) ≡ Some u → list_of ops u ≡ Some inner → Leads there inner ls p q
        → Leads here list (l ∷ ls) p (j ∷ q)
    to_pieces : {here : Reached} {pieces inner : List Piece} {l : LevelValue} {ls : List LevelValue} {v i : ℕ} {p q : List ℕ}
        → slice_get pieces l.piece ≡ Some (var_piece v) → l.tuple ≡ [] → list_of ops v ≡ Some (of_pieces inner) → Leads here (of_pieces inner) ls p (i ∷ q)
        → Leads here (of_pieces pieces) (l ∷ ls) p ((before_piece docs pieces here.row l.piece + i) ∷ q)

-- THE NODE OF A TEXT

-- what the last operator reads: the operator of the outer element's binding, and the element's variable
abbrev pub outer_of : Option Operator → Option (ℕ × ℕ)
outer_of None = None
outer_of (Some (source s out)) = None
outer_of (Some (get_descendants input start path out)) = None
outer_of (Some (join left right tests)) = None
outer_of (Some (over input op)) = None
outer_of (Some (tuple_destroy input made)) = Some (input, made)

-- the list of the outer element, over the single binding below the last operator, by any right evidence of that operator
pub record IsOuter (docs : Documents) (ops : List Operator) (here : Reached) (inner : Listing) : Type 0 where
  pub input : ℕ
  pub outer : ℕ
  pub list : ℕ
  pub is_outer : outer_of (last_or None ops) ≡ Some (input, outer)
  pub is_list : element_list (maker ops outer) ≡ Some list
  pub is_inner : list_of ops list ≡ Some inner
  pub is_row : here.row ≡ first_row (found (events docs ops input))
  pub right : AreRight docs ops input here.nodes

-- levels and a place below lead from the outer element's list to a place of the plan's document
pub record LeadsFromOuter (docs : Documents) (ops : List Operator) (levels : List LevelValue) (inside place : List ℕ) : Type 0 where
  pub here : Reached
  pub inner : Listing
  pub is_outer : IsOuter docs ops here inner
  pub leads : Leads docs ops here inner levels inside place

-- levels and a place below name the node at a place of the plan's document: the root where there are none, else where they lead
abbrev pub NamesBy : Documents → List Operator → List LevelValue → List ℕ → List ℕ → Type 0
NamesBy docs ops [] inside place = (inside ≡ []) × (place ≡ [])
NamesBy docs ops (l ∷ ls) inside place = LeadsFromOuter docs ops (l ∷ ls) inside place

-- an identifier's text, as what it says, names the node at a place of the plan's document
abbrev pub Names : Documents → List Operator → NodeValue → List ℕ → Type 0
Names docs ops d place = NamesBy docs ops d.levels d.inside place

-- LAWS

-- the plan's document has a node at a place
abbrev pub HasPlaceIn : Documents → List Operator → List ℕ → Type 0
HasPlaceIn docs ops place = (t : LabelledTree) × (document (visited docs) ops ≡ Some t) × (has_place (alone t) place ≡ true)

-- a text names at most one node of a valid plan's document
abbrev pub NamesAtMostOne : Type 0
NamesAtMostOne =
    (p : PlanValue) → IsValid p → (docs : Documents) (d : NodeValue) (a b : List ℕ) → Names docs p.ops d a → Names docs p.ops d b → a ≡ b

-- what a text names is a node of the plan's document
abbrev pub NamesNodes : Type 0
NamesNodes =
    (p : PlanValue) → IsValid p → (docs : Documents) (d : NodeValue) (a : List ℕ) → Names docs p.ops d a → HasPlaceIn docs p.ops a

-- each node of the plan's document is named by a text
abbrev pub EachIsNamed : Type 0
EachIsNamed =
    (p : PlanValue) → IsValid p → (docs : Documents) (a : List ℕ) → HasPlaceIn docs p.ops a
    → (d : NodeValue) × IsFormed d × Names docs p.ops d a
