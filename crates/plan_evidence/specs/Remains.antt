-- What is left of a list as it is walked tree by tree, and the levels of the tree at which the walk stands.
use Rattle.std.specs.Prelude.{◌≡◌, ◌<◌, ◌+◌, ℕ, zero, suc, true, Some, List, [], ◌∷◌, ◌++◌, drop, length, slice_get}
use Rattle.std.specs.List.{AllByRecursion}
use Rattle.mix_base.specs.Events.{without_skips}
use Rattle.mix_tree.specs.Nodes.{Documents}
use Rattle.mix_tree.specs.declared.var.Key.{Key}
use Rattle.node_text.specs.Node.{LevelValue, level}
use Rattle.plan_core.specs.declared.plan.Piece.{Piece}
use Rattle.plan_core.specs.declared.plan.Piece.TheVariants.{Var as var_piece, LabelOf as label_piece, Text as text_piece}
use Rattle.plan_core.specs.Events.{RowEvents, events}
use Rattle.plan_core.specs.Plans.{Operator, PlanValue}
use Rattle.plan_core.specs.Tolled.{Tolled, ends}
use Rattle.plan_core.specs.TolledRows.{TolledRow, tolled_value, same_values, piece_items, all_items, collected}
use Rattle.plan_core.specs.Valid.{a_list, kinds, IsValid}
use Rattle.plan_evidence.specs.Evidence.{IsEvidence}
use Rattle.plan_evidence.specs.Held.{node_values, AreOf}
use Rattle.plan_evidence.specs.Named.{Listing, of_pieces, of_group, list_of, IsSingle, count_trees, members, Reached}
use Rattle.plan_evidence.specs.Opened.{Enters}

-- what is left of a list: nothing; pieces over a binding from one on; or members of a group that these events give. Each but the first is before what is left
-- of the lists around it
pub data Remains : Type 0 where
  nothing_left : Remains
  pieces_left : (pieces : List Piece) → (row : TolledRow) → (next : ℕ) → (around : Remains) → Remains
  members_left : (input : ℕ) → (keys : List Key) → (piece : Piece) → (ahead : RowEvents) → (around : Remains) → Remains

-- the trees that are left
abbrev pub trees_left : Documents → Remains → Tolled
trees_left docs nothing_left = ends 0
trees_left docs (pieces_left pieces row next around) = all_items docs (drop next pieces) row (trees_left docs around)
trees_left docs (members_left input keys piece ahead around) = collected docs piece ahead (trees_left docs around)

-- the numbers of the pieces in which a walk stands, from the outside in
abbrev pub numbers_in : Remains → List ℕ
numbers_in nothing_left = []
numbers_in (pieces_left pieces row zero around) = numbers_in around
numbers_in (pieces_left pieces row (suc n) around) = numbers_in around ++ n ∷ []
numbers_in (members_left input keys piece ahead around) = numbers_in around

-- the levels that go through these pieces, of which the last has a tuple; piece 0 alone where there are none
abbrev pub levels_through : List (List ℕ) → List ℕ → List LevelValue
levels_through tuple [] = level 0 tuple ∷ []
levels_through tuple (n ∷ []) = level n tuple ∷ []
levels_through tuple (n ∷ m ∷ ns) = level n [] ∷ levels_through tuple (m ∷ ns)

-- the levels of the tree at which a walk stands, whose last one has this tuple
abbrev pub levels_of : List (List ℕ) → Remains → List LevelValue
levels_of tuple r = levels_through tuple (numbers_in r)

-- a piece's variable has one value in two bindings
abbrev pub IsSameIn : TolledRow → TolledRow → Piece → Type 0
IsSameIn here row (var_piece v) = tolled_value row v ≡ tolled_value here v
IsSameIn here row (label_piece v) = tolled_value row v ≡ tolled_value here v
IsSameIn here row (text_piece label) = Unit {0}

module _ (docs : Documents) (ops : List Operator) (here : TolledRow) where
  -- what is left around a list that stands in a list over a binding: it is the whole list, or the piece before what is left of the pieces around it
  pub data IsAround : Listing → Remains → Listing → Type 0 where
    whole : {list : Listing} → IsAround list nothing_left list
    a_piece : {list inner : Listing} {around : Remains} {pieces : List Piece} {row : TolledRow} {n v : ℕ} → IsAround list around (of_pieces pieces)
        → AllByRecursion (IsSameIn here row) pieces → slice_get pieces n ≡ Some (var_piece v) → list_of ops v ≡ Some inner
        → IsAround list (pieces_left pieces row (suc n) around) inner

  -- a walk over a list stands at a tree, made of a piece over a binding, before what is left: a piece that is a single tree, or a member of a group
  pub data StandsAt : Listing → Remains → TolledRow → Piece → Type 0 where
    at_piece : {list : Listing} {around : Remains} {pieces : List Piece} {row : TolledRow} {n : ℕ} {piece : Piece} → IsAround list around (of_pieces pieces)
        → AllByRecursion (IsSameIn here row) pieces → slice_get pieces n ≡ Some piece → IsSingle ops piece
        → StandsAt list (pieces_left pieces row (suc n) around) here piece
    at_member : {list : Listing} {around : Remains} {input : ℕ} {keys : List Key} {piece : Piece} {ahead : RowEvents} {there : TolledRow}
        → IsAround list around (of_group input keys piece) → (before : List TolledRow)
        → members docs ops input keys here ≡ before ++ there ∷ without_skips ahead → StandsAt list (members_left input keys piece ahead around) there piece

-- the places of a member's evidence, which agrees by the keys with the evidence at hand
pub record IsToldBy (docs : Documents) (ops : List Operator) (input : ℕ) (keys : List Key) (here : Reached) (tuple : List (List ℕ)) (there : Reached) : Type 0 where
  pub evidence : IsEvidence docs ops input tuple there.nodes
  pub same_group : same_values (node_values docs keys here.nodes) (node_values docs keys there.nodes) ≡ true
  pub of : AreOf docs ops input there.nodes there.row

-- the tuple by which the tree at which a walk stands is told from the others of its piece: that of a member's evidence, and none at a piece that is a single tree
abbrev pub HasTuple : Documents → List Operator → Reached → Remains → List (List ℕ) → Reached → Type 0
HasTuple docs ops here nothing_left tuple there = ⊥
HasTuple docs ops here (pieces_left pieces row next around) tuple there = (tuple ≡ []) × (there ≡ here)
HasTuple docs ops here (members_left input keys piece ahead around) tuple there = IsToldBy docs ops input keys here tuple there

-- a binding of an operator has in this variable a list that is made so
pub record IsListIn (docs : Documents) (ops : List Operator) (row : TolledRow) (v : ℕ) (list : Listing) : Type 0 where
  pub op : ℕ
  pub within : op < length ops
  pub index : ℕ
  pub binding : slice_get (without_skips (events docs ops op)) index ≡ Some row
  pub kind : kinds ops op v ≡ Some a_list
  pub listing : list_of ops v ≡ Some list

-- the trees of a list's variable are those before index j, the tree there, and those that are left
abbrev pub IsIndex : Documents → TolledRow → ℕ → Remains → ℕ → Type 0
IsIndex docs row v r j = count_trees (piece_items docs (var_piece v) row (ends 0)) ≡ j + suc (count_trees (trees_left docs r))

-- where a walk over a list of a valid plan stands at a tree, the levels that what is left tells lead to the tree at its index
abbrev pub RemainsLead : Type 0
RemainsLead =
    (p : PlanValue) → IsValid p → (docs : Documents) (here there : Reached) (v : ℕ) (list : Listing) → IsListIn docs p.ops here.row v list
    → (r : Remains) (piece : Piece) → StandsAt docs p.ops here.row list r there.row piece → (tuple : List (List ℕ)) → HasTuple docs p.ops here r tuple there
    → (j : ℕ) → IsIndex docs here.row v r j → Enters docs p.ops here list (levels_of tuple r) j there piece
