-- What the values of a binding show: each node, element and list as its maker says, and that this stays as variables are added.
use Rattle.std.proofs.Common.{◌≡◌, ◌∙◌, ℕ, suc, ◌<◌, true, List, [], take, refl, sym, ap, length}
use Rattle.std.specs.Prelude.{Some, None}
use Rattle.std.specs.List.{AllByRecursion, filter}
use Rattle.std.proofs.Math.Path.{fun_ext}
use Rattle.mix_base.proofs.Firsts.{each_weaker}
use Rattle.mix_base.specs.Events.{without_skips}
use Rattle.mix_tree.specs.Forest.{Forest, none, tree, joined}
use Rattle.mix_tree.specs.Nodes.{Documents, Node, label_at}
use Rattle.mix_tree.specs.declared.var.Key.{Key}
use Rattle.mix_tree.proofs.Forests.{followed-none}
use Rattle.plan_core.specs.declared.plan.Piece.{Piece}
use Rattle.plan_core.specs.declared.plan.Piece.TheVariants.{Var as var_piece, LabelOf as label_piece, Text as text_piece}
use Rattle.plan_core.specs.Events.{events}
use Rattle.plan_core.specs.Plans.{Operator}
use Rattle.plan_core.specs.Shapes.{an_element_of, extends, Shape, passes_on}
use Rattle.plan_core.specs.Rows.{trees_in}
use Rattle.plan_core.specs.Tolled.{Tolled, ends, item, plain}
use Rattle.plan_core.specs.TolledRows.{TolledRow, TolledValue, of_source, element, trees, tolled_value, source_node, row_node, plain_value, plain_row, key_values, same_values, all_items, piece_items}
use Rattle.plan_core.specs.Unary.{piece_trees}
use Rattle.plan_core.specs.Valid.{Kind, a_node, an_element, a_list, Kinds, kinds, AreNodes, IsPiece, IsSinglePiece}
use Rattle.plan_core.proofs.KeyValues.{values_alike}
use Rattle.plan_core.proofs.Plains.{value-plain, nodes-plain, plain_piece, plain_all}
use Rattle.plan_evidence.specs.Held.{held, node_values}
use Rattle.plan_evidence.specs.Named.{maker, Listing, of_pieces, of_group, element_list, list_of, count_trees, before_piece, members}
use Rattle.plan_evidence.proofs.Makers.{number_of}
use Rattle.plan_evidence.proofs.TreeLists.{count, joined_same}

-- WHAT A PIECE SHOWS

-- the trees that a value shows
abbrev pub shown_by : Documents → TolledValue → Forest
shown_by docs x = trees_in docs (plain_value x)

-- the trees that a piece shows over a binding
abbrev pub shown : Documents → TolledRow → Piece → Forest
shown docs row (var_piece v) = shown_by docs (tolled_value row v)
shown docs row (label_piece v) = tree (label_at docs (row_node row v)) none none
shown docs row (text_piece label) = tree label none none

module _ (docs : Documents) where
  -- what a piece shows over a binding is what it shows over the binding without tolls
  pub shown_plain : (row : TolledRow) (q : Piece) → piece_trees docs (plain_row row) q ≡ shown docs row q
  shown_plain row (var_piece v) = ap (trees_in docs) (value-plain row v)
  shown_plain row (label_piece v) = ap (λ (n : ℕ → Node). tree (label_at docs (n v)) none none) (nodes-plain row)
  shown_plain row (text_piece label) = refl

  -- a piece by itself is, without tolls, what it shows
  pub piece_shown : (row : TolledRow) (q : Piece) → plain (piece_items docs q row (ends 0)) ≡ shown docs row q
  piece_shown row q = plain_piece docs q row (ends 0) ∙ followed-none (piece_trees docs (plain_row row) q) ∙ shown_plain row q

  -- pieces one after another are, without tolls, what they show
  pub pieces_shown : (row : TolledRow) (pieces : List Piece) → plain (all_items docs pieces row (ends 0)) ≡ joined (shown docs row) pieces
  pieces_shown row pieces =
      plain_all docs pieces row (ends 0) ∙ followed-none (joined (piece_trees docs (plain_row row)) pieces)
      ∙ ap (λ (f : Piece → Forest). joined f pieces) (fun_ext (shown_plain row))

  -- a list with tolls has as many trees as without
  pub count-plain : (f : Tolled) → count_trees f ≡ count (plain f)
  count-plain (ends t) = refl
  count-plain (item t label kids rest) = ap suc (count-plain rest)

  -- before a piece stand the trees that the pieces before it show
  pub before_shown : (row : TolledRow) (pieces : List Piece) (k : ℕ) → before_piece docs pieces row k ≡ count (joined (shown docs row) (take k pieces))
  before_shown row pieces k = count-plain (all_items docs (take k pieces) row (ends 0)) ∙ ap count (pieces_shown row (take k pieces))

-- the label of the element that a shape makes; of one that makes none, the empty one
abbrev pub element_label : Shape → List ℕ
element_label (passes_on input (extends out (an_element_of label list))) = label
element_label f = []

-- WHAT A LIST SHOWS

-- the first keys tell the others: nodes that agree by the first agree by the others
abbrev pub Tell : Documents → List Key → List Key → Type 0
Tell docs keys others =
    (a b : ℕ → Node) → same_values (node_values docs keys a) (node_values docs keys b) ≡ true → same_values (node_values docs others a) (node_values docs others b) ≡ true

module _ (docs : Documents) (ops : List Operator) where
  -- the trees of a list over a binding, as its listing says
  abbrev pub list_trees : Listing → TolledRow → Forest
  list_trees (of_pieces pieces) row = joined (shown docs row) pieces
  list_trees (of_group n keys piece) row = joined (λ r. shown docs r piece) (members docs ops n keys row)

  -- the variable of a piece, if it is one's value, is made by an operator below a number
  abbrev pub IsLow : ℕ → Piece → Type 0
  IsLow m (var_piece v) = number_of ops v < m
  IsLow m (label_piece v) = Unit {0}
  IsLow m (text_piece label) = Unit {0}

  -- a group of an operator below a number: its piece is single there, and its keys are of nodes here and there, and told by the keys held here
  pub record IsGroup (m : ℕ) (ks : Kinds) (keys : List Key) (input : ℕ) (own : List Key) (piece : Piece) : Type 0 where
    pub within : input < length ops
    pub low : input < m
    pub single : IsSinglePiece (kinds ops input) piece
    pub nodes : AreNodes own ks
    pub told_here : Tell docs keys own
    pub nodes_there : AreNodes own (kinds ops input)

  -- what a listing uses is bound, and made by operators below a number
  abbrev pub IsListed : ℕ → Kinds → List Key → Listing → Type 0
  IsListed m ks keys (of_pieces pieces) = AllByRecursion (λ q. IsPiece ks q × IsLow m q) pieces
  IsListed m ks keys (of_group n own piece) = IsGroup m ks keys n own piece

  -- a variable's value is a node, and no operator makes it
  pub record IsNodeIn (row : TolledRow) (v : ℕ) : Type 0 where
    pub node : Node
    pub is_value : tolled_value row v ≡ of_source node
    pub no_list : list_of ops v ≡ None
    pub no_element : element_list (maker ops v) ≡ None

  -- a variable's value is an element, over the list of a variable that an earlier operator makes
  pub record IsElementIn (ks : Kinds) (row : TolledRow) (v : ℕ) : Type 0 where
    pub label : List ℕ
    pub kids : Tolled
    pub inner : ℕ
    pub is_value : tolled_value row v ≡ element label kids
    pub is_label : element_label (maker ops v) ≡ label
    pub is_inner : element_list (maker ops v) ≡ Some inner
    pub bound : ks inner ≡ Some a_list
    pub low : number_of ops inner < number_of ops v
    pub shows : plain kids ≡ shown_by docs (tolled_value row inner)

  -- a variable's value is a list, with the trees that its listing says
  pub record IsListIn (ks : Kinds) (keys : List Key) (row : TolledRow) (v : ℕ) : Type 0 where
    pub items : Tolled
    pub listing : Listing
    pub is_value : tolled_value row v ≡ trees items
    pub is_listing : list_of ops v ≡ Some listing
    pub is_listed : IsListed (number_of ops v) ks keys listing
    pub shows : plain items ≡ list_trees listing row

  -- a variable's value is as its kind says
  abbrev pub IsIn : Kinds → List Key → TolledRow → ℕ → Kind → Type 0
  IsIn ks keys row v a_node = IsNodeIn row v
  IsIn ks keys row v an_element = IsElementIn ks row v
  IsIn ks keys row v a_list = IsListIn ks keys row v

  -- each value of a binding is as its kind says
  abbrev pub IsSound : Kinds → List Key → TolledRow → Type 0
  IsSound ks keys row = (v : ℕ) (k : Kind) → ks v ≡ Some k → IsIn ks keys row v k

  -- each value of a binding of operator n is as its kind says
  abbrev pub IsRow : ℕ → TolledRow → Type 0
  IsRow n row = IsSound (kinds ops n) (held ops n) row

  -- what a listing uses is bound by operator n, and made by operators below m
  abbrev pub IsListOf : ℕ → ℕ → Listing → Type 0
  IsListOf m n list = IsListed m (kinds ops n) (held ops n) list

  -- STAYING

  -- what one binding binds, another binds to the same values
  abbrev pub IsWithin : Kinds → TolledRow → Kinds → TolledRow → Type 0
  IsWithin ks row ks' row' = (v : ℕ) (k : Kind) → ks v ≡ Some k → (ks' v ≡ Some k) × (tolled_value row' v ≡ tolled_value row v)

  module _ (ks : Kinds) (keys : List Key) (row : TolledRow) (ks' : Kinds) (keys' : List Key) (row' : TolledRow) (within : IsWithin ks row ks' row') (tell : Tell docs keys' keys) where
    -- a piece of what is bound stays one
    pub piece_stays : (q : Piece) → IsPiece ks q → IsPiece ks' q
    piece_stays (var_piece v) h = (h.0, (within v h.0 h.1).0)
    piece_stays (label_piece v) h = (within v a_node h).0
    piece_stays (text_piece label) h = tt

    -- a piece of what is bound shows the same
    shown_stays : (q : Piece) → IsPiece ks q → shown docs row q ≡ shown docs row' q
    shown_stays (var_piece v) h = sym (ap (shown_by docs) (within v h.0 h.1).1)
    shown_stays (label_piece v) h = sym (ap (λ (x : TolledValue). tree (label_at docs (source_node x)) none none) (within v a_node h).1)
    shown_stays (text_piece label) h = refl

    -- keys of nodes stay keys of nodes
    nodes_stay : (own : List Key) → AreNodes own ks → AreNodes own ks'
    nodes_stay own h v t = (within v a_node (h v t)).0

    -- keys of nodes compare the same
    pub keys_stay : (own : List Key) → AreNodes own ks → key_values docs own row' ≡ key_values docs own row
    keys_stay own h = values_alike docs own row' row (λ v t. (within v a_node (h v t)).1)

    -- keys that are told stay told
    told_stays : (own : List Key) → Tell docs keys own → Tell docs keys' own
    told_stays own h a b e = h a b (tell a b e)

    -- what a listing uses stays bound
    pub listed_stays : (m : ℕ) (list : Listing) → IsListed m ks keys list → IsListed m ks' keys' list
    listed_stays m (of_pieces pieces) h = each_weaker (λ q. IsPiece ks q × IsLow m q) (λ q. IsPiece ks' q × IsLow m q) (λ q x. (piece_stays q x.0, x.1)) pieces h
    listed_stays m (of_group n own piece) h = record {
      within = h.within;
      low = h.low;
      single = h.single;
      nodes = nodes_stay own h.nodes;
      told_here = told_stays own h.told_here;
      nodes_there = h.nodes_there;
    }

    -- a listing has the same trees
    pub list_stays : (m : ℕ) (list : Listing) → IsListed m ks keys list → list_trees list row ≡ list_trees list row'
    list_stays m (of_pieces pieces) h = joined_same (shown docs row) (shown docs row') pieces (each_weaker (λ q. IsPiece ks q × IsLow m q) (λ q. shown docs row q ≡ shown docs row' q) (λ q x. shown_stays q x.0) pieces h)
    list_stays m (of_group n own piece) h =
        ap (λ z. joined (λ r. shown docs r piece) (filter (λ r. same_values z (key_values docs own r)) (without_skips (events docs ops n)))) (sym (keys_stay own h.nodes))

    -- a value that is as its kind says stays so
    pub value_stays : (v : ℕ) (k : Kind) → ks v ≡ Some k → IsIn ks keys row v k → IsIn ks' keys' row' v k
    value_stays v a_node e h = record { node = h.node; is_value = (within v a_node e).1 ∙ h.is_value; no_list = h.no_list; no_element = h.no_element }
    value_stays v an_element e h = record {
      label = h.label;
      kids = h.kids;
      inner = h.inner;
      is_value = (within v an_element e).1 ∙ h.is_value;
      is_label = h.is_label;
      is_inner = h.is_inner;
      bound = (within h.inner a_list h.bound).0;
      low = h.low;
      shows = h.shows ∙ sym (ap (shown_by docs) (within h.inner a_list h.bound).1);
    }
    value_stays v a_list e h = record {
      items = h.items;
      listing = h.listing;
      is_value = (within v a_list e).1 ∙ h.is_value;
      is_listing = h.is_listing;
      is_listed = listed_stays (number_of ops v) h.listing h.is_listed;
      shows = h.shows ∙ list_stays (number_of ops v) h.listing h.is_listed;
    }
