-- What the text of an identifier says names the node at its place.
use Rattle.std.proofs.Common.{◌≡◌, ◌<◌, ℕ, Bool, true, false, cond, List, [], ◌∷◌, ◌++◌, append-nil, length, drop, Option, Some, None, refl, ◌∙◌, sym, ap, subst, arith}
use Rattle.std.specs.Prelude.{IsTrue, is_some}
use Rattle.std.specs.List.{AllByRecursion, list_all}
use Rattle.std.specs.declared.alloc.Global.{Global}
use Rattle.std.specs.declared.rc.Rc.{Rc}
use Rattle.std.proofs.lemmas.List.{drop_at}
use Rattle.mix_tree.specs.Forest.{Forest, LabelledTree, none, tree, alone, first_label, first_kids, from}
use Rattle.mix_tree.specs.Place.{has_place, trees_at}
use Rattle.node_text.specs.Node.{LevelValue, node, ArePlaces, IsFormed}
use Rattle.plan_core.specs.declared.plan.Piece.{Piece}
use Rattle.plan_core.specs.declared.plan.Piece.TheVariants.{Var as var_piece, LabelOf as label_piece, Text as text_piece}
use Rattle.plan_core.proofs.Plains.{plain_charged}
use Rattle.plan_core.specs.Events.{tolled_document}
use Rattle.plan_core.specs.PlanMade.{plan_value}
use Rattle.plan_core.specs.Tolled.{Tolled, is_item, trees_below, charged, plain, trees_from, tolled_at}
use Rattle.plan_core.specs.TolledRows.{TolledValue}
use Rattle.plan_core.specs.Typed.{IsTyped}
use Rattle.plan_core.specs.Valid.{IsValid}
use Rattle.plan_evidence.proofs.EachNamed.{places_formed}
use Rattle.plan_evidence.proofs.Opened.{opened_named}
use Rattle.plan_evidence.specs.Named.{Listing, Ends, IsBelow, Names, NamesBy}
use Rattle.plan_evidence.specs.Opened.{Opens}
use Rattle.plan_evidence.specs.Remains.{levels_through, levels_of, numbers_in}
use Rattle.plan_forms.specs.Forms.{input_at}
use Rattle.mix_tree.specs.Nodes.{label_at, kids_at}
use Rattle.tree_buffer.specs.declared.spot.Spot.{Spot}
use Rattle.lazy_binding.specs.Bench.{IsBench}
use Rattle.lazy_binding.specs.declared.position.Position.{Position}
use Rattle.lazy_binding.specs.World.{place_in}
use Rattle.lazy_plan.specs.Bench.{BenchState, ops_of, documents, told, node_at, binding_at}
use Rattle.lazy_walk.specs.Above.{rests, rests_above, top_above, IsItemAt, IsInsideAt, IsLedTo, levels_with, inside_with, place_from, node_levels, node_inside}
use Rattle.lazy_site.specs.Ids.{IsRest}
use Rattle.lazy_site.specs.Levels.{HasList, IsOpen, of_root, of_member, levels_at, reached_at, tuple_at, is_below_top, kept_places, said_levels}
use Rattle.lazy_site.specs.Origins.{IsTreeOfPiece}
use Rattle.lazy_walk.specs.Places.{plan_document, IsAt}
use Rattle.lazy_site.specs.Standing.{remains, IsHolder, hand_op, hand_at, IsStanding}
use Rattle.lazy_walk.specs.declared.ids.Above.{Above, Outer, Inner'}
use Rattle.lazy_site.specs.declared.sites.Head.{Head}
use Rattle.lazy_site.specs.declared.sites.Head.TheVariants.{Whole, Built, Leaf, Text}
use Rattle.lazy_walk.specs.declared.ids.WalkedNode.{WalkedNode}
use Rattle.lazy_site.specs.declared.sites.Rest.{Rest, End, Pieces', Members', Group'}
use Rattle.lazy_site.specs.declared.sites.Site.{Site}
use Rattle.lazy_site.specs.declared.sites.Site.TheVariants.{Root, Inside, Item}
use Rattle.lazy_site.proofs.Holders.{open_holder}
use Rattle.lazy_site.proofs.Opening.{holder_evidence, hand_holder, opens_to}
use Rattle.lazy_walk.proofs.Placing.{IsTolled, has_is, plain_at, plain_below, plain_some}

-- ENDS

module _ (st : BenchState) (n : ℕ) (c : Position) where
  -- a piece ends the levels to a node that is its tree
  item_ends : (piece : Piece) (head : Head) → IsTreeOfPiece st n c piece head → Ends (documents st) (ops_of st) (binding_at st n c) piece []
  item_ends (label_piece v) head h = refl
  item_ends (text_piece label) head h = refl
  item_ends (var_piece v) (Whole s t) h = subst (λ (x : TolledValue). IsBelow (documents st) (ops_of st) x []) (sym h.value) refl
  item_ends (var_piece v) (Built op at) h = subst (λ (x : TolledValue). IsBelow (documents st) (ops_of st) x []) (sym h.value) refl
  item_ends (var_piece v) (Leaf s t) h = absurd h
  item_ends (var_piece v) (Text op index) h = absurd h

  -- a piece ends the levels to a source's node that is its tree, and a place below is that of a node below
  inside_ends : (piece : Piece) (s : ℕ) (t : Spot) → IsTreeOfPiece st n c piece (Whole s t) → (way : List ℕ)
      → has_place (tree (label_at (documents st) (node_at st s t)) (kids_at (documents st) (node_at st s t)) none) way ≡ true → Ends (documents st) (ops_of st) (binding_at st n c) piece way
  inside_ends (var_piece v) s t h way b = subst (λ (x : TolledValue). IsBelow (documents st) (ops_of st) x way) (sym h.value) b
  inside_ends (label_piece v) s t h way b = absurd h
  inside_ends (text_piece label) s t h way b = absurd h

-- PLACES BELOW A TREE

-- the trees at a place that leads on from another are those at it below the trees there
at_further : (f : Tolled) (p q : List ℕ) → tolled_at f (p ++ q) ≡ tolled_at (tolled_at f p) q
at_further f [] q = refl
at_further f (k ∷ p) q = at_further (trees_from k (trees_below f)) p q

-- a place below a tree is one below the trees with tolls that are its children
place_below : (g : Tolled) (kids : Forest) → trees_below g ≡ charged kids → (label way : List ℕ) → 0 < length way → is_item (tolled_at g way) ≡ true → has_place (tree label kids none) way ≡ true
place_below g kids e label [] h i = absurd (omega (arith, h))
place_below g kids e label (k ∷ way) h i =
    let same : first_kids (plain g) ≡ kids = sym (plain_below g) ∙ ap plain e ∙ plain_charged kids in
    ap (λ (f : Forest). is_some (first_label (trees_at (from k f) way))) (sym same) ∙ ap (λ (f : Forest). is_some (first_label f)) (sym (plain_at g (k ∷ way))) ∙ plain_some (tolled_at g (k ∷ way)) ∙ i

-- LEVELS

-- there are levels through any pieces
through_some : (tuple : List (List ℕ)) (ns : List ℕ) → levels_through tuple ns ≡ [] → ⊥
through_some tuple [] e = cc
through_some tuple (n ∷ []) e = cc
through_some tuple (n ∷ m ∷ ns) e = cc

-- no place of levels through pieces is empty where none of the last one's is
through_formed : (tuple : List (List ℕ)) → ArePlaces tuple → (ns : List ℕ) → AllByRecursion (λ l. ArePlaces l.tuple) (levels_through tuple ns)
through_formed tuple h [] = (h, tt)
through_formed tuple h (n ∷ []) = (h, tt)
through_formed tuple h (n ∷ m ∷ ns) = (tt, through_formed tuple h (m ∷ ns))

-- what holds of each of some levels and of each of others holds of each of both
each_both : (P : LevelValue → Type 0) (ls ms : List LevelValue) → AllByRecursion P ls → AllByRecursion P ms → AllByRecursion P (ls ++ ms)
each_both P [] ms h k = k
each_both P (l ∷ ls) ms h k = (h.0, each_both P ls ms h.1 k)

-- levels after which others come are not none
not_none : (ls ms : List LevelValue) → (ms ≡ [] → ⊥) → ls ++ ms ≡ [] → ⊥
not_none [] ms h e = h e
not_none (l ∷ ls) ms h e = cc

-- where all places are below a document node, none is empty
all_places : (ps : List (List ℕ)) → list_all is_below_top ps ≡ true → ArePlaces ps
all_places [] e = tt
all_places ([] ∷ ps) e = cc
all_places ((k ∷ p) ∷ ps) e = (omega arith, all_places ps e)

-- no place that is kept is empty
kept_formed : (ps : List (List ℕ)) → ArePlaces (kept_places ps)
kept_formed ps = by_test (list_all is_below_top ps) refl
  where
    by_test : (t : Bool) → list_all is_below_top ps ≡ t → ArePlaces (cond t ps [])
    by_test true e = all_places ps e
    by_test false e = tt

-- where no place is empty, all are below a document node
all_below : (ps : List (List ℕ)) → ArePlaces ps → list_all is_below_top ps ≡ true
all_below [] h = refl
all_below ([] ∷ ps) h = (let z = h.0 in absurd (omega (arith, z)))
all_below ((k ∷ p) ∷ ps) h = all_below ps h.1

-- where no place is empty, all are kept
kept_same : (ps : List (List ℕ)) → ArePlaces ps → kept_places ps ≡ ps
kept_same ps h = ap (λ (t : Bool). cond t ps []) (all_below ps h)

module _ (st : BenchState) where
  -- a text says levels of a node that is below an element
  said_some : (r : Rest) (above : List Rest) → said_levels st (r ∷ above) ≡ [] → ⊥
  said_some r above = not_none (said_levels st above) (levels_of (kept_places (tuple_at st r)) (remains st r)) (through_some (kept_places (tuple_at st r)) (numbers_in (remains st r)))

  -- a text says levels of a node above which something is kept
  said_above : (a : Above) → said_levels st (rests a) ≡ [] → ⊥
  said_above (Outer r top) = said_some r.value []
  said_above (Inner' r top q up) = said_some r.value (rests up)

  -- no place of the levels that a text says is empty
  said_formed : (above : List Rest) → AllByRecursion (λ l. ArePlaces l.tuple) (said_levels st above)
  said_formed [] = tt
  said_formed (r ∷ above) =
      each_both (λ l. ArePlaces l.tuple) (said_levels st above) (levels_of (kept_places (tuple_at st r)) (remains st r)) (said_formed above)
      (through_formed (kept_places (tuple_at st r)) (kept_formed (tuple_at st r)) (numbers_in (remains st r)))

  -- no place of the levels that the text of an identifier says is empty
  node_places : (n : Site) (above : List Rest) → AllByRecursion (λ l. ArePlaces l.tuple) (levels_with st n above)
  node_places Root above = tt
  node_places (Inside s x) above = said_formed above
  node_places (Item head r) above = said_formed (r.value ∷ above)

  -- where the text of an identifier says no levels, it says no place below
  node_root : (n : Site) (above : Option (Rc Above Global)) → levels_with st n (rests_above above) ≡ [] → inside_with st n (top_above above) ≡ []
  node_root Root above e = refl
  node_root (Inside s x) None e = refl
  node_root (Inside s x) (Some a) e = absurd (said_above a.value e)
  node_root (Item head r) above e = refl

  -- what the text of an identifier says is formed
  pub node_formed : (n : WalkedNode) → IsFormed (node (node_levels st n) (node_inside st n))
  node_formed n = record { root = node_root n.site n.above; places = node_places n.site (rests_above n.above) }

module _ (st : BenchState) (valid : IsValid (plan_value st.plan)) (typed : IsTyped (ops_of st)) (bench : IsBench st.world (ops_of st)) (y : IsTrue (told st)) where
  -- no place at the parts of a member's cursor is empty
  tuple_formed : (n : ℕ) (c : Position) → IsHolder st n c → (v : ℕ) (list : Listing) → HasList st n v list → (head : Head) (r : Rest) → IsRest st r → IsStanding st n c list head r → ArePlaces (tuple_at st r)
  tuple_formed n c h v list has head End i s = tt
  tuple_formed n c h v list has head (Pieces' op at next ways q up) i s = tt
  tuple_formed n c h v list has head (Members' op None q up) i s = tt
  tuple_formed n c h v list has head (Members' op (Some d) q up) i s =
      let m = input_at (ops_of st) op in
      places_formed (documents st) (reached_at st m d).nodes (ops_of st) m
      (holder_evidence st valid typed bench y m d (hand_holder st valid typed bench y n c h v list has head (Members' op (Some d) q up) i s)).0
  tuple_formed n c h v list has head (Group' op first number at place q up) i s =
      let m = input_at (ops_of st) op in
      places_formed (documents st) (reached_at st m at).nodes (ops_of st) m
      (holder_evidence st valid typed bench y m at (hand_holder st valid typed bench y n c h v list has head (Group' op first number at place q up) i s)).0

  -- of the levels of a node from its list a text says all
  list_said : (n : ℕ) (c : Position) → IsHolder st n c → (v : ℕ) (list : Listing) → HasList st n v list → (head : Head) (r : Rest) → IsRest st r → IsStanding st n c list head r
      → levels_of (kept_places (tuple_at st r)) (remains st r) ≡ levels_of (tuple_at st r) (remains st r)
  list_said n c h v list has head r i s = ap (λ (t : List (List ℕ)). levels_of t (remains st r)) (kept_same (tuple_at st r) (tuple_formed n c h v list has head r i s))

  -- of the levels to an element a text says all
  open_said : {above : List Rest} {q : List ℕ} {n v : ℕ} {c : Position} {list : Listing} → IsOpen st above q n c v list → said_levels st above ≡ levels_at st above
  open_said (of_root h o row e has) = refl
  open_said (of_member {rests = rests} {n = n} {v = v} {c = c} {list = list} {head = head} {r = r} up i s j index own e has h) =
      let x = open_holder st up in
      ap (λ (ls : List LevelValue). ls ++ levels_of (kept_places (tuple_at st r)) (remains st r)) (open_said up)
      ∙ ap (λ (ls : List LevelValue). levels_at st rests ++ ls) (list_said n c x.0 v list x.1 head r i s)

  module _ (above : List Rest) (head : Head) (r : Rest) (p : List ℕ) (i : IsItemAt st above head r p) where
    -- the levels to a node open the document to it
    item_opens : Opens (documents st) (ops_of st) (levels_at st (r ∷ above)) p (reached_at st (hand_op st i.op r) (hand_at i.at r)) i.stands.piece
    item_opens =
        subst (λ (q : List ℕ). Opens (documents st) (ops_of st) (levels_at st (r ∷ above)) q (reached_at st (hand_op st i.op r) (hand_at i.at r)) i.stands.piece) (sym i.place)
        (opens_to st valid typed bench y i.is_open head r i.rest i.stands i.index i.is_index)

    -- of the levels to a node a text says all
    item_said : said_levels st (r ∷ above) ≡ levels_at st (r ∷ above)
    item_said =
        let x = open_holder st i.is_open in
        ap (λ (ls : List LevelValue). ls ++ levels_of (kept_places (tuple_at st r)) (remains st r)) (open_said i.is_open)
        ∙ ap (λ (ls : List LevelValue). levels_at st above ++ ls) (list_said i.op i.at x.0 i.var i.list x.1 head r i.rest i.stands)

    -- what a text says of a node, with a place that ends at it, names the node there
    item_named : (way : List ℕ) → Ends (documents st) (ops_of st) (binding_at st (hand_op st i.op r) (hand_at i.at r)) i.stands.piece way
        → NamesBy (documents st) (ops_of st) (said_levels st (r ∷ above)) way (p ++ way)
    item_named way e =
        subst (λ (ls : List LevelValue). NamesBy (documents st) (ops_of st) ls way (p ++ way)) (sym item_said)
        (opened_named (documents st) (ops_of st) (levels_at st (r ∷ above)) p way (reached_at st (hand_op st i.op r) (hand_at i.at r)) i.stands.piece item_opens e)

  module _ (law : IsTolled st) (there : (t : LabelledTree) × (plan_document st ≡ Some t)) where
    -- what the text of a node inside a source says names it
    inside_named : (s : ℕ) (x : Spot) (above : List Rest) (top : Option Spot) (p : List ℕ) → ((t : LabelledTree) → plan_document st ≡ Some t → IsTrue (has_place (alone t) p)) → IsInsideAt st s x above top p
        → NamesBy (documents st) (ops_of st) (said_levels st above) (place_from st s x top) p
    inside_named s x above top p has i =
        let docs = documents st in
        let start = place_in st.world s i.spot in
        let way : place_from st s x top ≡ i.way = ap (place_from st s x) i.is_top ∙ ap (λ (z : List ℕ). drop (length start) z) i.is_below ∙ drop_at start i.way (length start) refl in
        let item : is_item (tolled_at (tolled_at (tolled_document docs (ops_of st)) i.start) i.way) ≡ true =
        ap is_item (sym (at_further (tolled_document docs (ops_of st)) i.start i.way)) ∙ ap (λ (q : List ℕ). is_item (tolled_at (tolled_document docs (ops_of st)) q)) (sym i.place)
        ∙ sym (has_is st law there.0 there.1 p) ∙ has there.0 there.1 in
        let below = place_below (tolled_at (tolled_document docs (ops_of st)) i.start) (kids_at docs (node_at st s i.spot)) i.kids (label_at docs (node_at st s i.spot)) i.way i.some item in
        let named = item_named i.outer (Whole s i.spot) i.rest i.start i.item i.way
        (inside_ends st (hand_op st i.item.op i.rest) (hand_at i.item.at i.rest) i.item.stands.piece s i.spot i.item.stands.tree i.way below) in
        subst (λ (w : List ℕ). NamesBy docs (ops_of st) (said_levels st above) w p) (sym way)
        (subst (λ (rs : List Rest). NamesBy docs (ops_of st) (said_levels st rs) i.way p) (sym i.is_above)
        (subst (λ (q : List ℕ). NamesBy docs (ops_of st) (said_levels st (i.rest ∷ i.outer)) i.way q) (sym i.place) named))

    -- what the text of a node says names it
    said_named : (n : Site) (above : List Rest) (top : Option Spot) (p : List ℕ) → ((t : LabelledTree) → plan_document st ≡ Some t → IsTrue (has_place (alone t) p)) → IsLedTo st n above top p
        → NamesBy (documents st) (ops_of st) (levels_with st n above) (inside_with st n top) p
    said_named Root above top p has led = (refl, led)
    said_named (Inside s x) above top p has led = inside_named s x above top p has led
    said_named (Item head r) above top p has led =
        subst (λ (q : List ℕ). NamesBy (documents st) (ops_of st) (said_levels st (r.value ∷ above)) [] q) (append-nil p)
        (item_named above head r.value p led [] (item_ends st (hand_op st led.op r.value) (hand_at led.at r.value) led.stands.piece head led.stands.tree))

    -- what the text of an identifier says names the node at its place
    pub node_named : (n : WalkedNode) (p : List ℕ) → IsAt st n p → Names (documents st) (ops_of st) (node (node_levels st n) (node_inside st n)) p
    node_named n p h = said_named n.site (rests_above n.above) (top_above n.above) p (h.place y) (h.above y)
