-- What is kept above an identifier leads to the same place after a call.
use Rattle.std.proofs.Common.{◌≡◌, ◌≤◌, ℕ, List, ◌++◌, ◌∙◌, sym, ap, subst}
use Rattle.std.specs.Prelude.{Option, Some, None}
use Rattle.std.specs.List.{AllByRecursion}
use Rattle.mix_base.proofs.Firsts.{each_weaker}
use Rattle.mix_base.specs.Events.{found}
use Rattle.mix_tree.specs.Nodes.{Documents, Node}
use Rattle.tree_buffer.specs.declared.spot.Spot.{Spot}
use Rattle.plan_core.specs.ByNumber.{op_at}
use Rattle.plan_core.specs.declared.plan.Piece.{Piece}
use Rattle.plan_core.specs.declared.plan.Piece.TheVariants.{Var as var_piece, LabelOf as label_piece, Text as text_piece}
use Rattle.plan_core.specs.Events.{RowEvents, first_row, tolled_document}
use Rattle.plan_core.specs.Plans.{Operator}
use Rattle.plan_core.specs.Tolled.{trees_below, tolled_at}
use Rattle.plan_core.specs.TolledRows.{TolledRow, of_source, element, tolled_value}
use Rattle.plan_evidence.specs.Named.{Listing}
use Rattle.plan_evidence.specs.Remains.{Remains, StandsAt, IsIndex}
use Rattle.plan_forms.specs.Forms.{input_at, label_in, makes_element}
use Rattle.lazy_binding.specs.declared.position.Position.{Position}
use Rattle.lazy_binding.specs.World.{World, place_in}
use Rattle.lazy_plan.specs.Bench.{BenchState, ops_of, documents, IsCursor, IsSpotAt, binding_at, KeepsBench}
use Rattle.lazy_walk.specs.Above.{HasTop, IsItemAt, IsInsideAt, IsLedTo}
use Rattle.lazy_site.specs.Ids.{head_trees, IsRest, IsSite}
use Rattle.lazy_site.specs.Levels.{IsOpen, of_root, of_member}
use Rattle.lazy_site.specs.Origins.{IsTreeOf, IsTreeOfPiece}
use Rattle.lazy_site.specs.Sizes.{extent}
use Rattle.lazy_site.specs.Standing.{remains, IsHolder, hand_op, hand_at, IsStanding}
use Rattle.lazy_site.specs.declared.sites.Head.{Head}
use Rattle.lazy_site.specs.declared.sites.Head.TheVariants.{Whole, Built, Leaf, Text}
use Rattle.lazy_site.specs.declared.sites.Rest.{Rest}
use Rattle.lazy_site.specs.declared.sites.Site.{Site}
use Rattle.lazy_site.specs.declared.sites.Site.TheVariants.{Root, Inside, Item}
use Rattle.lazy_site.proofs.Along.{below-kept}
use Rattle.lazy_site.proofs.Holders.{hand_cursor, open_holder}
use Rattle.lazy_site.proofs.Keep.{events_kept, Stands-kept, element-kept, head_trees-kept, sizes_kept, IsRest-kept}
use Rattle.lazy_site.proofs.StandingKept.{remains-kept, IsHolder-kept, AreBelow-kept}

-- a walk stands at a tree of the same list with the same left of it, over the same documents and bindings
same_stands : {docs docs' : Documents} {ops : List Operator} {here here' there there' : TolledRow} {list : Listing} {r r' : Remains} {piece : Piece} → docs' ≡ docs → here' ≡ here → r' ≡ r → there' ≡ there
    → StandsAt docs ops here list r there piece → StandsAt docs' ops here' list r' there' piece
same_stands {docs = docs} {docs' = docs'} {ops = ops} {here = here} {here' = here'} {there = there} {there' = there'} {list = list} {r = r} {r' = r'} {piece = piece} d h z t s =
    subst (λ (x : Documents). StandsAt x ops here' list r' there' piece) (sym d)
    (subst (λ (x : TolledRow). StandsAt docs ops x list r' there' piece) (sym h)
    (subst (λ (x : Remains). StandsAt docs ops here list x there' piece) (sym z)
    (subst (λ (x : TolledRow). StandsAt docs ops here list r x piece) (sym t) s)))

-- as many trees are left of a variable's list, over the same documents and bindings
same_index : (v j : ℕ) {docs docs' : Documents} {row row' : TolledRow} {r r' : Remains} → docs' ≡ docs → row' ≡ row → r' ≡ r → IsIndex docs row v r j → IsIndex docs' row' v r' j
same_index v j {docs = docs} {docs' = docs'} {row = row} {row' = row'} {r = r} {r' = r'} d h z i =
    subst (λ (x : Documents). IsIndex x row' v r' j) (sym d) (subst (λ (x : TolledRow). IsIndex docs x v r' j) (sym h) (subst (λ (x : Remains). IsIndex docs row v x j) (sym z) i))

module _ (a : BenchState) (w : World) where
  -- a later state of the same plan
  abbrev later : BenchState
  later = record { world = w; plan = a.plan }

  module _ (k : KeepsBench a later) where
    module _ (n : ℕ) (c : Position) (h : IsCursor a n c) where
      -- the binding of a cursor is the same after a call
      row_same : binding_at later n c ≡ binding_at a n c
      row_same = (k.cursors n c h).binding

      -- a node or an element is the value of a variable after a call
      tree-kept : (v : ℕ) (x : Head) → IsTreeOf a n c v x → IsTreeOf later n c v x
      tree-kept v (Whole s p) o = record {
        origin = (k.spots s p o.origin).spot;
        value = ap (λ (row : TolledRow). tolled_value row v) row_same ∙ o.value ∙ ap of_source (sym (k.spots s p o.origin).node);
        kind = o.kind;
        size = o.size;
        extent = subst (λ (f : ℕ → ℕ). 1 ≤ extent f (ops_of a) n v) (sym (sizes_kept a later k)) o.extent;
        rank = o.rank;
        maker = o.maker;
        matter = o.matter;
      }
      tree-kept v (Built op at) o = record {
        origin = Stands-kept a later k op makes_element at o.origin;
        value = ap (λ (row : TolledRow). tolled_value row v) row_same ∙ o.value ∙ ap (element (label_in (op_at (ops_of a) op))) (sym (element-kept a later k op at o.origin));
        kind = o.kind;
        size = o.size;
        extent = subst (λ (f : ℕ → ℕ). 1 ≤ extent f (ops_of a) n v) (sym (sizes_kept a later k)) o.extent;
        rank = o.rank;
        maker = o.maker;
        matter = below-kept a later k n c h (input_at (ops_of a) op) at o.matter;
      }
      tree-kept v (Leaf s p) o = o
      tree-kept v (Text op index) o = o

      -- a node is the tree of a piece after a call
      piece-kept : (q : Piece) (x : Head) → IsTreeOfPiece a n c q x → IsTreeOfPiece later n c q x
      piece-kept (var_piece v) x o = tree-kept v x o
      piece-kept (label_piece v) (Whole s p) o = o
      piece-kept (label_piece v) (Built op at) o = o
      piece-kept (label_piece v) (Leaf s p) o = tree-kept v (Whole s p) o
      piece-kept (label_piece v) (Text op index) o = o
      piece-kept (text_piece label) (Whole s p) o = o
      piece-kept (text_piece label) (Built op at) o = o
      piece-kept (text_piece label) (Leaf s p) o = o
      piece-kept (text_piece label) (Text op index) o = o

    module _ (n : ℕ) (c : Position) (h : IsHolder a n c) (list : Listing) (head : Head) (r : Rest) (i : IsRest a r) where
      -- a node stands in a list, as the tree of the same piece, after a call
      abbrev IsStanding-kept : IsStanding a n c list head r → IsStanding later n c list head r
      IsStanding-kept s =
          let d = hand_cursor a n c h list head r i s in record {
            piece = s.piece;
            tree = piece-kept (hand_op a n r) (hand_at c r) d s.piece head s.tree;
            stands = same_stands k.documents (row_same n c h.cursor) (remains-kept a later k r i) (row_same (hand_op a n r) (hand_at c r) d) s.stands;
          }

      -- a node is at the same index of a list after a call
      IsIndex-kept : (v j : ℕ) → IsIndex (documents a) (binding_at a n c) v (remains a r) j → IsIndex (documents later) (binding_at later n c) v (remains later r) j
      IsIndex-kept v j x = same_index v j k.documents (row_same n c h.cursor) (remains-kept a later k r i) x

    -- the list of an element is open after a call
    open_later : {rests : List Rest} {q : List ℕ} {n v : ℕ} {c : Position} {list : Listing} → IsOpen a rests q n c v list → IsOpen later rests q n c v list
    open_later (of_root {n = n} {c = c} h o row e has) =
        of_root (IsHolder-kept a later k n c h) o (row_same n c h.cursor ∙ row ∙ ap (λ (es : RowEvents). first_row (found es)) (sym (events_kept a later k n))) e has
    open_later (of_member {n = n} {v = v} {c = c} {list = list} {head = head} {r = r} up i s j index own e has h) =
        let x = (open_holder a up).0 in
        of_member {head = head} (open_later up) (IsRest-kept a later k r i) (IsStanding-kept n c x list head r i s) j (IsIndex-kept n c x list head r i v j index) own e has
        (IsHolder-kept a later k (hand_op a n r) (hand_at c r) h)

    -- a node stands at the same place after a call
    item_later : (above : List Rest) (head : Head) (r : Rest) (p : List ℕ) → IsItemAt a above head r p → IsItemAt later above head r p
    item_later above head r p i =
        let h = (open_holder a i.is_open).0 in record {
          element = i.element;
          index = i.index;
          place = i.place;
          op = i.op;
          at = i.at;
          var = i.var;
          list = i.list;
          is_open = open_later i.is_open;
          rest = IsRest-kept a later k r i.rest;
          is_below = AreBelow-kept a later k i.op i.at h r i.is_below;
          stands = IsStanding-kept i.op i.at h i.list head r i.rest i.stands;
          is_index = IsIndex-kept i.op i.at h i.list head r i.rest i.var i.index i.is_index;
        }

    -- a node inside a source stands at the same place after a call
    inside_later : (s : ℕ) (x : Spot) → place_in later.world s x ≡ place_in a.world s x → (above : List Rest) (top : Option Spot) (p : List ℕ) → IsInsideAt a s x above top p → IsInsideAt later s x above top p
    inside_later s x same above top p i =
        let t = k.spots s i.spot i.known in record {
          spot = i.spot;
          is_top = i.is_top;
          known = t.spot;
          rest = i.rest;
          outer = i.outer;
          is_above = i.is_above;
          start = i.start;
          way = i.way;
          place = i.place;
          some = i.some;
          is_below = same ∙ i.is_below ∙ ap (λ (q : List ℕ). q ++ i.way) (sym (ap (λ (z : Node). z.place) t.node));
          item = item_later i.outer (Whole s i.spot) i.rest i.start i.item;
          kids = ap (λ (d : Documents). trees_below (tolled_at (tolled_document d (ops_of a)) i.start)) k.documents ∙ i.kids ∙ sym (kids_same s i.spot i.known);
        }
      where
        kids_same : (t : ℕ) (y : Spot) → IsSpotAt a t y → head_trees later (Whole t y) ≡ head_trees a (Whole t y)
        kids_same t y g = head_trees-kept a later k (Whole t y) g

module _ (a b : BenchState) (k : KeepsBench a b) where
  -- a state after a call is one of the same plan
  same_plan : b ≡ later a b.world
  same_plan = λ i. record { world = b.world; plan = k.plan i }

  -- what holds of each later state of the same plan holds of the state after a call
  by_plan : (P : BenchState → Type 0) → (KeepsBench a (later a b.world) → P (later a b.world)) → P b
  by_plan P f = subst P (sym same_plan) (f (subst (KeepsBench a) same_plan k))

  -- the list of an element is open after a call
  pub open-kept : {rests : List Rest} {q : List ℕ} {n v : ℕ} {c : Position} {list : Listing} → IsOpen a rests q n c v list → IsOpen b rests q n c v list
  open-kept {rests = rests} {q = q} {n = n} {v = v} {c = c} {list = list} o = by_plan (λ st. IsOpen st rests q n c v list) (λ z. open_later a b.world z o)

  -- a node stands at the same place after a call
  pub item-kept : (above : List Rest) (head : Head) (r : Rest) (p : List ℕ) → IsItemAt a above head r p → IsItemAt b above head r p
  item-kept above head r p o = by_plan (λ st. IsItemAt st above head r p) (λ z. item_later a b.world z above head r p o)

  -- the place of a spot is the same after a call
  pub place-kept : (s : ℕ) (x : Spot) → IsSpotAt a s x → place_in b.world s x ≡ place_in a.world s x
  place-kept s x h = ap (λ (z : Node). z.place) (k.spots s x h).node

  -- a node inside a source stands at the same place after a call
  pub inside-kept : (s : ℕ) (x : Spot) → IsSpotAt a s x → (above : List Rest) (top : Option Spot) (p : List ℕ) → IsInsideAt a s x above top p → IsInsideAt b s x above top p
  inside-kept s x h above top p o = by_plan (λ st. IsInsideAt st s x above top p) (λ z. inside_later a b.world z s x (place-kept s x h) above top p o)

  -- what is kept above an identifier leads to the same place after a call
  pub led-kept : (n : Site) → IsSite a n → (above : List Rest) (top : Option Spot) (p : List ℕ) → IsLedTo a n above top p → IsLedTo b n above top p
  led-kept Root h above top p o = o
  led-kept (Inside s x) h above top p o = inside-kept s x h above top p o
  led-kept (Item head r) h above top p o = item-kept above head r.value p o

  -- a top that is kept is one of the source after a call
  pub HasTop-kept : (n : Site) (top : Option Spot) → HasTop a n top → HasTop b n top
  HasTop-kept Root top h = h
  HasTop-kept (Inside s x) None h = tt
  HasTop-kept (Inside s x) (Some t) h = (k.spots s t h).spot
  HasTop-kept (Item head r) top h = h

  -- what is after the elements above is made of cursors and operators of the bench after a call
  pub rests-kept : (above : List Rest) → AllByRecursion (IsRest a) above → AllByRecursion (IsRest b) above
  rests-kept above h = each_weaker (IsRest a) (IsRest b) (IsRest-kept a b k) above h
