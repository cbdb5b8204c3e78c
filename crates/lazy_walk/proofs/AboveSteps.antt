-- What is above a node that a step reached leads to the place that was asked for.
use Rattle.std.proofs.Common.{◌≡◌, ◌<◌, ◌+◌, ℕ, suc, true, List, [], ◌∷◌, ◌++◌, append_assoc, length, length-append, Option, Some, None, refl, ◌∙◌, sym, ap, subst, arith}
use Rattle.std.specs.Prelude.{IsTrue, MatchOption, option_map}
use Rattle.std.specs.List.{AllByRecursion}
use Rattle.mix_base.proofs.Choices.{some_is}
use Rattle.mix_base.specs.Events.{found}
use Rattle.mix_tree.specs.Nodes.{Documents}
use Rattle.mix_tree.specs.Place.{child_place, next_place}
use Rattle.tree_buffer.specs.declared.spot.Spot.{Spot}
use Rattle.plan_core.specs.ByNumber.{op_at}
use Rattle.plan_core.specs.declared.plan.Piece.{Piece}
use Rattle.plan_core.specs.declared.plan.Piece.TheVariants.{Var as var_piece, LabelOf as label_piece, Text as text_piece}
use Rattle.plan_core.specs.Events.{first_row, events, element_alone, tolled_destroyed, tolled_document}
use Rattle.plan_core.specs.declared.plan.Plan.{Plan}
use Rattle.plan_core.specs.PlanMade.{plan_value}
use Rattle.plan_core.specs.Tolled.{Tolled, ends, is_item, trees_below, trees_after, paid, tolled_at}
use Rattle.plan_core.specs.TolledRows.{TolledRow, TolledValue, element, tolled_value, piece_items}
use Rattle.plan_core.specs.Typed.{IsTyped}
use Rattle.plan_core.specs.Valid.{a_list, an_element, kinds, IsValid}
use Rattle.plan_evidence.proofs.Counts.{piece_count}
use Rattle.plan_evidence.proofs.Makers.{made_by}
use Rattle.plan_evidence.proofs.Shown.{count-plain, IsElementIn}
use Rattle.plan_evidence.proofs.TreeLists.{count}
use Rattle.plan_evidence.specs.Named.{Listing, element_list, outer_of, count_trees}
use Rattle.plan_evidence.specs.Remains.{trees_left}
use Rattle.plan_forms.proofs.Lasts.{valid_ends, last_is}
use Rattle.lazy_binding.specs.Bench.{IsBench}
use Rattle.lazy_binding.specs.declared.position.Position.{Position}
use Rattle.lazy_binding.specs.World.{place_in}
use Rattle.lazy_plan.specs.Bench.{BenchState, ops_of, documents, events_of, told, IsSpotAt, binding_at, KeepsBench}
use Rattle.lazy_walk.specs.Above.{rests_above, rests_below, rests_with, top_above, top_below, top_with, HasTop, IsItemAt, IsInsideAt, IsLedTo}
use Rattle.lazy_site.specs.Ids.{here, head_trees, element_trees, rest_trees, IsRest, IsSite}
use Rattle.lazy_site.specs.Levels.{HasList, IsOpen, of_root, of_member}
use Rattle.lazy_site.specs.Origins.{IsTreeOf, IsTreeOfPiece}
use Rattle.lazy_site.specs.Standing.{remains, IsHolder, hand_op, hand_at, SiteStandsIn, StandsInSource, ChildStandsIn, SiteChildIn, SiteNextIn, IsInOuter}
use Rattle.lazy_walk.specs.Places.{IsNode, IsAt}
use Rattle.lazy_site.specs.Steps.{StandsFor}
use Rattle.lazy_site.specs.declared.sites.Head.{Head}
use Rattle.lazy_site.specs.declared.sites.Head.TheVariants.{Whole, Built, Leaf, Text}
use Rattle.lazy_walk.specs.declared.ids.WalkedNode.{WalkedNode}
use Rattle.lazy_site.specs.declared.sites.Rest.{Rest}
use Rattle.lazy_site.specs.declared.sites.Site.{Site}
use Rattle.lazy_site.specs.declared.sites.Site.TheVariants.{Root, Inside, Item}
use Rattle.lazy_walk.proofs.AboveKept.{open-kept, item-kept, inside-kept, place-kept, rests-kept}
use Rattle.lazy_site.proofs.DownIn.{element_pieces}
use Rattle.lazy_site.proofs.Holders.{left_there, open_holder}
use Rattle.lazy_site.proofs.Indexes.{below_paid, after_paid, count_from, rest_left}
use Rattle.lazy_site.proofs.Keep.{ops_kept, head_trees-kept, IsRest-kept}
use Rattle.lazy_site.proofs.Listings.{holder_sound, makes_out}
use Rattle.lazy_site.proofs.Opening.{hand_holder}

-- WHATEVER IS TOLD

module _ (a b : BenchState) (k : KeepsBench a b) where
  -- no top is kept of a node outside the sources
  no_top : (x : Site) (top : Option Spot) → top ≡ None → HasTop b x top
  no_top x top e = subst (HasTop b x) (sym e) (nothing x)
    where
      nothing : (x : Site) → HasTop b x None
      nothing Root = refl
      nothing (Inside s p) = tt
      nothing (Item head rest) = refl

  -- the top of a subtree in which a node of a source lies is one of the same source for what a step in it reaches
  source_top : (s : ℕ) (there : Option (List ℕ)) (top : Option Spot) → MatchOption top (Unit {0}) (IsSpotAt a s) → (x : Site) → StandsInSource b s there x → HasTop b x top
  source_top s there None h x i = no_top x None refl
  source_top s there (Some t) h Root i = absurd i
  source_top s there (Some t) h (Inside u q) i = subst (λ (n : ℕ). IsSpotAt b n t) (sym i.0) (k.spots s t h).spot
  source_top s there (Some t) h (Item head rest) i = absurd i

  -- the top that is kept of a first child is one of its source
  pub child_top : (n : Site) (top : Option Spot) → IsSite a n → HasTop a n top → (x : Site) → SiteChildIn a b n (Some x) → HasTop b x (top_with n top)
  child_top Root top h t x i = no_top x None refl
  child_top (Inside s p) top h t x i = source_top s _ top t x i
  child_top (Item (Whole s p) rest) top h t x i = source_top s _ (Some p) h.0 x i
  child_top (Item (Built op at) rest) top h t x i = no_top x None refl
  child_top (Item (Leaf s p) rest) top h t x i = no_top x None refl
  child_top (Item (Text op index) rest) top h t x i = no_top x None refl

  -- the top that is kept of a next sibling is one of its source
  pub next_top : (n : Site) (top : Option Spot) → HasTop a n top → (x : Site) → SiteNextIn a b n (Some x) → HasTop b x top
  next_top Root top t x i = no_top x top t
  next_top (Inside s p) top t x i = source_top s _ top t x i
  next_top (Item head rest) top t x i = no_top x top t

  -- what is after the elements above a first child is of the bench
  pub child_rests : (n : Site) (above : List Rest) → IsSite a n → AllByRecursion (IsRest a) above → AllByRecursion (IsRest b) (rests_with n above)
  child_rests Root above h r = tt
  child_rests (Inside s p) above h r = rests-kept a b k above r
  child_rests (Item head rest) above h r = (IsRest-kept a b k rest.value h.1, rests-kept a b k above r)

-- NUMBERS OF TREES

-- where a node is the first of some trees, as many are left of its list as come after it
left_after : (st : BenchState) (head : Head) (rest : _) (f : Tolled) → here st (Item head rest) ≡ paid f → is_item f ≡ true → count_trees f ≡ suc (count_trees (trees_left (documents st) (remains st rest.value)))
left_after st head rest f e t =
    let a = count_from f 0 t in
    let b = ap count_trees (sym (rest_left st rest.value) ∙ ap trees_after e ∙ after_paid f) in
    omega (arith, a, b)

-- IN A LIST

module _ (st : BenchState) (y : IsTrue (told st)) (above : List Rest) (q : List ℕ) (n : ℕ) (c : Position) (v : ℕ) (list : Listing) (o : IsOpen st above q n c v list) (x : Site) (i : SiteStandsIn st n c list x) (known : IsSite st x)
    (j : ℕ) (f : Tolled) (there : here st x ≡ paid f) (some : is_item f ≡ true) (number : count_trees (piece_items (documents st) (var_piece v) (binding_at st n c) (ends 0)) ≡ j + count_trees f) (top : Option Spot) where
  -- a node that stands in an open list, as the first of the trees from an index on, is at that index
  stands_at : (p : List ℕ) → p ≡ q ++ j ∷ [] → IsLedTo st x above top p
  stands_at p e = goes x i known there
    where
      goes : (z : Site) → SiteStandsIn st n c list z → IsSite st z → here st z ≡ paid f → IsLedTo st z above top p
      goes Root s h t = absurd s
      goes (Inside u w) s h t = absurd s
      goes (Item head rest) s h t = record {
        element = q;
        index = j;
        place = e;
        op = n;
        at = c;
        var = v;
        list = list;
        is_open = o;
        rest = h.1;
        is_below = s.below;
        stands = s.standing y;
        is_index = (let z = left_after st head rest f t some in omega (arith, z, number));
      }

module _ (st : BenchState) (valid : IsValid (plan_value st.plan)) (typed : IsTyped (ops_of st)) (y : IsTrue (told st)) (n : ℕ) (c : Position) (h : IsHolder st n c) (v : ℕ) (kind : kinds (ops_of st) n v ≡ Some an_element) where
  -- the element that a variable holds
  element_in : IsElementIn (documents st) (ops_of st) (kinds (ops_of st) n) (binding_at st n c) v
  element_in = holder_sound st valid typed n c h y v an_element kind

  -- the variable of the element's list
  abbrev inner_var : ℕ
  inner_var = element_in.inner

  -- how the element's list is made
  abbrev inner_list : Listing
  inner_list = (holder_sound st valid typed n c h y element_in.inner a_list element_in.bound).listing

  -- the element's variable has a list
  inner_has : HasList st n inner_var inner_list
  inner_has = (element_in.bound, (holder_sound st valid typed n c h y element_in.inner a_list element_in.bound).is_listing)

  -- the list of the element has as many trees as the element
  inner_count : (label : List ℕ) (kids : Tolled) → tolled_value (binding_at st n c) v ≡ element label kids
      → count_trees (piece_items (documents st) (var_piece inner_var) (binding_at st n c) (ends 0)) ≡ count_trees kids
  inner_count label kids e =
      let docs = documents st in
      let same : element_in.kids ≡ kids = (let z : element element_in.label element_in.kids ≡ element label kids = sym element_in.is_value ∙ e in cc) in
      let a = piece_count docs (var_piece inner_var) (binding_at st n c) (ends 0) in
      let b = count-plain docs element_in.kids in
      let d = ap count_trees same in
      let g = ap count element_in.shows in
      omega (arith, a, b, d, g)

-- THE FIRST CHILD

-- the element below the last operator is the document
alone_kids : (v : TolledValue) (label : List ℕ) (kids : Tolled) → v ≡ element label kids → trees_below (element_alone v) ≡ kids
alone_kids v label kids e = ap (λ z. trees_below (element_alone z)) e

module _ (st : BenchState) (valid : IsValid (plan_value st.plan)) (typed : IsTyped (ops_of st)) (y : IsTrue (told st)) (x : Site) (o : IsInOuter st x) (known : IsSite st x)
    (there : here st x ≡ paid (trees_below (tolled_document (documents st) (ops_of st)))) (some : is_item (trees_below (tolled_document (documents st) (ops_of st))) ≡ true) (top : Option Spot) where
  -- the first child of the root stands at its place
  pub root_led : IsLedTo st x [] top (0 ∷ [])
  root_led =
      let l = last_is (plan_value st.plan) valid typed in
      let ends_at = valid_ends (plan_value st.plan) valid in
      let last : ℕ × ℕ = (ends_at.input, ends_at.element) in
      let own : ℕ × ℕ = (o.input, o.outer) in
      let same : last ≡ own = some_is last own (sym (ap outer_of l.last) ∙ o.is_outer) in
      let kind : kinds (ops_of st) o.input o.outer ≡ Some an_element = subst (λ (p : ℕ × ℕ). kinds (ops_of st) p.0 p.1 ≡ Some an_element) same l.kind in
      let z = element_in st valid typed y o.input o.at o.holder o.outer kind in
      let has = inner_has st valid typed y o.input o.at o.holder o.outer kind in
      let kids : trees_below (tolled_document (documents st) (ops_of st)) ≡ z.kids =
      ap (λ p. trees_below (tolled_destroyed (events (documents st) (ops_of st)) p)) l.last
      ∙ ap (λ (p : ℕ × ℕ). trees_below (element_alone (tolled_value (first_row (found (events_of st p.0))) p.1))) same
      ∙ ap (λ (row : TolledRow). trees_below (element_alone (tolled_value row o.outer))) (sym (o.row y))
      ∙ alone_kids (tolled_value (binding_at st o.input o.at) o.outer) z.label z.kids z.is_value in
      let number = inner_count st valid typed y o.input o.at o.holder o.outer kind z.label z.kids z.is_value in
      stands_at st y [] [] o.input o.at z.inner (inner_list st valid typed y o.input o.at o.holder o.outer kind) (of_root o.holder o.is_outer (o.row y) z.is_inner has) x
      (o.stands z.inner (inner_list st valid typed y o.input o.at o.holder o.outer kind) z.is_inner has.1) known 0 (trees_below (tolled_document (documents st) (ops_of st))) there some
      (let a = ap count_trees kids in omega (arith, number, a)) top (0 ∷ []) refl

-- the next place after one is the same up to its last index
pub next_place-push : (p : List ℕ) (k : ℕ) → next_place (p ++ k ∷ []) ≡ Some (p ++ (k + 1) ∷ [])
next_place-push [] k = refl
next_place-push (x ∷ []) k = refl
next_place-push (x ∷ y ∷ p) k = ap (option_map (λ (q : List ℕ). x ∷ q)) (next_place-push (y ∷ p) k)

-- the last of the indexes that lead on from a place
last_index : (k : ℕ) (way : List ℕ) → (front : List ℕ) × (last : ℕ) × (k ∷ way ≡ front ++ last ∷ [])
last_index k [] = ([], k, refl)
last_index k (j ∷ way) = (let r = last_index j way in (k ∷ r.0, r.1, ap (λ (z : List ℕ). k ∷ z) r.2))

-- the next place of one that leads on from another leads on from that one too
next_way : (way : List ℕ) → 0 < length way → (more : List ℕ) × (0 < length more) × ((start : List ℕ) → next_place (start ++ way) ≡ Some (start ++ more))
next_way [] h = absurd (omega (arith, h))
next_way (k ∷ way) h =
    let r = last_index k way in
    let size = length-append r.0 ((r.1 + 1) ∷ []) in (
      r.0 ++ (r.1 + 1) ∷ [],
      omega (arith, size),
      λ start. ap (λ (z : List ℕ). next_place (start ++ z)) r.2 ∙ ap next_place (sym (append_assoc start r.0 (r.1 ∷ []))) ∙ next_place-push (start ++ r.0) r.1
          ∙ ap Some (append_assoc start r.0 ((r.1 + 1) ∷ [])),
    )

-- a node inside a source whose place is another one below the same top stands at that place
inside_moved : (st : BenchState) (s : ℕ) (w : Spot) (above : List Rest) (top : Option Spot) (p : List ℕ) (i : IsInsideAt st s w above top p) (more : List ℕ) → 0 < length more → (q : List ℕ) → q ≡ i.start ++ more
    → (x : Site) → StandsInSource st s (Some (place_in st.world s i.spot ++ more)) x → IsLedTo st x above top q
inside_moved st s w above top p i more some q e Root c = absurd c
inside_moved st s w above top p i more some q e (Item head rest) c = absurd c
inside_moved st s w above top p i more some q e (Inside u z) c =
    subst (λ (t : ℕ). IsLedTo st (Inside t z) above top q) (sym c.0)
    (record {
      spot = i.spot;
      is_top = i.is_top;
      known = i.known;
      rest = i.rest;
      outer = i.outer;
      is_above = i.is_above;
      start = i.start;
      way = more;
      place = e;
      some = some;
      is_below = some_is (place_in st.world s z) (place_in st.world s i.spot ++ more) c.1;
      item = i.item;
      kids = i.kids;
    })

-- a node that is an element is the tree of a variable
built_var : (st : BenchState) (n : ℕ) (c : Position) (piece : Piece) (op : ℕ) (at : Position) → IsTreeOfPiece st n c piece (Built op at)
    → (v : ℕ) × (piece ≡ var_piece v) × IsTreeOf st n c v (Built op at)
built_var st n c (var_piece v) op at h = (v, refl, h)
built_var st n c (label_piece v) op at h = absurd h
built_var st n c (text_piece label) op at h = absurd h

module _ (a b : BenchState) (k : KeepsBench a b) (valid : IsValid (plan_value a.plan)) (typed : IsTyped (ops_of a)) (bench : IsBench a.world (ops_of a)) (y : IsTrue (told a)) where
  -- sources that were told are told after a call
  told_later : IsTrue (told b)
  told_later = subst IsTrue (sym k.told) y

  module _ (op : ℕ) (at : Position) (r : Rest) (above : List Rest) (p : List ℕ) (i : IsItemAt a above (Built op at) r p) (x : Site) (child : ChildStandsIn a b op at (Some x)) (known : IsSite b x)
      (there : here b x ≡ paid (element_trees a op at)) (some : is_item (element_trees a op at) ≡ true) (top : Option Spot) where
    -- the first child of a made element stands at its place
    built_led : IsLedTo b x (r ∷ above) top (child_place p)
    built_led =
        let open_in = open_holder a i.is_open in
        let n = hand_op a i.op r in
        let c = hand_at i.at r in
        let h : IsHolder a n c = hand_holder a valid typed bench y i.op i.at open_in.0 i.var i.list open_in.1 (Built op at) r i.rest i.stands in
        let e = built_var a n c i.stands.piece op at i.stands.tree in
        let o = e.2 in
        let z = element_in a valid typed y n c h e.0 o.kind in
        let list = inner_list a valid typed y n c h e.0 o.kind in
        let has = inner_has a valid typed y n c h e.0 o.kind in
        let made = made_by (plan_value a.plan) valid typed e.0 op o.origin.within (makes_out (op_at (ops_of a) op) e.0 o.maker) in
        let pieces = element_pieces (op_at (ops_of a) op) o.origin.is z.inner (sym (ap element_list made.is_maker) ∙ z.is_inner) in
        let before = of_member {head = Built op at} i.is_open i.rest i.stands i.index i.is_index e.1 z.is_inner has h in
        let number = inner_count a valid typed y n c h e.0 o.kind _ (element_trees a op at) o.value in
        let same : piece_items (documents b) (var_piece z.inner) (binding_at b n c) (ends 0) ≡ piece_items (documents a) (var_piece z.inner) (binding_at a n c) (ends 0) =
        ap (λ (d : Documents). piece_items d (var_piece z.inner) (binding_at b n c) (ends 0)) k.documents
        ∙ ap (λ (row : TolledRow). piece_items (documents a) (var_piece z.inner) row (ends 0)) (k.cursors n c h.cursor).binding in
        subst (λ (q : List ℕ). IsLedTo b x (r ∷ above) top (child_place q)) (sym i.place)
        (stands_at b told_later (r ∷ above) (i.element ++ i.index ∷ []) n c z.inner list (open-kept a b k before) x (child n c z.inner list h o.matter pieces has.1) known 0 (element_trees a op at) there some
        (let a = ap count_trees same in omega (arith, number, a)) top (child_place (i.element ++ i.index ∷ [])) refl)

  -- the first child of a source's node that stands in a list
  whole_led : (s : ℕ) (t : Spot) (r : Rest) (above : List Rest) (p : List ℕ) → IsItemAt a above (Whole s t) r p → IsSpotAt a s t → trees_below (tolled_at (tolled_document (documents b) (ops_of b)) p) ≡ head_trees b (Whole s t)
      → (x : Site) → StandsInSource b s (Some (child_place (place_in a.world s t))) x → IsLedTo b x (r ∷ above) (Some t) (child_place p)
  whole_led s t r above p i h kids Root c = absurd c
  whole_led s t r above p i h kids (Item head rest) c = absurd c
  whole_led s t r above p i h kids (Inside u q) c =
      subst (λ (z : ℕ). IsLedTo b (Inside z q) (r ∷ above) (Some t) (child_place p)) (sym c.0)
      (record {
        spot = t;
        is_top = refl;
        known = (k.spots s t h).spot;
        rest = r;
        outer = above;
        is_above = refl;
        start = p;
        way = 0 ∷ [];
        place = refl;
        some = omega arith;
        is_below = some_is (place_in b.world s q) (child_place (place_in a.world s t)) c.1 ∙ ap child_place (sym (place-kept a b k s t h));
        item = item-kept a b k above (Whole s t) r p i;
        kids = kids;
      })

  -- the document with its tolls is the same after a call
  document_later : tolled_document (documents b) (ops_of b) ≡ tolled_document (documents a) (ops_of a)
  document_later = ap (λ (d : Documents). tolled_document d (ops_of b)) k.documents ∙ ap (tolled_document (documents a)) (ops_kept a b k)

  -- the plan is valid after a call
  valid_later : IsValid (plan_value b.plan)
  valid_later = subst (λ (p : Plan). IsValid (plan_value p)) (sym k.plan) valid

  -- the plan is typed after a call
  typed_later : IsTyped (ops_of b)
  typed_later = subst IsTyped (sym (ops_kept a b k)) typed

  -- a first child stands at the place of the first child
  pub child_led : (n : Site) (above : List Rest) (top : Option Spot) (p : List ℕ) → IsSite a n → IsLedTo a n above top p → here a n ≡ paid (tolled_at (tolled_document (documents a) (ops_of a)) p)
      → (x : Site) → SiteChildIn a b n (Some x) → StandsFor a b (trees_below (here a n)) x → IsLedTo b x (rests_with n above) (top_with n top) (child_place p)
  child_led Root above top p site led is x child h =
      let same : trees_below (here a Root) ≡ trees_below (tolled_document (documents b) (ops_of b)) = ap trees_below (sym document_later) in
      subst (λ (q : List ℕ). IsLedTo b x [] None (child_place q)) (sym led)
      (root_led b valid_later typed_later told_later x child h.node (h.here y ∙ ap paid same) (ap is_item (sym same) ∙ h.tree y) None)
  child_led (Inside s w) above top p site led is x child h =
      let i = inside-kept a b k s w site above top p led in
      let more = i.way ++ 0 ∷ [] in
      let there : child_place (place_in a.world s w) ≡ place_in b.world s i.spot ++ more =
      ap child_place (sym (place-kept a b k s w site) ∙ i.is_below) ∙ append_assoc (place_in b.world s i.spot) i.way (0 ∷ []) in
      inside_moved b s w above top p i more (let z = length-append i.way (0 ∷ []) in omega (arith, z)) (child_place p) (ap child_place i.place ∙ append_assoc i.start i.way (0 ∷ [])) x
      (subst (λ (q : List ℕ). StandsInSource b s (Some q) x) there child)
  child_led (Item (Whole s t) rest) above top p site led is x child h =
      let kids = ap (λ (f : Tolled). trees_below (tolled_at f p)) document_later ∙ sym (below_paid (tolled_at (tolled_document (documents a) (ops_of a)) p)) ∙ sym (ap trees_below is)
      ∙ sym (head_trees-kept a b k (Whole s t) site.0) in
      whole_led s t rest.value above p led site.0 kids x child
  child_led (Item (Built op at) rest) above top p site led is x child h = built_led op at rest.value above p led x child h.node (h.here y) (h.tree y) None
  child_led (Item (Leaf s t) rest) above top p site led is x child h = (let z = h.tree y in cc)
  child_led (Item (Text op index) rest) above top p site led is x child h = (let z = h.tree y in cc)

  -- a next sibling stands at the next place
  pub next_led : (n : Site) (above : List Rest) (top : Option Spot) (p : List ℕ) → IsSite a n → IsLedTo a n above top p → (x : Site) → SiteNextIn a b n (Some x)
      → StandsFor a b (trees_after (here a n)) x → (q : List ℕ) → next_place p ≡ Some q → IsLedTo b x above top q
  next_led Root above top p site led x next h q e = (let z : next_place [] ≡ Some q = ap next_place (sym led) ∙ e in cc)
  next_led (Inside s w) above top p site led x next h q e =
      let i = inside-kept a b k s w site above top p led in
      let m = next_way i.way i.some in
      let there : next_place (place_in a.world s w) ≡ Some (place_in b.world s i.spot ++ m.0) =
      ap next_place (sym (place-kept a b k s w site) ∙ i.is_below) ∙ m.2 (place_in b.world s i.spot) in
      inside_moved b s w above top p i m.0 m.1 q (some_is q (i.start ++ m.0) (sym e ∙ ap next_place i.place ∙ m.2 i.start)) x
      (subst (λ (o : Option (List ℕ)). StandsInSource b s o x) there next)
  next_led (Item head rest) above top p site i x next h q e =
      let open_in = open_holder a i.is_open in
      let r = rest.value in
      let left = next i.op i.at i.list open_in.0 (record { below = i.is_below; left = λ z. left_there (documents a) (ops_of a) (binding_at a i.op i.at) i.stands.stands }) in
      let same : piece_items (documents b) (var_piece i.var) (binding_at b i.op i.at) (ends 0) ≡ piece_items (documents a) (var_piece i.var) (binding_at a i.op i.at) (ends 0) =
      ap (λ (d : Documents). piece_items d (var_piece i.var) (binding_at b i.op i.at) (ends 0)) k.documents
      ∙ ap (λ (row : TolledRow). piece_items (documents a) (var_piece i.var) row (ends 0)) (k.cursors i.op i.at open_in.0.cursor).binding in
      let number = ap count_trees same in
      let index = i.is_index in
      let trees = ap count_trees (rest_left a r) in
      stands_at b told_later above i.element i.op i.at i.var i.list (open-kept a b k i.is_open) x left h.node (i.index + 1) (rest_trees a r) (h.here y) (h.tree y)
      (omega (arith, number, index, trees)) top q (some_is q (i.element ++ (i.index + 1) ∷ []) (sym e ∙ ap next_place i.place ∙ next_place-push i.element i.index))

-- IDENTIFIERS

module _ (a b : BenchState) (k : KeepsBench a b) (n m : WalkedNode) where
  -- a first child that was reached, with what is above the children of a node above it, is one of the walk
  pub child_node : IsNode a n → SiteChildIn a b n.site (Some m.site) → IsSite b m.site → rests_above m.above ≡ rests_below n → top_above m.above ≡ top_below n → IsNode b m
  child_node h child site rests top = record {
    site = site;
    above = subst (AllByRecursion (IsRest b)) (sym rests) (child_rests a b k n.site (rests_above n.above) h.site h.above);
    top = subst (HasTop b m.site) (sym top) (child_top a b k n.site (top_above n.above) h.site h.top m.site child);
  }

  -- a next sibling that was reached, with what is above a node above it, is one of the walk
  pub next_node : IsNode a n → SiteNextIn a b n.site (Some m.site) → IsSite b m.site → rests_above m.above ≡ rests_above n.above → top_above m.above ≡ top_above n.above → IsNode b m
  next_node h next site rests top = record {
    site = site;
    above = subst (AllByRecursion (IsRest b)) (sym rests) (rests-kept a b k (rests_above n.above) h.above);
    top = subst (HasTop b m.site) (sym top) (next_top a b k n.site (top_above n.above) h.top m.site next);
  }

  module _ (valid : IsValid (plan_value a.plan)) (typed : IsTyped (ops_of a)) (bench : IsBench a.world (ops_of a)) (p : List ℕ) (at : IsAt a n p) where
    -- what is above a first child that was reached leads to the place of the first child
    pub child_above : SiteChildIn a b n.site (Some m.site) → StandsFor a b (trees_below (here a n.site)) m.site → rests_above m.above ≡ rests_below n → top_above m.above ≡ top_below n → IsTrue (told a)
        → IsLedTo b m.site (rests_above m.above) (top_above m.above) (child_place p)
    child_above child h rests top y =
        subst (λ (r : List Rest). IsLedTo b m.site r (top_above m.above) (child_place p)) (sym rests)
        (subst (λ (t : Option Spot). IsLedTo b m.site (rests_below n) t (child_place p)) (sym top)
        (child_led a b k valid typed bench y n.site (rests_above n.above) (top_above n.above) p at.node.site (at.above y) (at.here y) m.site child h))

    -- what is above a next sibling that was reached leads to the next place
    pub next_above : SiteNextIn a b n.site (Some m.site) → StandsFor a b (trees_after (here a n.site)) m.site → rests_above m.above ≡ rests_above n.above → top_above m.above ≡ top_above n.above → IsTrue (told a)
        → (q : List ℕ) → next_place p ≡ Some q → IsLedTo b m.site (rests_above m.above) (top_above m.above) q
    next_above next h rests top y q e =
        subst (λ (r : List Rest). IsLedTo b m.site r (top_above m.above) q) (sym rests)
        (subst (λ (t : Option Spot). IsLedTo b m.site (rests_above n.above) t q) (sym top)
        (next_led a b k valid typed bench y n.site (rests_above n.above) (top_above n.above) p at.node.site (at.above y) m.site next h q e))
