-- The lists of the elements to which levels lead, as identifiers below them know them.
use Rattle.std.proofs.Common.{◌≡◌, ◌∙◌, ℕ, ◌<◌, List, [], ◌∷◌, ◌++◌, Option, Some, refl, sym, ap, subst, arith, length, append_assoc, append-nil}
use Rattle.std.specs.Prelude.{IsTrue}
use Rattle.mix_base.proofs.Choices.{some_is, none_some}
use Rattle.mix_base.specs.Events.{found}
use Rattle.node_text.specs.Node.{LevelValue}
use Rattle.plan_core.specs.declared.plan.Piece.{Piece}
use Rattle.plan_core.specs.declared.plan.Piece.TheVariants.{Var as var_piece, LabelOf as label_piece, Text as text_piece}
use Rattle.plan_core.specs.Events.{first_row}
use Rattle.plan_core.specs.PlanMade.{plan_value}
use Rattle.plan_core.specs.Typed.{IsTyped}
use Rattle.plan_core.specs.Valid.{a_node, IsValid}
use Rattle.plan_evidence.specs.Named.{maker, element_list, list_of, Listing, Reached}
use Rattle.plan_evidence.specs.Opened.{Enters}
use Rattle.plan_evidence.specs.Remains.{levels_of, IsIndex}
use Rattle.plan_levels.proofs.Entering.{enters_alike}
use Rattle.tree_buffer.specs.declared.spot.Spot.{Spot}
use Rattle.lazy_binding.specs.Bench.{IsBench}
use Rattle.lazy_binding.specs.declared.position.Position.{Position}
use Rattle.lazy_plan.specs.Bench.{BenchState, ops_of, documents, events_of, told, binding_at}
use Rattle.lazy_site.specs.Ids.{IsRest}
use Rattle.lazy_site.specs.Levels.{HasList, IsOpen, of_root, of_member, reached_at, tuple_at}
use Rattle.lazy_site.specs.Origins.{IsTreeOfPiece}
use Rattle.lazy_site.specs.Standing.{remains, IsHolder, hand_op, hand_at, IsStanding}
use Rattle.lazy_site.specs.declared.sites.Head.{Head}
use Rattle.lazy_site.specs.declared.sites.Head.TheVariants.{Whole}
use Rattle.lazy_site.specs.declared.sites.Rest.{Rest}
use Rattle.lazy_site.proofs.Holders.{open_holder}
use Rattle.lazy_site.proofs.Listings.{holder_sound}
use Rattle.lazy_site.proofs.Opening.{list_in, hand_enters, hand_holder}
use Rattle.lazy_walk.specs.Above.{IsItemAt, IsInsideAt}
use Rattle.lazy_walk.specs.Finding.{HasListAt, of_outer, of_inner}

-- PLACES

-- no place that goes on is empty
pub not_root : (q : List ℕ) (j : ℕ) → q ++ j ∷ [] ≡ [] → ⊥
not_root [] j e = cc
not_root (k ∷ q) j e = cc

-- two places that go on and are the same went on from the same one, by the same index
pub last_same : (p q : List ℕ) (i j : ℕ) → p ++ i ∷ [] ≡ q ++ j ∷ [] → (p ≡ q) × (i ≡ j)
last_same [] [] i j e = (refl, (let h : i ≡ j = cc in h))
last_same [] (b ∷ q) i j e = (let h : [] ≡ q ++ j ∷ [] = cc in absurd (not_root q j (sym h)))
last_same (a ∷ p) [] i j e = (let h : p ++ i ∷ [] ≡ [] = cc in absurd (not_root p i h))
last_same (a ∷ p) (b ∷ q) i j e =
    let h : a ≡ b = cc in
    let t : p ++ i ∷ [] ≡ q ++ j ∷ [] = cc in
    let r = last_same p q i j t in
    (ap (λ (xs : List ℕ). a ∷ xs) r.0 ∙ ap (λ (k : ℕ). k ∷ q) h, r.1)

-- indexes that lead on end with one
pub with_last : (way : List ℕ) → 0 < length way → (front : List ℕ) × (last : ℕ) × (way ≡ front ++ last ∷ [])
with_last [] h = absurd (omega (arith, h))
with_last (k ∷ []) h = ([], k, refl)
with_last (k ∷ j ∷ way) h = (let r = with_last (j ∷ way) (omega arith) in (k ∷ r.0, r.1, ap (λ (z : List ℕ). k ∷ z) r.2))

module _ (st : BenchState) (valid : IsValid (plan_value st.plan)) (typed : IsTyped (ops_of st)) (bench : IsBench st.world (ops_of st)) (y : IsTrue (told st)) where
  -- where the list of an element at a place is open, it is the list that levels found there, over the binding that they reached
  pub record IsSame (here : Reached) (list own : Listing) (n : ℕ) (c : Position) : Type 0 where
    pub list_same : own ≡ list
    pub row_same : here.row ≡ binding_at st n c

  -- a node before a rest and levels of its list lead to one tree alike
  pub tree_alike : (n : ℕ) (c : Position) → IsHolder st n c → (v : ℕ) (own : Listing) → HasList st n v own → (head : Head) (r : Rest) → IsRest st r → (s : IsStanding st n c own head r) → (i : ℕ)
      → IsIndex (documents st) (binding_at st n c) v (remains st r) i → (here there : Reached) (list : Listing) (ls : List LevelValue) (j : ℕ) (piece : Piece) → IsSame here list own n c → Enters (documents st) (ops_of st) here list ls j there piece → i ≡ j
      → (binding_at st (hand_op st n r) (hand_at c r) ≡ there.row) × (s.piece ≡ piece)
  tree_alike n c h v own has head r rest s i index here there list ls j piece same enters z =
      let in_row = list_in st valid typed bench y n c h v own has in
      let mine = hand_enters st valid typed bench y n c h v own has head r rest s i index in
      let theirs : Enters (documents st) (ops_of st) here own ls i there piece =
      subst (λ (k : ℕ). Enters (documents st) (ops_of st) here own ls k there piece) (sym z) (subst (λ (o : Listing). Enters (documents st) (ops_of st) here o ls j there piece) (sym same.list_same) enters) in
      let alike = enters_alike (plan_value st.plan) valid (documents st) (reached_at st n c) here v own in_row same.row_same (levels_of (tuple_at st r) (remains st r)) ls i
      (reached_at st (hand_op st n r) (hand_at c r)) there s.piece piece mine theirs in
      (alike.row, alike.piece)

  -- the value of a variable that is an element's is that of one variable
  var_same : (v w u t : ℕ) → var_piece v ≡ var_piece w → element_list (maker (ops_of st) v) ≡ Some u → element_list (maker (ops_of st) w) ≡ Some t → u ≡ t
  var_same v w u t e f g = (let h : v ≡ w = cc in some_is u t (sym f ∙ ap (λ (x : ℕ). element_list (maker (ops_of st) x)) h ∙ g))

  -- an open list is the one that levels found
  pub element_open : {rests : List Rest} {p q : List ℕ} {n v : ℕ} {c : Position} {own list : Listing} {here : Reached} → IsOpen st rests p n c v own → HasListAt (documents st) (ops_of st) q here list → p ≡ q → IsSame here list own n c
  element_open {here = here} (of_root {n = n} {outer = outer} {v = v} {c = c} {list = own} h o row e has) (of_outer {list = list} x) z =
      let pairs : ◌≡◌ {A = ℕ × ℕ} (n, outer) (x.input, x.outer) = some_is (n, outer) (x.input, x.outer) (sym o ∙ x.is_outer) in
      let var : v ≡ x.list = some_is v x.list (sym e ∙ ap (λ (k : ℕ × ℕ). element_list (maker (ops_of st) k.1)) pairs ∙ x.is_list) in
      record {
        list_same = some_is own list (sym has.1 ∙ ap (list_of (ops_of st)) var ∙ x.is_inner);
        row_same = x.is_row ∙ ap (λ (k : ℕ × ℕ). first_row (found (events_of st k.0))) (sym pairs) ∙ sym row;
      }
  element_open (of_root h o row e has) (of_inner {q = q} {j = j} x enters el lo) z = absurd (not_root q j (sym z))
  element_open (of_member {q = q} up i s j index own e has h) (of_outer x) z = absurd (not_root q j z)
  element_open {here = there} (of_member {q = q} {n = n} {v = v} {e = e} {u = u} {c = c} {list = own} {inner = inner} {head = head} {r = r} up i s j index is el has h)
      (of_inner {here = here} {list = list} {inner = theirs} {q = q'} {ls = ls} {j = j'} {v = w} {u = t} x enters el' lo) z =
      let places = last_same q q' j j' z in
      let above = element_open up x places.0 in
      let holder = open_holder st up in
      let alike = tree_alike n c holder.0 v own holder.1 head r i s j index here there list ls j' (var_piece w) above enters places.1 in
      let vars : u ≡ t = var_same e w u t (sym is ∙ alike.1) el el' in
      record {
        list_same = some_is inner theirs (sym has.1 ∙ ap (list_of (ops_of st)) vars ∙ lo);
        row_same = sym alike.0;
      }

  -- a source's node is no element
  whole_no_element : (n : ℕ) (c : Position) → IsHolder st n c → (piece : Piece) (s : ℕ) (x : Spot) → IsTreeOfPiece st n c piece (Whole s x) → (w u : ℕ) → piece ≡ var_piece w → element_list (maker (ops_of st) w) ≡ Some u → ⊥
  whole_no_element n c h (var_piece v) s x o w u e f =
      let same : v ≡ w = cc in
      none_some u (sym (holder_sound st valid typed n c h y v a_node o.kind).no_element ∙ ap (λ (k : ℕ). element_list (maker (ops_of st) k)) same ∙ f)
  whole_no_element n c h (label_piece v) s x o w u e f = absurd o
  whole_no_element n c h (text_piece label) s x o w u e f = absurd o

  -- levels lead into no list below a source's node
  none_below : {q : List ℕ} {here : Reached} {list : Listing} → HasListAt (documents st) (ops_of st) q here list → (above : List Rest) (s : ℕ) (x : Spot) (r : Rest) (start way : List ℕ) → IsItemAt st above (Whole s x) r start → q ≡ start ++ way → ⊥
  none_below (of_outer o) above s x r [] way i e = not_root i.element i.index (sym i.place)
  none_below (of_outer o) above s x r (k ∷ start) way i e = cc
  none_below (of_inner {here = here} {there = there} {list = list} {q = q} {ls = ls} {j = j} {v = v} {u = u} h enters el lo) above s x r start [] i e =
      let places = last_same q i.element j i.index (e ∙ append-nil start ∙ i.place) in
      let holder = open_holder st i.is_open in
      let same = element_open i.is_open h (sym places.0) in
      let alike = tree_alike i.op i.at holder.0 i.var i.list holder.1 (Whole s x) r i.rest i.stands i.index i.is_index here there list ls j (var_piece v) same enters (sym places.1) in
      let hand = hand_holder st valid typed bench y i.op i.at holder.0 i.var i.list holder.1 (Whole s x) r i.rest i.stands in
      whole_no_element (hand_op st i.op r) (hand_at i.at r) hand i.stands.piece s x i.stands.tree v u alike.1 el
  none_below (of_inner {q = q} {j = j} h enters el lo) above s x r start (k ∷ way) i e =
      let w = with_last (k ∷ way) (omega arith) in
      let places = last_same q (start ++ w.0) j w.1 (e ∙ ap (λ (z : List ℕ). start ++ z) w.2 ∙ sym (append_assoc start w.0 (w.1 ∷ []))) in
      none_below h above s x r start w.0 i places.0

  -- no child of an element to which levels lead lies inside a source
  pub not_inside : (s : ℕ) (x : Spot) (above : List Rest) (top : Option Spot) (q : List ℕ) (i : ℕ) {here : Reached} {list : Listing} → HasListAt (documents st) (ops_of st) q here list → IsInsideAt st s x above top (q ++ i ∷ []) → ⊥
  not_inside s x above top q i h a =
      let w = with_last a.way a.some in
      let places = last_same q (a.start ++ w.0) i w.1 (a.place ∙ ap (λ (z : List ℕ). a.start ++ z) w.2 ∙ sym (append_assoc a.start w.0 (w.1 ∷ []))) in
      none_below h a.outer s a.spot a.rest a.start w.0 a.item places.0
