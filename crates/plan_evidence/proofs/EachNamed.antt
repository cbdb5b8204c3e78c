-- Each node of the plan's document is named by a text.
use Rattle.std.proofs.Common.{◌≡◌, ℕ, zero, suc, ◌+◌, ◌<◌, true, false, cond, List, [], ◌∷◌, ◌++◌, refl, sym, ap, subst, ◌∙◌, arith, length, length-append}
use Rattle.std.specs.Prelude.{Bool, Some, slice_get}
use Rattle.std.specs.List.{AllByRecursion}
use Rattle.mix_base.proofs.Choices.{some_is}
use Rattle.mix_base.proofs.Firsts.{each_filter, each_map, each_passes}
use Rattle.mix_base.specs.Events.{without_skips, found}
use Rattle.mix_tree.specs.Forest.{Forest, LabelledTree, none, tree, from, alone}
use Rattle.mix_tree.specs.Nodes.{Documents, Node, label_at}
use Rattle.mix_tree.specs.Place.{has_place}
use Rattle.mix_tree.specs.declared.var.Key.{Key}
use Rattle.node_text.specs.Node.{LevelValue, NodeValue, level, node, ArePlaces, IsFormed}
use Rattle.plan_core.specs.declared.plan.Piece.{Piece}
use Rattle.plan_core.specs.declared.plan.Piece.TheVariants.{Var as var_piece, LabelOf as label_piece, Text as text_piece}
use Rattle.plan_core.specs.Events.{events, first_row, TolledIsDocument}
use Rattle.plan_core.specs.Plans.{Operator, PlanValue}
use Rattle.plan_core.specs.Shapes.{Shape, one_source, visits_below, pairs_up, passes_on, no_events, shape_of, shape_at}
use Rattle.plan_core.specs.Tolled.{plain}
use Rattle.plan_core.specs.TolledRows.{TolledRow, key_values, same_values, row_node}
use Rattle.plan_core.specs.Typed.{IsTyped}
use Rattle.plan_core.specs.Valid.{Kind, a_node, an_element, a_list, kinds, IsPiece, IsSinglePiece, IsValid}
use Rattle.plan_core.proofs.KeyValues.{all_itself}
use Rattle.plan_core.proofs.Typed.{valid_is_typed}
use Rattle.plan_evidence.specs.Evidence.{ShapeHolds, AreRight, is_on_way, visit_vars, vars_from, evidence_vars, places_of}
use Rattle.plan_evidence.specs.Held.{held, node_values, AreOf}
use Rattle.plan_evidence.specs.Laws.{HasEvidence}
use Rattle.plan_evidence.specs.Named.{maker, Listing, of_pieces, of_group, list_of, IsSingle, before_piece, members, Reached, IsMember, Picks, of_member, of_piece, of_list_member, IsBelow, Leads, to_tree, to_element, to_pieces, IsOuter, LeadsFromOuter, Names, HasPlaceIn, EachIsNamed}
use Rattle.plan_evidence.proofs.Aparts.{at_index, each_without}
use Rattle.plan_evidence.proofs.Evidences.{Evident, all_evident, evident_keys, evident_of, bindings_have_evidence}
use Rattle.plan_evidence.proofs.NamedNodes.{ShowsList, list_value, one_shown, members_ones, members_sound, element_places}
use Rattle.plan_evidence.proofs.Makers.{number_of, element_no_list}
use Rattle.plan_evidence.proofs.NamedOnce.{no_levels}
use Rattle.plan_evidence.proofs.Outers.{outer_is, first_holds}
use Rattle.plan_evidence.proofs.Shown.{shown, shown_by, before_shown, list_trees, IsLow, IsGroup, IsIn, IsRow, IsListOf}
use Rattle.plan_evidence.proofs.Sounds.{piece_low, single_piece}
use Rattle.plan_evidence.proofs.TreeLists.{IsOne, nowhere, member_of, one_of}
use Rattle.browse_class.proofs.FirstKeys.{values_same}

-- PLACES OF EVIDENCE

-- what holds of each of some and of each of others holds of each together
each_more : (P : ℕ → Type 0) (xs ys : List ℕ) → AllByRecursion P xs → AllByRecursion P ys → AllByRecursion P (xs ++ ys)
each_more P [] ys h k = k
each_more P (x ∷ xs) ys h k = (h.0, each_more P xs ys h.1 k)

module _ (docs : Documents) (nodes : ℕ → Node) where
  -- the node of a variable stands below its source's document node
  abbrev StandsBelow : ℕ → Type 0
  StandsBelow v = 0 < length (nodes v).place

  -- what a visit that holds binds stands below the document node
  visit_below : (f : Shape) → ShapeHolds docs nodes f → AllByRecursion StandsBelow (visit_vars f)
  visit_below (one_source s out) h = tt
  visit_below (visits_below i start path out) h =
      let m = h.1 in
      let b = m.below in
      let e : length ((nodes start).place ++ m.way) ≡ length (nodes out).place = ap length m.place in
      (omega (arith, b, e, length-append (nodes start).place m.way), tt)
  visit_below (pairs_up l r tests) h = tt
  visit_below (passes_on i stage) h = tt
  visit_below (no_events i made) h = tt

  -- what visits on the way bind stands below the document node, where each operator on the way holds
  vars_below : (on : ℕ → Bool) (i : ℕ) (ops : List Operator) → ((k : ℕ) → k < length ops → on (i + k) ≡ true → ShapeHolds docs nodes (shape_at ops k)) → AllByRecursion StandsBelow (vars_from on i ops)
  vars_below on i [] h = tt
  vars_below on i (op ∷ ops) h =
      each_more StandsBelow (cond (on i) (visit_vars (shape_of op)) []) (vars_from on (suc i) ops)
      ((elim (on i) as (λ w. on i ≡ w → AllByRecursion StandsBelow (cond w (visit_vars (shape_of op)) [])) [
        | true ↦ λ e. visit_below (shape_of op) (h 0 (omega arith) (let z : i ≡ i + 0 = omega arith in subst (λ m. on m ≡ true) z e))
        | false ↦ λ e. tt
      ]) refl)
      (vars_below on (suc i) ops (λ k b o. h (suc k) (omega (arith, b)) (let z : suc i + k ≡ i + suc k = omega arith in subst (λ m. on m ≡ true) z o)))

  -- no place of right evidence is empty
  pub places_formed : (ops : List Operator) (n : ℕ) → AreRight docs ops n nodes → ArePlaces (places_of (evidence_vars ops n) nodes)
  places_formed ops n right =
      each_map (λ q. 0 < length q) (λ v. (nodes v).place) (evidence_vars ops n)
      (vars_below (is_on_way ops n) 0 ops (λ k b o. right k b (let z : 0 + k ≡ k = omega arith in subst (λ m. is_on_way ops n m ≡ true) z o)))

-- TREES ALONE

-- below a leaf there is no place
leaf_root : (label : List ℕ) (q : List ℕ) → has_place (tree label none none) q ≡ true → q ≡ []
leaf_root label [] h = refl
leaf_root label (i ∷ q) h = absurd (nowhere i q h)

-- a place among one tree is one at that tree
first_index : (f : Forest) (i : ℕ) (q : List ℕ) → IsOne f → has_place (from i f) q ≡ true → (i ≡ 0) × (has_place f q ≡ true)
first_index f zero q o h = (refl, h)
first_index f (suc i) q o h = absurd (nowhere i q (sym (ap (λ g. has_place (from (suc i) g) q) o.2) ∙ h))

module _ (p : PlanValue) (valid : IsValid p) (typed : IsTyped p.ops) (docs : Documents) where
  -- a binding of operator n, and right evidence of it
  record IsReached (n : ℕ) (here : Reached) : Type 0 where
    within : n < length p.ops
    sound : IsRow docs p.ops n here.row
    right : AreRight docs p.ops n here.nodes
    of_row : AreOf docs p.ops n here.nodes here.row

  -- a member of a group, with evidence by which it is reached
  record IsMemberOf (here : Reached) (i : ℕ) (own : List Key) (j : ℕ) (row : TolledRow) : Type 0 where
    nodes : ℕ → Node
    reached : IsReached i (record { row = row; nodes = nodes })
    member : IsMember docs p.ops i own here (places_of (evidence_vars p.ops i) nodes) j (record { row = row; nodes = nodes })
    formed : ArePlaces (places_of (evidence_vars p.ops i) nodes)

  -- each member of a group has evidence by which it is reached
  member_reached : (n m i : ℕ) (own : List Key) (x : Piece) (here : Reached) → IsReached n here → IsGroup docs p.ops m (kinds p.ops n) (held p.ops n) i own x → (j : ℕ) (row : TolledRow)
      → slice_get (members docs p.ops i own here.row) j ≡ Some row → IsMemberOf here i own j row
  member_reached n m i own x here r g j row e =
      let test : TolledRow → Bool = λ s. same_values (key_values docs own here.row) (key_values docs own s) in
      let rows : List TolledRow = without_skips (events docs p.ops i) in
      let evident = at_index (Evident p valid typed docs i (kinds p.ops i)) (members docs p.ops i own here.row) j row
      (each_filter (Evident p valid typed docs i (kinds p.ops i)) test rows (each_without (Evident p valid typed docs i (kinds p.ops i)) (events docs p.ops i) (all_evident p valid typed docs i g.within))) e in
      let nodes : ℕ → Node = evident.nodes in
      let of_row = evident_of p valid typed docs i g.within row evident in
      let here_keys : node_values docs own here.nodes ≡ key_values docs own here.row = values_same (node_values docs own here.nodes) (key_values docs own here.row) (g.told_here here.nodes (row_node here.row) r.of_row) in
      let there_keys : node_values docs own nodes ≡ key_values docs own row = evident_keys p valid typed docs i row evident own g.nodes_there in
      let agree : key_values docs own here.row ≡ key_values docs own row =
      values_same (key_values docs own here.row) (key_values docs own row) (at_index (λ s. test s ≡ true) (members docs p.ops i own here.row) j row (each_passes test rows) e) in
      record {
        nodes = nodes;
        reached = record {
          within = g.within;
          sound = at_index (IsRow docs p.ops i) (members docs p.ops i own here.row) j row (members_sound p valid typed docs i g.within own here.row) e;
          right = evident.right;
          of_row = of_row;
        };
        member = record {
          evidence = record { right = evident.right; written = refl };
          same_group = subst (λ k. same_values (node_values docs own here.nodes) k ≡ true) (here_keys ∙ agree ∙ sym there_keys) (all_itself (node_values docs own here.nodes));
          of = of_row;
          at = e;
        };
        formed = places_formed docs nodes p.ops i evident.right;
      }

  -- levels, of which no place is empty, and a place below lead to a place in a list
  record IsLed (here : Reached) (list : Listing) (q : List ℕ) : Type 0 where
    levels : List LevelValue
    inside : List ℕ
    leads : Leads docs p.ops here list levels inside q
    formed : AllByRecursion (λ l. ArePlaces l.tuple) levels

  -- to each place of a list that is made by an operator below a number, levels lead
  abbrev EachLed : ℕ → Type 0
  EachLed k =
      (n m : ℕ) → m < k → (here : Reached) → IsReached n here → (list : Listing) → IsListOf docs p.ops m n list → (j : ℕ) (q : List ℕ)
      → has_place (from j (list_trees docs p.ops list here.row)) q ≡ true → IsLed here list (j ∷ q)

  -- to each place at a tree that a level picks, or below it, levels lead
  tree_led : (k m n : ℕ) → EachLed k → m < suc k → (here there : Reached) (list : Listing) (l : LevelValue) (j : ℕ) (x : Piece) → IsReached n there → IsSinglePiece (kinds p.ops n) x → IsLow docs p.ops m x
      → Picks docs p.ops here list l j there x → ArePlaces l.tuple → (q : List ℕ) → has_place (shown docs there.row x) q ≡ true → IsLed here list (j ∷ q)
  tree_led k m n more s here there list l j (label_piece v) r single low y f q h =
      record { levels = l ∷ []; inside = q; leads = to_tree y (leaf_root (label_at docs (row_node there.row v)) q h); formed = (f, tt) }
  tree_led k m n more s here there list l j (text_piece label) r single low y f q h = record { levels = l ∷ []; inside = q; leads = to_tree y (leaf_root label q h); formed = (f, tt) }
  tree_led k m n more s here there list l j (var_piece v) r single low y f q h = by_kind single.0 single.2 (r.sound v single.0 single.1) q h
    where
      by_kind : (kind : Kind) → (kind ≡ a_list → ⊥) → IsIn docs p.ops (kinds p.ops n) (held p.ops n) there.row v kind → (q : List ℕ) → has_place (shown docs there.row (var_piece v)) q ≡ true → IsLed here list (j ∷ q)
      by_kind a_node z x q h = record {
        levels = l ∷ [];
        inside = q;
        leads = to_tree y (subst (λ t. IsBelow docs p.ops t q) (sym x.is_value) (sym (ap (λ t. has_place (shown_by docs t) q) x.is_value) ∙ h));
        formed = (f, tt);
      }
      by_kind an_element z x [] h = record { levels = l ∷ []; inside = []; leads = to_tree y (subst (λ t. IsBelow docs p.ops t []) (sym x.is_value) refl); formed = (f, tt) }
      by_kind an_element z x (i ∷ q) h =
          let d = r.sound x.inner a_list x.bound in
          let shows = list_value p valid typed docs n there.row r.sound x.inner d.listing (a_list, x.bound) d.is_listing in
          let c = x.low in
          let inner = more n (number_of p.ops x.inner) (omega (arith, c, low, s)) there r d.listing shows.is_listed i q
          (sym (element_places p valid typed docs n there.row r.sound v x d.listing d.is_listing (i ∷ q)) ∙ h) in
          record { levels = l ∷ inner.levels; inside = inner.inside; leads = to_element y x.is_inner d.is_listing inner.leads; formed = (f, inner.formed) }
      by_kind a_list z x q h = absurd (z refl)

  -- to each place of a group's list, which is by itself or among pieces, levels lead
  group_led : (k m n i : ℕ) → EachLed k → m < suc k → (here : Reached) (own : List Key) (x : Piece) → IsReached n here → IsGroup docs p.ops m (kinds p.ops n) (held p.ops n) i own x → (list : Listing) (number : ℕ) (tree_index : ℕ → ℕ)
      → ((there : Reached) (l : LevelValue) (j : ℕ) → l.piece ≡ number → IsMember docs p.ops i own here l.tuple j there → Picks docs p.ops here list l (tree_index j) there x)
      → (j : ℕ) (q : List ℕ) → has_place (from j (list_trees docs p.ops (of_group i own x) here.row)) q ≡ true → IsLed here list (tree_index j ∷ q)
  group_led k m n i more s here own x r g list number tree_index pick j q h =
      let t = one_of (λ row. shown docs row x) (members docs p.ops i own here.row) j q (members_ones p valid typed docs i g.within own here.row x g.single) h in
      let d = member_reached n m i own x here r g j t.0 t.1 in
      let there : Reached = record { row = t.0; nodes = d.nodes } in
      let l : LevelValue = level number (places_of (evidence_vars p.ops i) d.nodes) in
      tree_led k m i more s here there list l (tree_index j) x d.reached g.single
      (piece_low p valid typed docs i m g.within g.low x (single_piece p valid typed docs (kinds p.ops i) x g.single)) (pick there l j refl d.member) d.formed q t.2

  -- to each place of the pieces' list at a piece that is a single tree, levels lead
  single_led : (k m n : ℕ) → EachLed k → m < suc k → (here : Reached) (pieces : List Piece) → IsReached n here → (c : ℕ) (x : Piece) → slice_get pieces c ≡ Some x → IsSinglePiece (kinds p.ops n) x → IsSingle p.ops x
      → IsLow docs p.ops m x → (i : ℕ) (q : List ℕ) → has_place (from i (shown docs here.row x)) q ≡ true → IsLed here (of_pieces pieces) ((before_piece docs pieces here.row c + i) ∷ q)
  single_led k m n more s here pieces r c x e single no_list low i q h =
      let o = first_index (shown docs here.row x) i q (one_shown p valid typed docs n x single here.row r.sound) h in
      let z : before_piece docs pieces here.row c ≡ before_piece docs pieces here.row c + i = (let y = o.0 in omega (arith, y)) in
      subst (λ j. IsLed here (of_pieces pieces) (j ∷ q)) z
      (tree_led k m n more s here here (of_pieces pieces) (level c []) (before_piece docs pieces here.row c) x r single low (of_piece e refl no_list) tt q o.1)

  -- to each place of the pieces' list at a piece, levels lead
  piece_led : (k m n : ℕ) → EachLed k → m < suc k → (here : Reached) (pieces : List Piece) → IsReached n here → (c : ℕ) (x : Piece) → slice_get pieces c ≡ Some x → IsPiece (kinds p.ops n) x → IsLow docs p.ops m x
      → (i : ℕ) (q : List ℕ) → has_place (from i (shown docs here.row x)) q ≡ true → IsLed here (of_pieces pieces) ((before_piece docs pieces here.row c + i) ∷ q)
  piece_led k m n more s here pieces r c (label_piece v) e b low i q h = single_led k m n more s here pieces r c (label_piece v) e b tt low i q h
  piece_led k m n more s here pieces r c (text_piece label) e b low i q h = single_led k m n more s here pieces r c (text_piece label) e b tt low i q h
  piece_led k m n more s here pieces r c (var_piece v) e b low i q h = by_kind b.0 b.1 (r.sound v b.0 b.1)
    where
      in_list : (list : Listing) → list_of p.ops v ≡ Some list → ShowsList p valid typed docs n here.row v list → IsLed here (of_pieces pieces) ((before_piece docs pieces here.row c + i) ∷ q)
      in_list (of_group j own x) g d =
          group_led k (number_of p.ops v) n j more (omega (arith, low, s)) here own x r d.is_listed (of_pieces pieces) c (λ t. before_piece docs pieces here.row c + t)
          (λ there l t z y. subst (λ u. Picks docs p.ops here (of_pieces pieces) l (before_piece docs pieces here.row u + t) there x) z
          (of_list_member (subst (λ u. slice_get pieces u ≡ Some (var_piece v)) (sym z) e) g y))
          i q (sym (ap (λ f. has_place (from i f) q) d.shows) ∙ h)
      in_list (of_pieces inner) g d =
          let a = more n (number_of p.ops v) (omega (arith, low, s)) here r (of_pieces inner) d.is_listed i q (sym (ap (λ f. has_place (from i f) q) d.shows) ∙ h) in
          record { levels = level c [] ∷ a.levels; inside = a.inside; leads = to_pieces {l = level c []} e refl g a.leads; formed = (tt, a.formed) }

      by_kind : (kind : Kind) → kinds p.ops n v ≡ Some kind → IsIn docs p.ops (kinds p.ops n) (held p.ops n) here.row v kind → IsLed here (of_pieces pieces) ((before_piece docs pieces here.row c + i) ∷ q)
      by_kind a_node z x = single_led k m n more s here pieces r c (var_piece v) e (a_node, z, (λ y. cc)) x.no_list low i q h
      by_kind an_element z x = single_led k m n more s here pieces r c (var_piece v) e (an_element, z, (λ y. cc)) (element_no_list (maker p.ops v) x.inner x.is_inner) low i q h
      by_kind a_list z x = in_list x.listing x.is_listing (list_value p valid typed docs n here.row r.sound v x.listing (a_list, z) x.is_listing)

  -- to each place of a list that is made by an operator below a number, levels lead
  each_led : (k : ℕ) → EachLed k
  each_led zero n m s here r list g j q h = absurd (omega (arith, s))
  each_led (suc k) n m s here r (of_group i own x) g j q h = group_led k m n i (each_led k) s here own x r g (of_group i own x) 0 (λ t. t) (λ there l t z y. of_member z y) j q h
  each_led (suc k) n m s here r (of_pieces pieces) g j q h =
      let d = member_of (shown docs here.row) pieces j q h in
      let a = at_index (λ x. IsPiece (kinds p.ops n) x × IsLow docs p.ops m x) pieces d.number d.one g d.at in
      let z : before_piece docs pieces here.row d.number + d.index ≡ j = ap (λ t. t + d.index) (before_shown docs here.row pieces d.number) ∙ sym d.counts in
      subst (λ t. IsLed here (of_pieces pieces) (t ∷ q)) z (piece_led k m n (each_led k) s here pieces r d.number d.one d.at a.0 a.1 d.index q d.has)

  -- THE DOCUMENT

  -- levels that lead from the outer element, of which no place is empty, are those of a text that names what they lead to
  text_of : (ls : List LevelValue) (inside q : List ℕ) → AllByRecursion (λ l. ArePlaces l.tuple) ls → LeadsFromOuter docs p.ops ls inside q → (d : NodeValue) × IsFormed d × Names docs p.ops d q
  text_of [] inside q f x = absurd (no_levels p valid docs x.leads)
  text_of (l ∷ ls) inside q f x = (node (l ∷ ls) inside, record { root = λ (e : (l ∷ ls) ≡ []). cc; places = f }, x)

  module _ (tolled : TolledIsDocument p) where
    -- a node below the root of the document is named by levels and a place below
    below_root : (j : ℕ) (q : List ℕ) → HasPlaceIn docs p.ops (j ∷ q) → (d : NodeValue) × IsFormed d × Names docs p.ops d (j ∷ q)
    below_root j q h =
        let o = outer_is p valid typed tolled docs in
        let x = o.is_element in
        let first : TolledRow = first_row (found (events docs p.ops o.input)) in
        let t : LabelledTree = record { label = x.label; kids = plain x.kids } in
        let same : h.0 ≡ t = some_is h.0 t (sym h.1 ∙ o.is_document) in
        let there : has_place (from j (plain x.kids)) q ≡ true = sym (ap (λ (z : LabelledTree). has_place (alone z) (j ∷ q)) same) ∙ h.2 in
        let c = o.sound x.inner a_list x.bound in
        let list = list_value p valid typed docs o.input first o.sound x.inner c.listing (a_list, x.bound) c.is_listing in
        let e = first_holds (HasEvidence docs p.ops o.input) (events docs p.ops o.input) o.some (bindings_have_evidence p valid docs o.input o.within) in
        let here : Reached = record { row = first; nodes = e.0 } in
        let r : IsReached o.input here = record { within = o.within; sound = o.sound; right = e.1; of_row = e.2 } in
        let a = each_led (suc (number_of p.ops x.inner)) o.input (number_of p.ops x.inner) (omega arith) here r c.listing list.is_listed j q (sym (ap (λ f. has_place (from j f) q) (x.shows ∙ list.shows)) ∙ there) in
        let outer : IsOuter docs p.ops here c.listing = record {
          input = o.input;
          outer = o.outer;
          list = x.inner;
          is_outer = o.is_outer;
          is_list = x.is_inner;
          is_inner = c.is_listing;
          is_row = refl;
          right = e.1;
        } in
        text_of a.levels a.inside (j ∷ q) a.formed (record { here = here; inner = c.listing; is_outer = outer; leads = a.leads })

    -- each node of the document is named by a text
    all_named : (a : List ℕ) → HasPlaceIn docs p.ops a → (d : NodeValue) × IsFormed d × Names docs p.ops d a
    all_named [] h = (node [] [], record { root = λ e. refl; places = tt }, (refl, refl))
    all_named (j ∷ q) h = below_root j q h

-- each node of a valid plan's document is named by a text, where the document is that with tolls, without them
pub each_named : ((p : PlanValue) → TolledIsDocument p) → EachIsNamed
each_named tolled p valid docs a h = all_named p valid (valid_is_typed p valid) docs (tolled p) a h
