-- What leads to a place can be followed, and so, from the outer element on, a text names a node exactly where it can be followed.
use Rattle.std.proofs.Common.{◌≡◌, ℕ, List, [], ◌∷◌, Option, Some, None, refl, sym, ap, subst, ◌∙◌, arith}
use Rattle.std.specs.Prelude.{MatchOption, option_and_then, option_map, slice_get}
use Rattle.std.specs.List.{last_or}
use Rattle.mix_base.proofs.Choices.{some_is, none_some}
use Rattle.mix_base.specs.Events.{found}
use Rattle.mix_tree.specs.Nodes.{Documents}
use Rattle.mix_tree.specs.declared.var.Key.{Key}
use Rattle.node_text.specs.Node.{LevelValue}
use Rattle.plan_core.specs.declared.plan.Piece.{Piece}
use Rattle.plan_core.specs.declared.plan.Piece.TheVariants.{Var as var_piece, LabelOf as label_piece, Text as text_piece}
use Rattle.plan_core.specs.Events.{events, first_row, TolledIsDocument}
use Rattle.plan_core.specs.Plans.{PlanValue}
use Rattle.plan_core.specs.TolledRows.{TolledRow}
use Rattle.plan_core.specs.Typed.{IsTyped}
use Rattle.plan_core.specs.Valid.{a_list, kinds, IsSinglePiece, IsValid}
use Rattle.plan_core.proofs.Typed.{valid_is_typed}
use Rattle.plan_evidence.specs.Evidence.{IsEvidence, places_of}
use Rattle.plan_evidence.specs.Held.{AreOf, UsesHeld}
use Rattle.plan_evidence.specs.Laws.{HasEvidence}
use Rattle.plan_evidence.specs.Named.{maker, Listing, of_pieces, of_group, element_list, list_of, IsSingle, Reached, IsMember, Picks, of_member, of_piece, of_list_member, Leads, to_tree, to_element, to_pieces, outer_of, IsOuter, LeadsFromOuter, NamesBy}
use Rattle.plan_evidence.proofs.Evidences.{bindings_have_evidence}
use Rattle.plan_evidence.proofs.Outers.{outer_is, first_holds}
use Rattle.lazy_follow.specs.Following.{Choice, a_tree, a_member, a_list_among, without_places, value_choice, piece_choice, choice, list_in, Stand, nodes_at, FollowsTree, FollowsFrom, FollowsFromOuter, IsFollowedBy, FollowedAreNamed, before, tree_ending, ending}
use Rattle.lazy_follow.proofs.Choices.{first_chosen}
use Rattle.lazy_follow.proofs.FollowedLeads.{FollowsBy, reached, piece_bound, piece_told, each_leads}
use Rattle.lazy_follow.proofs.Groups.{given_evidence}
use Rattle.lazy_follow.proofs.SingleEvidence.{outer_input}
use Rattle.lazy_follow.proofs.ReachedRows.{same_binding, IsAt, IsKnown, list_known, inner_known, single_bound, under_is, member_met}
use Rattle.lazy_follow.proofs.ToldLists.{IsToldPiece}
use Rattle.lazy_follow.proofs.Trails.{choice_ends}

module _ (p : PlanValue) (valid : IsValid p) (typed : IsTyped p.ops) (uses : UsesHeld p.ops) (docs : Documents) where
  -- WHAT LEADS TO A PLACE CAN BE FOLLOWED

  -- a piece that is a single tree is chosen as one, by a level without places
  single_choice : (places : List (List ℕ)) → places ≡ [] → (x : Piece) → IsSingle p.ops x → piece_choice p.ops places (Some x) ≡ a_tree x
  single_choice places t (var_piece v) h = ap (value_choice v places) h ∙ ap (λ (ps : List (List ℕ)). without_places ps (a_tree (var_piece v))) t
  single_choice places t (label_piece v) h = ap (λ (ps : List (List ℕ)). without_places ps (a_tree (label_piece v))) t
  single_choice places t (text_piece label) h = ap (λ (ps : List (List ℕ)). without_places ps (a_tree (text_piece label))) t

  -- a level that picks a tree leads to a binding by its places, and what can be followed from that tree can be followed from the list
  pub record IsChosenAt (s : Stand) (list : Listing) (l : LevelValue) (ls : List LevelValue) (q : List ℕ) (there : Reached) (x : Piece) : Type 0 where
    pub stand : Stand
    pub at : IsAt p valid typed uses docs stand there.row
    pub of : AreOf docs p.ops stand.op there.nodes there.row
    pub single : IsSinglePiece (kinds p.ops stand.op) x
    pub told : IsToldPiece p valid typed docs stand.op x
    pub follows : FollowsTree docs p.ops (FollowsBy p valid typed uses docs ls q) stand x ls q → FollowsBy p valid typed uses docs (l ∷ ls) q s list
    pub input : Option ℕ
    pub ends : option_map (before input) (tree_ending p.ops (λ there inner. ending p.ops there inner ls) stand x ls) ≡ ending p.ops s list (l ∷ ls)

  -- a member that a level picks of a group is chosen, where the level chooses of the list a member of that group
  member_chosen : (here there : Reached) (list : Listing) (l : LevelValue) (ls : List LevelValue) (q : List ℕ) (s : Stand)
      → IsAt p valid typed uses docs s here.row → AreOf docs p.ops s.op here.nodes here.row
      → (n j : ℕ) (own : List Key) (x : Piece) → IsKnown p valid typed uses docs s.op (of_group n own x) → IsMember docs p.ops n own here l.tuple j there
      → choice p.ops list l ≡ a_member n own x
      → IsChosenAt s list l ls q there x
  member_chosen here there list l ls q s at of n j own x known m e =
      let t : Stand = record { op = n; places = l.tuple } in
      let r = member_met p valid typed uses docs s here.row at t own x known here.nodes of j there m in
      record {
        stand = t;
        at = r.1;
        of = m.of;
        single = known.listed.single;
        told = known.told.told_piece;
        follows = λ h. subst (λ (c : Choice). FollowsFrom docs p.ops (FollowsBy p valid typed uses docs ls q) s l.tuple c ls q) (sym e) (r.0, h);
        input = Some n;
        ends = choice_ends docs p.ops s list l ls q (a_member n own x) e;
      }

  -- what a level picks is chosen
  pub picked : {here there : Reached} {list : Listing} {l : LevelValue} {j : ℕ} {x : Piece} (ls : List LevelValue) (q : List ℕ) (s : Stand)
      → IsAt p valid typed uses docs s here.row → AreOf docs p.ops s.op here.nodes here.row
      → IsKnown p valid typed uses docs s.op list → Picks docs p.ops here list l j there x → IsChosenAt s list l ls q there x
  picked {here = here} {there = there} {l = l} ls q s at of known (of_member {n = n} {j = j} {keys = own} {piece = x} z m) =
      member_chosen here there (of_group n own x) l ls q s at of n j own x known m (first_chosen p.ops (of_group n own x) n own x l refl z)
  picked {here = here} {l = l} ls q s at of known (of_piece {pieces = pieces} {piece = x} e t no_list) =
      let c : choice p.ops (of_pieces pieces) l ≡ a_tree x = ap (piece_choice p.ops l.tuple) e ∙ single_choice l.tuple t x no_list in
      record {
        stand = s;
        at = at;
        of = of;
        single = single_bound p valid typed uses docs s.op here.row at.sound x (piece_bound p valid typed uses docs s pieces known l.piece x e) no_list;
        told = piece_told p valid typed uses docs s pieces known l.piece x e;
        follows = λ h. subst (λ (c : Choice). FollowsFrom docs p.ops (FollowsBy p valid typed uses docs ls q) s l.tuple c ls q) (sym c) h;
        input = None;
        ends = choice_ends docs p.ops s (of_pieces pieces) l ls q (a_tree x) c;
      }
  picked {here = here} {there = there} {l = l} ls q s at of known (of_list_member {pieces = pieces} {v = v} {n = n} {j = j} {keys = own} {piece = x} e g m) =
      let b = at.early in
      let bound = piece_bound p valid typed uses docs s pieces known l.piece (var_piece v) e in
      let inner = list_known p valid typed uses docs s.op v (omega (arith, b)) here.row at.sound bound (of_group n own x) g in
      member_chosen here there (of_pieces pieces) l ls q s at of n j own x inner m (ap (piece_choice p.ops l.tuple) e ∙ ap (value_choice v l.tuple) g)

  -- what can be followed from the list of an element can be followed from the element
  in_element : (t : Stand) (v u : ℕ) (inner : Listing) (ls : List LevelValue) (q : List ℕ) → element_list (maker p.ops v) ≡ Some u
      → list_of p.ops u ≡ Some inner → FollowsBy p valid typed uses docs ls q t inner
      → FollowsTree docs p.ops (FollowsBy p valid typed uses docs ls q) t (var_piece v) ls q
  in_element t v u inner [] q f g h = absurd h
  in_element t v u inner (l ∷ ls) q f g h =
      let e : list_in p.ops (var_piece v) ≡ Some inner = ap (option_and_then (list_of p.ops)) f ∙ g in
      subst (λ (o : Option Listing). MatchOption o ⊥ (FollowsBy p valid typed uses docs (l ∷ ls) q t)) (sym e) h

  -- a level without places chooses the concatenation that a piece is
  pub among_choice : (pieces inner : List Piece) (l : LevelValue) (v : ℕ) → slice_get pieces l.piece ≡ Some (var_piece v) → l.tuple ≡ [] → list_of p.ops v ≡ Some (of_pieces inner)
      → choice p.ops (of_pieces pieces) l ≡ a_list_among inner
  among_choice pieces inner l v e t g = ap (piece_choice p.ops l.tuple) e ∙ ap (value_choice v l.tuple) g ∙ ap (λ (ps : List (List ℕ)). without_places ps (a_list_among inner)) t

  -- what leads from a list to a place can be followed
  followed_on : {here : Reached} {list : Listing} {ls : List LevelValue} {q place : List ℕ} (s : Stand) → IsAt p valid typed uses docs s here.row
      → AreOf docs p.ops s.op here.nodes here.row
      → IsKnown p valid typed uses docs s.op list → Leads docs p.ops here list ls q place → FollowsBy p valid typed uses docs ls q s list
  followed_on s at of known (to_tree {there = there} {piece = x} {p = q} pick ends) =
      let r = picked [] q s at of known pick in
      r.follows (subst (λ (T : Type 0). T) (sym (under_is p valid typed uses docs r.stand there.row r.at x r.single r.told q)) ends)
  followed_on s at of known (to_element {there = there} {inner = inner} {ls = ls} {v = v} {u = u} {p = q} pick f g leads) =
      let r = picked ls q s at of known pick in
      let b = r.at.early in
      let k = inner_known p valid typed uses docs r.stand.op v u (omega (arith, b)) there.row r.at.sound (r.single.0, r.single.1) f inner g in
      r.follows (in_element r.stand v u inner ls q f g (followed_on r.stand r.at r.of k leads))
  followed_on {here = here} s at of known (to_pieces {pieces = pieces} {inner = inner} {l = l} {ls = ls} {v = v} {p = q} e t g leads) =
      let b = at.early in
      let k = list_known p valid typed uses docs s.op v (omega (arith, b)) here.row at.sound (piece_bound p valid typed uses docs s pieces known l.piece (var_piece v) e) (of_pieces inner) g in
      subst (λ (c : Choice). FollowsFrom docs p.ops (FollowsBy p valid typed uses docs ls q) s l.tuple c ls q) (sym (among_choice pieces inner l v e t g)) (followed_on s at of k leads)

  -- FROM THE OUTER ELEMENT

  -- where the outer element's list stands: an operator's single binding, without places
  abbrev pub outer_stand : ℕ → Stand
  outer_stand input = record { op = input; places = [] }

  -- an operator's first binding
  abbrev pub outer_row : ℕ → TolledRow
  outer_row input = first_row (found (events docs p.ops input))

  -- the outer element's binding was reached without places, and binds the element's list
  pub record IsOuterAt (input u : ℕ) : Type 0 where
    pub at : IsAt p valid typed uses docs (outer_stand input) (outer_row input)
    pub evidence : IsEvidence docs p.ops input [] (nodes_at docs p.ops (outer_stand input))
    pub bound : kinds p.ops input u ≡ Some a_list

  module _ (tolled : TolledIsDocument p) where
    -- what the last operator reads is the outer element's binding
    pub outer_at : (input outer u : ℕ) → outer_of (last_or None p.ops) ≡ Some (input, outer) → element_list (maker p.ops outer) ≡ Some u → IsOuterAt input u
    outer_at input outer u is e =
        let o = outer_is p valid typed tolled docs in
        let pairs : ◌≡◌ {A = ℕ × ℕ} (o.input, o.outer) (input, outer) = some_is (o.input, o.outer) (input, outer) (sym o.is_outer ∙ is) in
        let outers : o.outer ≡ outer = ap (λ (x : ℕ × ℕ). x.1) pairs in
        let inner : o.is_element.inner ≡ u = some_is o.is_element.inner u (sym o.is_element.is_inner ∙ ap (λ (v : ℕ). element_list (maker p.ops v)) outers ∙ e) in
        let r = outer_input p valid typed o.input o.outer o.is_outer in
        let own = first_holds (HasEvidence docs p.ops o.input) (events docs p.ops o.input) o.some (bindings_have_evidence p valid docs o.input o.within) in
        let known : IsEvidence docs p.ops o.input [] own.0 = record { right = own.1; written = ap (λ (vs : List ℕ). places_of vs own.0) r.no_vars } in
        let given = given_evidence p valid docs o.input o.within [] own.0 known in
        let of = same_binding p valid typed uses docs o.input r.early [] own.0 (nodes_at docs p.ops (outer_stand o.input)) known given (outer_row o.input) own.2 in
        let there : IsOuterAt o.input u = record {
          at = record { early = r.early; sound = o.sound; of = of };
          evidence = given;
          bound = subst (λ (w : ℕ). kinds p.ops o.input w ≡ Some a_list) inner o.is_element.bound;
        } in
        subst (λ (n : ℕ). IsOuterAt n u) (ap (λ (x : ℕ × ℕ). x.0) pairs) there

    -- the outer element's list is known
    pub outer_known : (input u : ℕ) → IsOuterAt input u → (list : Listing) → list_of p.ops u ≡ Some list → IsKnown p valid typed uses docs input list
    outer_known input u x list g = (let b = x.at.early in list_known p valid typed uses docs input u (omega (arith, b)) (outer_row input) x.at.sound (a_list, x.bound) list g)

    -- what can be followed from the outer element leads from it to some place
    outer_leads : (ls : List LevelValue) (q : List ℕ) → FollowsFromOuter docs p.ops ls q → (place : List ℕ) × LeadsFromOuter docs p.ops ls q place
    outer_leads ls q f = by_element (element_list (maker p.ops f.outer)) refl f.is_list
      where
        by_element : (o : Option ℕ) → element_list (maker p.ops f.outer) ≡ o → option_and_then (list_of p.ops) o ≡ Some f.list
            → (place : List ℕ) × LeadsFromOuter docs p.ops ls q place
        by_element None e g = none_some f.list g
        by_element (Some u) e g =
            let x = outer_at f.input f.outer u f.is_outer e in
            let r = each_leads p valid typed uses docs ls q (outer_stand f.input) (outer_row f.input) x.at f.list (outer_known f.input u x f.list g) f.follows in (
              r.0,
              record {
                here = reached p valid typed uses docs (outer_stand f.input) (outer_row f.input);
                inner = f.list;
                is_outer = record { input = f.input; outer = f.outer; list = u; is_outer = f.is_outer; is_list = e; is_inner = g; is_row = refl; right = x.evidence.right };
                leads = r.1;
              },
            )

    -- the outer element's list stands in a binding that was reached without places, and is known
    pub record IsFromOuter (here : Reached) (inner : Listing) (o : IsOuter docs p.ops here inner) : Type 0 where
      pub at : IsAt p valid typed uses docs (outer_stand o.input) here.row
      pub of : AreOf docs p.ops o.input here.nodes here.row
      pub known : IsKnown p valid typed uses docs o.input inner

    -- the list of the outer element is reached so, whatever evidence it is said by
    pub from_outer : (here : Reached) (inner : Listing) (o : IsOuter docs p.ops here inner) → IsFromOuter here inner o
    from_outer here inner o =
        let w = outer_at o.input o.outer o.list o.is_outer o.is_list in
        let s : Stand = outer_stand o.input in
        let no_vars = (outer_input p valid typed o.input o.outer o.is_outer).no_vars in
        let evidence : IsEvidence docs p.ops o.input [] here.nodes = record { right = o.right; written = ap (λ (vs : List ℕ). places_of vs here.nodes) no_vars } in
        let of = same_binding p valid typed uses docs o.input w.at.early [] (nodes_at docs p.ops s) here.nodes w.evidence evidence (outer_row o.input) w.at.of in
        record {
          at = subst (IsAt p valid typed uses docs s) (sym o.is_row) w.at;
          of = subst (AreOf docs p.ops o.input here.nodes) (sym o.is_row) of;
          known = outer_known o.input o.list w inner o.is_inner;
        }

    -- what leads from the outer element to a place can be followed
    outer_followed : (ls : List LevelValue) (q place : List ℕ) → LeadsFromOuter docs p.ops ls q place → FollowsFromOuter docs p.ops ls q
    outer_followed ls q place x =
        let o = x.is_outer in
        let w = from_outer x.here x.inner o in
        record {
          input = o.input;
          outer = o.outer;
          list = x.inner;
          is_outer = o.is_outer;
          is_list = ap (option_and_then (list_of p.ops)) o.is_list ∙ o.is_inner;
          follows = followed_on {here = x.here} (outer_stand o.input) w.at w.of w.known x.leads;
        }

    -- what can be followed names a node
    followed_named : (ls : List LevelValue) (q : List ℕ) → IsFollowedBy docs p.ops ls q → (place : List ℕ) × NamesBy docs p.ops ls q place
    followed_named [] q h = ([], (h, refl))
    followed_named (l ∷ ls) q h = outer_leads (l ∷ ls) q h

    -- what names a node can be followed
    named_followed : (ls : List LevelValue) (q place : List ℕ) → NamesBy docs p.ops ls q place → IsFollowedBy docs p.ops ls q
    named_followed [] q place h = h.0
    named_followed (l ∷ ls) q place h = outer_followed (l ∷ ls) q place h

-- a text names a node exactly where it can be followed, where the document is that with tolls, without them
pub followed_are_named : ((p : PlanValue) → TolledIsDocument p) → FollowedAreNamed
followed_are_named tolled p valid uses docs d =
    let typed : IsTyped p.ops = valid_is_typed p valid in
    (followed_named p valid typed uses docs (tolled p) d.levels d.inside, λ place h. named_followed p valid typed uses docs (tolled p) d.levels d.inside place h)
