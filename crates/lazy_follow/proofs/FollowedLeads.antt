-- What can be followed from a list, in a binding that was reached, leads to a place.
use Rattle.std.proofs.Common.{◌≡◌, ℕ, ◌+◌, true, false, cond, List, [], ◌∷◌, Option, Some, None, refl, subst, arith}
use Rattle.std.specs.Prelude.{Bool, ◌==◌, MatchOption, slice_get, option_and_then}
use Rattle.std.proofs.lemmas.Bool.{eqb-true}
use Rattle.mix_tree.specs.Nodes.{Documents}
use Rattle.mix_tree.specs.declared.var.Key.{Key}
use Rattle.node_text.specs.Node.{LevelValue}
use Rattle.plan_core.specs.declared.plan.Piece.{Piece}
use Rattle.plan_core.specs.declared.plan.Piece.TheVariants.{Var as var_piece, LabelOf as label_piece, Text as text_piece}
use Rattle.plan_core.specs.Plans.{Operator, PlanValue}
use Rattle.plan_core.specs.TolledRows.{TolledRow}
use Rattle.plan_core.specs.Typed.{IsTyped}
use Rattle.plan_core.specs.Valid.{kinds, IsPiece, IsSinglePiece, IsValid}
use Rattle.plan_evidence.specs.Held.{UsesHeld}
use Rattle.plan_evidence.specs.Named.{maker, Listing, of_pieces, of_group, element_list, list_of, IsSingle, before_piece, Reached, IsMember, Picks, of_member, of_piece, of_list_member, Leads, to_tree, to_element, to_pieces}
use Rattle.plan_evidence.proofs.Aparts.{at_index}
use Rattle.plan_evidence.proofs.Shown.{IsLow}
use Rattle.lazy_follow.specs.Following.{nothing, a_tree, a_member, a_list_among, without_places, value_choice, piece_choice, Stand, nodes_at, FollowsTree, FollowsFrom, Follows}
use Rattle.lazy_follow.proofs.ReachedRows.{IsAt, IsKnown, list_known, inner_known, single_bound, under_is, met_member}
use Rattle.lazy_follow.proofs.ToldLists.{IsToldPiece}

-- no levels lead to a list itself
pub no_root : {docs : Documents} {ops : List Operator} {here : Reached} {list : Listing} {ls : List LevelValue} {q : List ℕ} → Leads docs ops here list ls q [] → ⊥
no_root r = elim r [ ]

module _ (p : PlanValue) (valid : IsValid p) (typed : IsTyped p.ops) (uses : UsesHeld p.ops) (docs : Documents) where
  -- a binding that was reached by places, with the nodes that they give
  abbrev pub reached : Stand → TolledRow → Reached
  reached s row = record { row = row; nodes = nodes_at docs p.ops s }

  -- levels and a place below can be followed from a list
  abbrev pub FollowsBy : List LevelValue → List ℕ → Stand → Listing → Type 0
  FollowsBy ls q s list = Follows docs p.ops s list ls q

  -- a piece of a list in a binding that was reached is of what the binding's operator binds
  pub piece_bound : (s : Stand) (pieces : List Piece) → IsKnown p valid typed uses docs s.op (of_pieces pieces) → (c : ℕ) (x : Piece)
      → slice_get pieces c ≡ Some x → IsPiece (kinds p.ops s.op) x
  piece_bound s pieces known c x e = (at_index (λ q. IsPiece (kinds p.ops s.op) q × IsLow docs p.ops known.below q) pieces c x known.listed e).0

  -- a piece of a list in a binding that was reached is told by the keys that the binding's operator holds
  pub piece_told : (s : Stand) (pieces : List Piece) → IsKnown p valid typed uses docs s.op (of_pieces pieces) → (c : ℕ) (x : Piece)
      → slice_get pieces c ≡ Some x → IsToldPiece p valid typed docs s.op x
  piece_told s pieces known c x e = at_index (IsToldPiece p valid typed docs s.op) pieces c x known.told e

  -- WHAT CAN BE FOLLOWED LEADS TO A PLACE

  -- levels and a place below lead from a list to some place
  abbrev LeadsSomewhere : Reached → Listing → List LevelValue → List ℕ → Type 0
  LeadsSomewhere here list ls q = (place : List ℕ) × Leads docs p.ops here list ls q place

  -- wherever levels and a place below can be followed from a list in a binding that was reached, they lead to some place
  abbrev EachLeads : List LevelValue → List ℕ → Type 0
  EachLeads ls q =
      (s : Stand) (row : TolledRow) → IsAt p valid typed uses docs s row → (list : Listing) → IsKnown p valid typed uses docs s.op list → FollowsBy ls q s list
      → LeadsSomewhere (reached s row) list ls q

  -- what can be followed from a tree that a level picks leads to some place
  tree_leads : (l : LevelValue) (ls : List LevelValue) (q : List ℕ) → EachLeads ls q → (here : Reached) (list : Listing) (t : Stand) (row : TolledRow)
      → IsAt p valid typed uses docs t row → (j : ℕ) (x : Piece)
      → IsSinglePiece (kinds p.ops t.op) x → IsToldPiece p valid typed docs t.op x → Picks docs p.ops here list l j (reached t row) x
      → FollowsTree docs p.ops (FollowsBy ls q) t x ls q → LeadsSomewhere here list (l ∷ ls) q
  tree_leads l [] q more here list t row at j x single told pick h = (j ∷ q, to_tree pick (subst (λ (T : Type 0). T) (under_is p valid typed uses docs t row at x single told q) h))
  tree_leads l (m ∷ ls) q more here list t row at j (label_piece v) single told pick h = absurd h
  tree_leads l (m ∷ ls) q more here list t row at j (text_piece label) single told pick h = absurd h
  tree_leads l (m ∷ ls) q more here list t row at j (var_piece v) single told pick h = by_element (element_list (maker p.ops v)) refl h
    where
      by_list : (u : ℕ) → element_list (maker p.ops v) ≡ Some u → (o : Option Listing) → list_of p.ops u ≡ o → MatchOption o ⊥ (FollowsBy (m ∷ ls) q t)
          → LeadsSomewhere here list (l ∷ m ∷ ls) q
      by_list u e None g h = absurd h
      by_list u e (Some inner) g h =
          let b = at.early in
          let r = more t row at inner (inner_known p valid typed uses docs t.op v u (omega (arith, b)) row at.sound (single.0, single.1) e inner g) h in
          (j ∷ r.0, to_element pick e g r.1)

      by_element : (o : Option ℕ) → element_list (maker p.ops v) ≡ o → MatchOption (option_and_then (list_of p.ops) o) ⊥ (FollowsBy (m ∷ ls) q t)
          → LeadsSomewhere here list (l ∷ m ∷ ls) q
      by_element None e h = absurd h
      by_element (Some u) e h = by_list u e (list_of p.ops u) refl h

  module _ (l : LevelValue) (ls : List LevelValue) (q : List ℕ) (more : EachLeads ls q) (s : Stand) (row : TolledRow) (at : IsAt p valid typed uses docs s row) where
    -- what can be followed from a member of a group leads to some place
    member_leads : (list : Listing) (n : ℕ) (own : List Key) (x : Piece) → IsKnown p valid typed uses docs s.op (of_group n own x) → (tree_index : ℕ → ℕ)
        → ((other : Reached) (j : ℕ) → IsMember docs p.ops n own (reached s row) l.tuple j other → Picks docs p.ops (reached s row) list l (tree_index j) other x)
        → FollowsFrom docs p.ops (FollowsBy ls q) s l.tuple (a_member n own x) ls q → LeadsSomewhere (reached s row) list (l ∷ ls) q
    member_leads list n own x known tree_index pick h =
        let t : Stand = record { op = n; places = l.tuple } in
        let m = met_member p valid typed uses docs s row at t own x known h.0 in
        tree_leads l ls q more (reached s row) list t m.there_row m.at (tree_index m.index) x known.listed.single known.told.told_piece (pick (reached t m.there_row) m.index m.member) h.1

    -- what can be followed from a group's list leads to some place
    group_leads : (n : ℕ) (own : List Key) (x : Piece) → IsKnown p valid typed uses docs s.op (of_group n own x) → FollowsBy (l ∷ ls) q s (of_group n own x)
        → LeadsSomewhere (reached s row) (of_group n own x) (l ∷ ls) q
    group_leads n own x known h = by_number (l.piece == 0) refl h
      where
        by_number : (b : Bool) → (l.piece == 0) ≡ b → FollowsFrom docs p.ops (FollowsBy ls q) s l.tuple (cond b (a_member n own x) nothing) ls q
            → LeadsSomewhere (reached s row) (of_group n own x) (l ∷ ls) q
        by_number true e h = member_leads (of_group n own x) n own x known (λ j. j) (λ other j m. of_member (eqb-true l.piece 0 e) m) h
        by_number false e h = absurd h

    module _ (pieces : List Piece) (known : IsKnown p valid typed uses docs s.op (of_pieces pieces)) where
      -- what can be followed from a piece that is a single tree leads to some place
      single_leads : (x : Piece) → slice_get pieces l.piece ≡ Some x → IsSingle p.ops x
          → FollowsFrom docs p.ops (FollowsBy ls q) s l.tuple (without_places l.tuple (a_tree x)) ls q
          → LeadsSomewhere (reached s row) (of_pieces pieces) (l ∷ ls) q
      single_leads x e no_list h = bare l.tuple refl h
        where
          bare : (places : List (List ℕ)) → l.tuple ≡ places → FollowsFrom docs p.ops (FollowsBy ls q) s l.tuple (without_places places (a_tree x)) ls q
              → LeadsSomewhere (reached s row) (of_pieces pieces) (l ∷ ls) q
          bare [] t h =
              tree_leads l ls q more (reached s row) (of_pieces pieces) s row at (before_piece docs pieces row l.piece) x
              (single_bound p valid typed uses docs s.op row at.sound x (piece_bound s pieces known l.piece x e) no_list) (piece_told s pieces known l.piece x e) (of_piece e t no_list) h
          bare (r ∷ places) t h = absurd h

      -- what can be followed from a piece leads to some place
      piece_leads : (x : Piece) → slice_get pieces l.piece ≡ Some x
          → FollowsFrom docs p.ops (FollowsBy ls q) s l.tuple (piece_choice p.ops l.tuple (Some x)) ls q
          → LeadsSomewhere (reached s row) (of_pieces pieces) (l ∷ ls) q
      piece_leads (label_piece v) e h = single_leads (label_piece v) e tt h
      piece_leads (text_piece label) e h = single_leads (text_piece label) e tt h
      piece_leads (var_piece v) e h = by_list (list_of p.ops v) refl h
        where
          known_list : (list : Listing) → list_of p.ops v ≡ Some list → IsKnown p valid typed uses docs s.op list
          known_list list g = (let b = at.early in list_known p valid typed uses docs s.op v (omega (arith, b)) row at.sound (piece_bound s pieces known l.piece (var_piece v) e) list g)

          among : (inner : List Piece) → list_of p.ops v ≡ Some (of_pieces inner) → (places : List (List ℕ)) → l.tuple ≡ places
              → FollowsFrom docs p.ops (FollowsBy ls q) s l.tuple (without_places places (a_list_among inner)) ls q
              → LeadsSomewhere (reached s row) (of_pieces pieces) (l ∷ ls) q
          among inner g [] t h = first_place (more s row at (of_pieces inner) (known_list (of_pieces inner) g) h)
            where
              first_place : LeadsSomewhere (reached s row) (of_pieces inner) ls q → LeadsSomewhere (reached s row) (of_pieces pieces) (l ∷ ls) q
              first_place ([], r) = absurd (no_root r)
              first_place (i ∷ place, r) = ((before_piece docs pieces row l.piece + i) ∷ place, to_pieces e t g r)
          among inner g (r ∷ places) t h = absurd h

          by_list : (o : Option Listing) → list_of p.ops v ≡ o → FollowsFrom docs p.ops (FollowsBy ls q) s l.tuple (value_choice v l.tuple o) ls q
              → LeadsSomewhere (reached s row) (of_pieces pieces) (l ∷ ls) q
          by_list None g h = single_leads (var_piece v) e g h
          by_list (Some (of_pieces inner)) g h = among inner g l.tuple refl h
          by_list (Some (of_group n own x)) g h =
              member_leads (of_pieces pieces) n own x (known_list (of_group n own x) g) (λ j. before_piece docs pieces row l.piece + j) (λ other j m. of_list_member e g m) h

      -- what can be followed from a list of pieces leads to some place
      pieces_lead : FollowsBy (l ∷ ls) q s (of_pieces pieces) → LeadsSomewhere (reached s row) (of_pieces pieces) (l ∷ ls) q
      pieces_lead h = by_piece (slice_get pieces l.piece) refl h
        where
          by_piece : (o : Option Piece) → slice_get pieces l.piece ≡ o → FollowsFrom docs p.ops (FollowsBy ls q) s l.tuple (piece_choice p.ops l.tuple o) ls q
              → LeadsSomewhere (reached s row) (of_pieces pieces) (l ∷ ls) q
          by_piece None e h = absurd h
          by_piece (Some x) e h = piece_leads x e h

  -- what can be followed from a list in a binding that was reached leads to some place
  pub each_leads : (ls : List LevelValue) (q : List ℕ) → EachLeads ls q
  each_leads [] q s row at list known h = absurd h
  each_leads (l ∷ ls) q s row at (of_group n own x) known h = group_leads l ls q (each_leads ls q) s row at n own x known h
  each_leads (l ∷ ls) q s row at (of_pieces pieces) known h = pieces_lead l ls q (each_leads ls q) s row at pieces known h
