-- Whether a text can be followed is decided, and so it is told which node it names.
use Rattle.std.proofs.Common.{◌≡◌, ◌∙◌, ◌⊎◌, inl, inr, ℕ, Bool, true, false, List, [], ◌∷◌, Option, Some, None, ap, refl, sym, subst}
use Rattle.std.proofs.lemmas.Option.{same_Some}
use Rattle.std.specs.Prelude.{MatchOption, option_and_then}
use Rattle.std.specs.List.{last_or}
use Rattle.mix_tree.specs.Forest.{none, tree}
use Rattle.mix_tree.specs.Nodes.{Documents, label_at, kids_at}
use Rattle.mix_tree.specs.Place.{has_place}
use Rattle.mix_tree.specs.declared.var.Key.{Key}
use Rattle.node_text.specs.Node.{LevelValue, NodeValue}
use Rattle.plan_core.specs.Events.{VisitedAreMatches}
use Rattle.plan_core.specs.declared.plan.Piece.{Piece}
use Rattle.plan_core.specs.declared.plan.Piece.TheVariants.{Var as var_piece, LabelOf as label_piece, Text as text_piece}
use Rattle.plan_core.specs.Plans.{Operator, PlanValue}
use Rattle.plan_core.specs.TolledRows.{same_values}
use Rattle.plan_core.specs.Valid.{IsValid}
use Rattle.plan_evidence.specs.Held.{UsesHeld, node_values}
use Rattle.plan_evidence.specs.Named.{Listing, Names, element_list, maker, of_pieces, outer_of}
use Rattle.lazy_follow.specs.Following.{Choice, nothing, a_tree, a_member, a_list_among, FollowedAreNamed, Follows, FollowsFrom, FollowsFromOuter, FollowsTree, IsFollowed, IsFollowedBy, IsMet, IsUnder, IsUnderVar, Stand, choice, list_in, nodes_at}
use Rattle.text_senses.specs.Senses.{TextsHaveSenses}
use Rattle.text_senses.proofs.Evident.{Decided, decided_both, decided_by, decided_evidence, decided_place, decided_test}

module _ (visits : VisitedAreMatches) (docs : Documents) (ops : List Operator) where
  -- places are right evidence that agrees by keys with that of a stand, or not
  decided_met : (keys : List Key) (here there : Stand) → Decided (IsMet docs ops keys here there)
  decided_met keys here there =
      decided_by (λ h. record { evidence = h.0; same_group = h.1 }) (λ m. (m.evidence, m.same_group))
      (decided_both (decided_evidence visits docs (nodes_at docs ops there) ops there.op there.places)
      (decided_test (same_values (node_values docs keys (nodes_at docs ops here)) (node_values docs keys (nodes_at docs ops there)))))

  -- a place below a variable's node is there or not
  decided_under_var : (s : Stand) (v : ℕ) (list : Option ℕ) (p : List ℕ) → Decided (IsUnderVar docs ops s v list p)
  decided_under_var s v None p = decided_test (has_place (tree (label_at docs (nodes_at docs ops s v)) (kids_at docs (nodes_at docs ops s v)) none) p)
  decided_under_var s v (Some u) p = decided_place p []

  -- a place below the tree of a piece is there or not
  decided_under : (s : Stand) (piece : Piece) (p : List ℕ) → Decided (IsUnder docs ops s piece p)
  decided_under s (var_piece v) p = decided_under_var s v (element_list (maker ops v)) p
  decided_under s (label_piece v) p = decided_place p []
  decided_under s (text_piece label) p = decided_place p []

  -- what is said of what an option holds is decided where it is of each such thing
  decided_some : {X : Type 0} (Rest : X → Type 0) → ((x : X) → Decided (Rest x)) → (o : Option X) → Decided (MatchOption o ⊥ Rest)
  decided_some Rest rest None = inr (λ h. h)
  decided_some Rest rest (Some x) = rest x

  module _ (Rest : Stand → Listing → Type 0) (rest : (s : Stand) (list : Listing) → Decided (Rest s list)) where
    -- the levels behind a tree can be followed or not, where that is decided of the rest
    decided_tree : (here : Stand) (piece : Piece) (ls : List LevelValue) (p : List ℕ) → Decided (FollowsTree docs ops Rest here piece ls p)
    decided_tree here piece [] p = decided_under here piece p
    decided_tree here piece (l ∷ ls) p = decided_some (Rest here) (rest here) (list_in ops piece)

    -- the levels behind one can be followed from what it chooses or not, where that is decided of the rest
    decided_from : (here : Stand) (places : List (List ℕ)) (c : Choice) (ls : List LevelValue) (p : List ℕ) → Decided (FollowsFrom docs ops Rest here places c ls p)
    decided_from here places nothing ls p = inr (λ h. h)
    decided_from here places (a_tree piece) ls p = decided_tree here piece ls p
    decided_from here places (a_member n keys piece) ls p =
        let there : Stand = record { op = n; places = places } in
        decided_both (decided_met keys here there) (decided_tree there piece ls p)
    decided_from here places (a_list_among inner) ls p = rest here (of_pieces inner)

  -- levels and a place below can be followed from a list or not
  decided_follows : (here : Stand) (list : Listing) (ls : List LevelValue) (p : List ℕ) → Decided (Follows docs ops here list ls p)
  decided_follows here list [] p = inr (λ h. h)
  decided_follows here list (l ∷ ls) p =
      decided_from (λ there inner. Follows docs ops there inner ls p) (λ there inner. decided_follows there inner ls p) here l.tuple (choice ops list l) ls p

  -- levels and a place below can be followed from the outer element or not
  decided_outer : (ls : List LevelValue) (p : List ℕ) → Decided (FollowsFromOuter docs ops ls p)
  decided_outer ls p = by (outer_of (last_or None ops)) refl
    where
      in_list : (o : ℕ × ℕ) → outer_of (last_or None ops) ≡ Some o → (list : Option Listing) → list_in ops (var_piece o.1) ≡ list → Decided (FollowsFromOuter docs ops ls p)
      in_list o is None unset = inr (λ h. absurd (let same = same_Some (h.input, h.outer) o (sym h.is_outer ∙ is) in
          let z : None ≡ Some h.list = sym unset ∙ subst (λ (x : ℕ × ℕ). list_in ops (var_piece x.1) ≡ Some h.list) same h.is_list in cc))
      in_list o is (Some list) set =
          decided_by
          (λ f. record { input = o.0; outer = o.1; list = list; is_outer = is; is_list = set; follows = f })
          (λ h.
          let same = same_Some (h.input, h.outer) o (sym h.is_outer ∙ is) in
          let its : h.list ≡ list = same_Some h.list list (sym (subst (λ (x : ℕ × ℕ). list_in ops (var_piece x.1) ≡ Some h.list) same h.is_list) ∙ set) in
          subst (λ (i : ℕ). Follows docs ops (record { op = i; places = [] }) list ls p) (ap (λ (x : ℕ × ℕ). x.0) same)
          (subst (λ (l : Listing). Follows docs ops (record { op = h.input; places = [] }) l ls p) its h.follows))
          (decided_follows (record { op = o.0; places = [] }) list ls p)

      by : (o : Option (ℕ × ℕ)) → outer_of (last_or None ops) ≡ o → Decided (FollowsFromOuter docs ops ls p)
      by None unset = inr (λ h. absurd (let z : None ≡ Some (h.input, h.outer) = sym unset ∙ h.is_outer in cc))
      by (Some o) is = in_list o is (list_in ops (var_piece o.1)) refl

  -- a text can be followed to the end or not
  decided_followed : (d : NodeValue) → Decided (IsFollowed docs ops d)
  decided_followed d = by d.levels
    where
      by : (ls : List LevelValue) → Decided (IsFollowedBy docs ops ls d.inside)
      by [] = decided_place d.inside []
      by (l ∷ ls) = decided_outer (l ∷ ls) d.inside

-- of each text it is told which node it names
pub senses : FollowedAreNamed → VisitedAreMatches → TextsHaveSenses
senses law visits p valid uses docs = (named, λ d. right d (decided_followed visits docs p.ops d))
  where
    named_by : (d : NodeValue) → Decided (IsFollowed docs p.ops d) → Option (List ℕ)
    named_by d (inl followed) = Some ((law p valid uses docs d).0 followed).0
    named_by d (inr not) = None

    named : NodeValue → Option (List ℕ)
    named d = named_by d (decided_followed visits docs p.ops d)

    right : (d : NodeValue) (c : Decided (IsFollowed docs p.ops d)) → MatchOption (named_by d c) ((place : List ℕ) → Names docs p.ops d place → ⊥) (Names docs p.ops d)
    right d (inl followed) = ((law p valid uses docs d).0 followed).1
    right d (inr not) = λ place is. not ((law p valid uses docs d).1 place is)
