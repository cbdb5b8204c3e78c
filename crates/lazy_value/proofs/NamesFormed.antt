-- What names a node is of a form that a text can say.
use Rattle.std.proofs.Common.{◌≡◌, ℕ, List, [], ◌∷◌, sym, subst}
use Rattle.std.specs.List.{AllByRecursion}
use Rattle.mix_tree.specs.Nodes.{Documents}
use Rattle.mix_tree.specs.declared.var.Key.{Key}
use Rattle.node_text.specs.Node.{LevelValue, NodeValue, ArePlaces, IsFormed}
use Rattle.plan_core.specs.declared.plan.Piece.{Piece}
use Rattle.plan_core.specs.Plans.{Operator}
use Rattle.plan_evidence.specs.Named.{Listing, Reached, IsMember, Picks, of_member, of_piece, of_list_member, Leads, to_tree, to_element, to_pieces, Names, NamesBy}
use Rattle.plan_evidence.proofs.EachNamed.{places_formed}

module _ (docs : Documents) (ops : List Operator) where
  -- no place of right evidence of a member is empty
  member_formed : (n : ℕ) (keys : List Key) (here : Reached) (places : List (List ℕ)) (j : ℕ) (there : Reached) → IsMember docs ops n keys here places j there → ArePlaces places
  member_formed n keys here places j there m = subst ArePlaces m.evidence.written (places_formed docs there.nodes ops n m.evidence.right)

  -- no place of a level that picks a tree is empty
  pick_formed : {here there : Reached} {list : Listing} {l : LevelValue} {j : ℕ} {x : Piece} → Picks docs ops here list l j there x → ArePlaces l.tuple
  pick_formed {here = here} {there = there} {l = l} (of_member {n = n} {j = j} {keys = keys} z m) = member_formed n keys here l.tuple j there m
  pick_formed (of_piece e t s) = subst ArePlaces (sym t) tt
  pick_formed {here = here} {there = there} {l = l} (of_list_member {n = n} {j = j} {keys = keys} e g m) = member_formed n keys here l.tuple j there m

  -- no place of levels that lead somewhere is empty
  leads_formed : {here : Reached} {list : Listing} {ls : List LevelValue} {q place : List ℕ} → Leads docs ops here list ls q place → AllByRecursion (λ l. ArePlaces l.tuple) ls
  leads_formed (to_tree pick e) = (pick_formed pick, tt)
  leads_formed (to_element pick f g r) = (pick_formed pick, leads_formed r)
  leads_formed (to_pieces e t g r) = (subst ArePlaces (sym t) tt, leads_formed r)

  -- what levels and a place below name, a text can say
  by_levels : (ls : List LevelValue) (q place : List ℕ) → NamesBy docs ops ls q place → (ls ≡ [] → q ≡ []) × AllByRecursion (λ l. ArePlaces l.tuple) ls
  by_levels [] q place h = (λ z. h.0, tt)
  by_levels (l ∷ ls) q place h = (λ z. (let f : ⊥ = cc in absurd f), leads_formed h.leads)

  -- what names a node, a text can say
  pub names_formed : (d : NodeValue) (place : List ℕ) → Names docs ops d place → IsFormed d
  names_formed d place h = (let f = by_levels d.levels d.inside place h in record { root = f.0; places = f.1 })
