-- Levels that lead to a tree name it, and what lies below it.
use Rattle.std.proofs.Common.{◌≡◌, ℕ, Some, List, [], ◌∷◌, ◌++◌, refl, sym, subst, append_assoc}
use Rattle.mix_tree.specs.Nodes.{Documents}
use Rattle.node_text.specs.Node.{LevelValue}
use Rattle.plan_core.specs.declared.plan.Piece.{Piece}
use Rattle.plan_core.specs.declared.plan.Piece.TheVariants.{Var as var_piece}
use Rattle.plan_core.specs.Plans.{Operator}
use Rattle.plan_evidence.specs.Named.{maker, Listing, element_list, list_of, Reached, Ends, Leads, to_tree, to_element, to_pieces, LeadsFromOuter, NamesBy}
use Rattle.plan_evidence.specs.Opened.{Enters, by_one, by_pieces, Opens, of_outer, of_element, OpenedIsNamed}

module _ (docs : Documents) (ops : List Operator) where
  -- levels that lead from a list to a tree lead to what lies below the tree
  enters_tree : {here there : Reached} {list : Listing} {ls : List LevelValue} {j : ℕ} {piece : Piece} {p : List ℕ} → Enters docs ops here list ls j there piece
      → Ends docs ops there.row piece p → Leads docs ops here list ls p (j ∷ p)
  enters_tree (by_one pick) e = to_tree pick e
  enters_tree (by_pieces g t l more) e = to_pieces g t l (enters_tree more e)

  -- levels that lead from a list to an element, and then those that lead on from the element's list, lead there together
  enters_element : {here there : Reached} {list inner : Listing} {ls ms : List LevelValue} {j v u : ℕ} {p r : List ℕ} → Enters docs ops here list ls j there (var_piece v)
      → element_list (maker ops v) ≡ Some u → list_of ops u ≡ Some inner → Leads docs ops there inner ms p r → Leads docs ops here list (ls ++ ms) p (j ∷ r)
  enters_element (by_one pick) e i h = to_element pick e i h
  enters_element (by_pieces g t l more) e i h = to_pieces g t l (enters_element more e i h)

  -- levels that lead to an element, and then those that lead on from the element's list, lead there together
  opens_further : {here : Reached} {inner : Listing} {ls ms : List LevelValue} {q p r : List ℕ} {v u : ℕ} → Opens docs ops ls q here (var_piece v) → element_list (maker ops v) ≡ Some u
      → list_of ops u ≡ Some inner → Leads docs ops here inner ms p r → LeadsFromOuter docs ops (ls ++ ms) p (q ++ r)
  opens_further (of_outer {here = first} {inner = list} o n) e i h = record { here = first; inner = list; is_outer = o; leads = enters_element n e i h }
  opens_further {ms = ms} {p = p} {r = r} (of_element {ls = ls} {ms = ns} {q = q} {j = j} before f k n) e i h =
      subst (λ z. LeadsFromOuter docs ops z p ((q ++ j ∷ []) ++ r)) (sym (append_assoc ls ns ms))
      (subst (LeadsFromOuter docs ops (ls ++ (ns ++ ms)) p) (sym (append_assoc q (j ∷ []) r)) (opens_further before f k (enters_element n e i h)))

  -- some levels lead into a list
  enters_some : {here there : Reached} {list : Listing} {ls : List LevelValue} {j : ℕ} {piece : Piece} → Enters docs ops here list ls j there piece → ls ≡ [] → ⊥
  enters_some (by_one pick) e = cc
  enters_some (by_pieces g t l more) e = cc

  -- levels that lead to a tree are some
  opens_some : {there : Reached} {ls : List LevelValue} {q : List ℕ} {piece : Piece} → Opens docs ops ls q there piece → ls ≡ [] → ⊥
  opens_some (of_outer o n) e = enters_some n e
  opens_some (of_element {ls = ls} {ms = ms} before f k n) e = first ls ms (opens_some before) e
    where
      first : (xs ys : List LevelValue) → (xs ≡ [] → ⊥) → xs ++ ys ≡ [] → ⊥
      first [] ys h e = h refl
      first (x ∷ xs) ys h e = cc

  -- some levels name that to which they lead
  names_led : (ls : List LevelValue) (p q : List ℕ) → (ls ≡ [] → ⊥) → LeadsFromOuter docs ops ls p q → NamesBy docs ops ls p q
  names_led [] p q h k = absurd (h refl)
  names_led (l ∷ ls) p q h k = k

  -- levels that lead to a tree lead to what lies below it
  opens_tree : {there : Reached} {ls : List LevelValue} {q p : List ℕ} {piece : Piece} → Opens docs ops ls q there piece → Ends docs ops there.row piece p → LeadsFromOuter docs ops ls p (q ++ p)
  opens_tree (of_outer {here = first} {inner = list} o n) e = record { here = first; inner = list; is_outer = o; leads = enters_tree n e }
  opens_tree {p = p} (of_element {ls = ls} {ms = ms} {q = q} {j = j} before f k n) e =
      subst (LeadsFromOuter docs ops (ls ++ ms) p) (sym (append_assoc q (j ∷ []) p)) (opens_further before f k (enters_tree n e))

-- levels that lead to a tree name what a place below ends at it
pub opened_named : OpenedIsNamed
opened_named docs ops ls q p there piece h e = names_led docs ops ls p (q ++ p) (opens_some docs ops h) (opens_tree docs ops h e)
