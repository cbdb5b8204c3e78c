-- A mediator that was just opened knows the root.
use Rattle.std.proofs.Common.{◌≡◌, inl, inr, ℕ, true, false, List, [], Option, Some, None, refl, sym, ap, subst, ◌∙◌, arith}
use Rattle.std.specs.Prelude.{IsTrue, is_some}
use Rattle.std.specs.BTreeMap.{BTreeMap, get, Updates}
use Rattle.std.specs.Cmp.Lexicographic.{slice_cmp}
use Rattle.std.specs.Map.{lookup}
use Rattle.std.specs.Ordering.{nat_cmp, is_eq}
use Rattle.lxp_core.specs.View.{View}
use Rattle.node_text.specs.Grammar.{Spells}
use Rattle.node_text.specs.Node.{NodeValue, node}
use Rattle.node_text.proofs.Verdicts.{one_node}
use Rattle.lazy_walk.specs.declared.ids.WalkedNode.{WalkedNode}
use Rattle.lazy_walk.specs.declared.walk.Walk.{Walk}
use Rattle.lazy_walk.specs.Finding.{root_height}
use Rattle.lazy_walk.specs.Stages.{IsStage, part_of}
use Rattle.lazy_walk.specs.Walks as walks
use Rattle.lazy_walk.specs.Walks.{IsWalkOf, node_height}
use Rattle.lazy_walk.specs.Places.{IsAt}
use Rattle.lazy_value.specs.Forms.{SpellsRoot}
use Rattle.lazy_value.specs.Named.{IsFoundFor, IsMediatorOf, state_of}
use Rattle.lazy_value.proofs.Going.{same_text}
use Rattle.lazy_value.proofs.Keeping.{found_back, found_new, found_now}
use Rattle.lazy_value.proofs.Parts.{root_part}

module _ (v : View) (walk : Walk) (is_walk : IsWalkOf v walk) (root : WalkedNode) (at : IsAt (walks.state_of v walk) root [])
    (height : node_height (walks.state_of v walk) root ≡ root_height (walks.state_of v walk)) (empty found : BTreeMap (List ℕ) WalkedNode) (none : empty.entries ≡ [])
    (text : List ℕ) (spells : SpellsRoot text) (update : Updates (slice_cmp nat_cmp) empty found text (Some root)) where
  -- nothing is found in an empty map
  nothing_found : (q : List ℕ) → get (slice_cmp nat_cmp) empty q ≡ None
  nothing_found q = ap (lookup (λ k. is_eq (slice_cmp nat_cmp q k))) none

  -- what was found for the root's text stands at the root
  root_found : IsFoundFor (walks.state_of v walk) text root
  root_found = record {
    says = node [] [];
    spells = spells;
    node = at.node;
    height = omega (arith, height);
    names = λ tells. ([], (refl, refl));
    place = λ tells p names. subst (IsAt (walks.state_of v walk) root) (sym names.1) at;
  }

  -- the root is found for each text that spells it
  root_there : (q : List ℕ) → SpellsRoot q → IsTrue (is_some (get (slice_cmp nat_cmp) found q))
  root_there q f = subst (λ (t : List ℕ). IsTrue (is_some (get (slice_cmp nat_cmp) found t))) (same_text text q (node [] []) spells f) (found_now empty found text root update)

  -- the mediator is sound
  pub opened : IsMediatorOf v (record { walk = walk; found = found })
  opened = record {
    walk = is_walk;
    found = λ q x e. elim (found_new empty found text root update q x e) [
      | inl f ↦ (let z : None ≡ Some x = sym (nothing_found q) ∙ f in let w : ⊥ = cc in absurd w)
      | inr f ↦ subst (λ (t : List ℕ). IsFoundFor (walks.state_of v walk) t x) f.0 (subst (IsFoundFor (walks.state_of v walk) text) f.1 root_found)
    ];
    root = root_there;
    shared = λ tells q d f was stage is p names part says. elim (found_back empty found text root update q was) [
      | inl g ↦ (let z : true ≡ false = sym g ∙ ap (λ (o : Option WalkedNode). is_some o) (nothing_found q) in let w : ⊥ = cc in absurd w)
      | inr same ↦
          (let e : d ≡ node [] [] = one_node q d (node [] []) f (subst (λ (t : List ℕ). Spells t (node [] [])) same spells) in
          let none_left : IsStage (node [] []) stage = subst (λ (y : NodeValue). IsStage y stage) e is in
          let h = none_left.levels in
          let k = none_left.steps in
          let whole : part_of d stage ≡ node [] [] = ap (λ (y : NodeValue). part_of y stage) e ∙ root_part (node [] []) stage (omega (arith, h, k)) in
          root_there part (subst (Spells part) whole says))
    ];
  }
