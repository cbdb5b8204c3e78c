-- Nodes are right evidence of an operator by what is bound on its way alone, and where they are of its inputs and it holds of them.
use Rattle.std.proofs.Common.{◌≡◌, inl, inr, ℕ, ◌<◌, true, List, [], ◌∷◌, refl, sym, ap, subst, ◌∙◌, arith, length}
use Rattle.std.specs.Prelude.{Bool, Some}
use Rattle.std.specs.List.{AllByRecursion}
use Rattle.mix_base.specs.Ascents.{Among}
use Rattle.mix_tree.specs.Nodes.{Documents, Node}
use Rattle.mix_tree.specs.declared.comparing.Operand.{Operand}
use Rattle.mix_tree.specs.declared.comparing.Operand.TheVariants.{Var as var_operand, Text as text_operand}
use Rattle.mix_tree.specs.declared.comparing.Test.{Test}
use Rattle.plan_core.specs.Plans.{PlanValue}
use Rattle.plan_core.specs.Shapes.{filters, extends, first_by_keys, one_group, in_order, Shape, one_source, visits_below, pairs_up, passes_on, no_events, shape_at}
use Rattle.plan_core.specs.Typed.{IsTyped}
use Rattle.plan_core.specs.Valid.{a_node, Kinds, either_kind, shape_inputs, shape_outs, kinds, IsOperand, IsTest, IsShapeFit, IsValid}
use Rattle.plan_core.proofs.Fresh.{smaller}
use Rattle.plan_evidence.specs.Evidence.{shape_way, ShapeHolds, AreRight}
use Rattle.mix_base.proofs.Ascents.{among_cases}
use Rattle.plan_evidence.proofs.NodeValues.{operand_vars, test_vars, tests_vars}
use Rattle.plan_evidence.proofs.Evident.{shape_vars, holds_alike, node_binds, side_binds, binds_on}
use Rattle.plan_evidence.proofs.Ways.{binds, binds_yes, way_self, way_cases, binds_input}

-- the variables of a comparison hold nodes, where it fits
pub test_kind : (ks : Kinds) (t : Test) → IsTest ks t → (v : ℕ) → Among v (test_vars t) → ks v ≡ Some a_node
test_kind ks t h v (inl e) = ap ks e ∙ h.0
test_kind ks t h v (inr a) = right t.right h.1 a
  where
    right : (o : Operand) → IsOperand ks t.op o → Among v (operand_vars o) → ks v ≡ Some a_node
    right (var_operand w) g (inl e) = ap ks e ∙ g
    right (var_operand w) g (inr a) = absurd a
    right (text_operand label) g a = absurd a

module _ (p : PlanValue) (valid : IsValid p) (typed : IsTyped p.ops) (docs : Documents) where
  -- what is said of each variable that holds a node is said of those of comparisons
  tests_bound : (of : ℕ → Bool) (ks : Kinds) (tests : List Test) → AllByRecursion (IsTest ks) tests → ((v : ℕ) → ks v ≡ Some a_node → of v ≡ true) → (v : ℕ) → Among v (tests_vars tests) → of v ≡ true
  tests_bound of ks [] h f v a = absurd a
  tests_bound of ks (t ∷ tests) h f v a = elim (among_cases (test_vars t) (tests_vars tests) v a) [
    | inl b ↦ f v (test_kind ks t h.0 v b)
    | inr b ↦ tests_bound of ks tests h.1 f v b
  ]

  -- the variables of which a shape asks something are bound on its operator's way
  used_bound : (n : ℕ) → n < length p.ops → (f : Shape) → shape_at p.ops n ≡ f → IsShapeFit f (kinds p.ops) → ((i : ℕ) → Among i (shape_inputs f) → i < length p.ops) → (v : ℕ) → Among v (shape_vars f)
      → binds p.ops n v ≡ true
  used_bound n b (one_source s out) e fit l v (inl x) = binds_yes p.ops n v n b (way_self p.ops n) (subst (λ (g : Shape). Among v (shape_outs g)) (sym e) (inl x))
  used_bound n b (one_source s out) e fit l v (inr a) = absurd a
  used_bound n b (visits_below i start path out) e fit l v (inl x) =
      binds_input p valid typed n i v b (subst (λ (g : Shape). Among i (shape_way g)) (sym e) (inl refl)) (node_binds p valid typed i v (l i (inl refl)) (ap (kinds p.ops i) x ∙ fit.0))
  used_bound n b (visits_below i start path out) e fit l v (inr (inl x)) = binds_yes p.ops n v n b (way_self p.ops n) (subst (λ (g : Shape). Among v (shape_outs g)) (sym e) (inl x))
  used_bound n b (visits_below i start path out) e fit l v (inr (inr a)) = absurd a
  used_bound n b (pairs_up i j tests) e fit l v a =
      tests_bound (binds p.ops n) (λ v. either_kind (kinds p.ops i v) (kinds p.ops j v)) tests fit
      (λ w g. side_binds p valid typed n i j w b (ap shape_way e) (l i (inl refl)) (l j (inr (inl refl))) g) v a
  used_bound n b (passes_on i (filters test)) e fit l v a =
      binds_input p valid typed n i v b (subst (λ (g : Shape). Among i (shape_way g)) (sym e) (inl refl)) (node_binds p valid typed i v (l i (inl refl)) (test_kind (kinds p.ops i) test fit v a))
  used_bound n b (passes_on i (extends out made)) e fit l v a = absurd a
  used_bound n b (passes_on i (first_by_keys keys group)) e fit l v a = absurd a
  used_bound n b (passes_on i (one_group piece out)) e fit l v a = absurd a
  used_bound n b (passes_on i (in_order w desc)) e fit l v a = absurd a
  used_bound n b (no_events i made) e fit l v a = absurd a

  -- an operator's inputs are operators of the plan
  pub inputs_low : (n : ℕ) → n < length p.ops → (i : ℕ) → Among i (shape_inputs (shape_at p.ops n)) → i < length p.ops
  inputs_low n b i a = (let s = smaller p valid typed i n b a in omega (arith, s, b))

  -- nodes that are alike, in the variables bound on the way, with right evidence are right evidence
  pub right_alike : (n : ℕ) → n < length p.ops → (a b : ℕ → Node) → ((v : ℕ) → binds p.ops n v ≡ true → a v ≡ b v) → AreRight docs p.ops n a → AreRight docs p.ops n b
  right_alike n l a b same r i c o =
      holds_alike docs a b (shape_at p.ops i)
      (λ v x. same v (binds_on p valid typed n i v l o (used_bound i c (shape_at p.ops i) refl (typed.fit i c) (inputs_low i c) v x))) (r i c o)

  -- nodes of which an operator holds, and that are right evidence of each of its inputs on the way, are right evidence of it
  pub right_from : (n : ℕ) → n < length p.ops → (a : ℕ → Node) → ShapeHolds docs a (shape_at p.ops n) → ((i : ℕ) → Among i (shape_way (shape_at p.ops n)) → AreRight docs p.ops i a) → AreRight docs p.ops n a
  right_from n l a h f i c o = elim (way_cases p valid typed n i l o) [
    | inl e ↦ subst (λ j. ShapeHolds docs a (shape_at p.ops j)) e h
    | inr r ↦ f r.input r.among i c r.on_way
  ]
