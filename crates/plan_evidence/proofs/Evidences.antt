-- Each binding of an operator of a valid plan has right evidence: the nodes of its variables, and of those of which it was made.
use Rattle.std.proofs.Common.{◌≡◌, inl, inr, ℕ, zero, suc, ◌<◌, true, false, cond, List, [], ◌∷◌, ◌++◌, refl, sym, ap, subst, ◌∙◌, arith, length}
use Rattle.std.specs.Prelude.{Bool, ◌&&◌, ◌==◌, Option, Some, None}
use Rattle.std.specs.List.{list_all, AllByRecursion}
use Rattle.std.proofs.lemmas.Bool.{eqb-true}
use Rattle.std.proofs.lemmas.Bool.Decides.{nat_tests}
use Rattle.mix_base.specs.Ascents.{Among}
use Rattle.mix_base.specs.Events.{without_skips}
use Rattle.mix_tree.specs.Comparisons.{passes}
use Rattle.mix_tree.specs.Keys.{has_var}
use Rattle.mix_tree.specs.Nodes.{Documents, Node, document_node}
use Rattle.mix_tree.specs.declared.comparing.Test.{Test}
use Rattle.mix_tree.specs.declared.var.Key.{Key}
use Rattle.path_expr.specs.Form.{Form}
use Rattle.path_expr.specs.Matches.{IsMatch}
use Rattle.plan_core.specs.Beside.{EachBinding}
use Rattle.plan_core.specs.ByNumber.{op_at}
use Rattle.plan_core.specs.Events.{with_node, passes_all, descendants, pairs, each_row, extended, made_value, kept_row, shape_events, events}
use Rattle.plan_core.specs.Plans.{PlanValue}
use Rattle.plan_core.specs.Shapes.{Stage, filters, extends, first_by_keys, one_group, in_order, Shape, one_source, visits_below, pairs_up, passes_on, no_events, shape_at}
use Rattle.plan_core.specs.TolledRows.{TolledRow, key_values, same_values, row_node, TolledValue, of_source, tolled_value, source_node, tolled_restrict}
use Rattle.plan_core.specs.Typed.{IsTyped}
use Rattle.plan_core.specs.Valid.{Kind, a_node, a_list, Kinds, AreNodes, no_kinds, with_kind, kept, either_kind, made_kind, shape_kinds, shape_inputs, shape_outs, inputs_of, outs_of, kinds, IsTest, IsStageFit, IsShapeFit, IsValid}
use Rattle.plan_core.proofs.Fresh.{kept_bound, smaller, kinds-is}
use Rattle.plan_core.proofs.KeyValues.{all_itself}
use Rattle.plan_evidence.specs.Evidence.{shape_way, ShapeHolds, AreRight}
use Rattle.plan_evidence.specs.Held.{node_values, held, AreOf}
use Rattle.plan_core.specs.Fronts.{are_contiguous, front}
use Rattle.plan_core.proofs.Bindings.{binding_expand, binding_each_row, binding_distinct, binding_sorted, binding_weaker}
use Rattle.plan_core.proofs.BoundRows.{IsBound, value_own, value_after, fresh_differs, restrict_value}
use Rattle.plan_core.proofs.Numbers.{events-of}
use Rattle.plan_core.proofs.Typed.{valid_is_typed}
use Rattle.path_auto.specs.Visit.{visits}
use Rattle.path_auto.proofs.Bindings.{visits_are_matches}
use Rattle.mix_base.proofs.Choices.{some_is, none_some}
use Rattle.plan_evidence.specs.Laws.{HasEvidence, BindingsHaveEvidence}
use Rattle.plan_evidence.proofs.HeldApart.{anew, known_below}
use Rattle.plan_evidence.proofs.HeldSteps.{AreHeld}
use Rattle.plan_evidence.proofs.NodeValues.{passes_alike, keys_alike}
use Rattle.plan_evidence.proofs.Evident.{each_nodes, each_only, each_both, node_binds, made_is_no_node, list_is_no_node}
use Rattle.plan_evidence.proofs.Rights.{inputs_low, right_alike, right_from, test_kind}
use Rattle.plan_evidence.proofs.Ways.{binds, way_inputs, sides_apart, out_apart}

-- nodes of variables with that of one variable more
with_node_as : ℕ → Node → (ℕ → Node) → ℕ → Node
with_node_as out n nodes v = cond (out == v) n (nodes v)

-- nodes of variables from the first where they pass a test, else from the second
either_node : (ℕ → Bool) → (ℕ → Node) → (ℕ → Node) → ℕ → Node
either_node left a b v = cond (left v) (a v) (b v)

-- the node of a variable in a binding with another variable more is that before
node_more : (out : ℕ) (x : TolledValue) (row : TolledRow) (v : ℕ) → (out == v) ≡ false → row_node ((out, x) ∷ row) v ≡ row_node row v
node_more out x row v e = ap (λ t. source_node (cond t x (tolled_value row v))) e

-- the node of a variable in a binding that has it first is that of its value
node_here : (out : ℕ) (x : TolledValue) (row : TolledRow) (v : ℕ) → (out == v) ≡ true → row_node ((out, x) ∷ row) v ≡ source_node x
node_here out x row v e = ap (λ t. source_node (cond t x (tolled_value row v))) e

-- a variable that holds a node, after another kind was bound anew, is another one and held a node before
kind_more : (out v : ℕ) (k : Kind) (ks : Kinds) → (k ≡ a_node → ⊥) → with_kind out k ks v ≡ Some a_node → ((out == v) ≡ false) × (ks v ≡ Some a_node)
kind_more out v k ks differs e =
    (elim (out == v) as (λ w. (out == v) ≡ w → cond w (Some k) (ks v) ≡ Some a_node → ((out == v) ≡ false) × (ks v ≡ Some a_node)) [
      | true ↦ λ t g. absurd (differs (some_is k a_node g))
      | false ↦ λ t g. (t, g)
    ]) refl e

-- a variable that holds a node after all but those of keys were dropped is one of the keys
kept_has : (keys : List Key) (ks : Kinds) (v : ℕ) → kept keys ks v ≡ Some a_node → has_var keys v ≡ true
kept_has keys ks v e = (elim (has_var keys v) as (λ w. has_var keys v ≡ w → cond w (ks v) None ≡ Some a_node → w ≡ true) [ true ↦ λ t g. refl | false ↦ λ t g. none_some a_node g ]) refl e

module _ (p : PlanValue) (valid : IsValid p) (typed : IsTyped p.ops) (docs : Documents) where
  -- a binding of operator n has right evidence that is exactly the nodes of its variables
  pub record Evident (n : ℕ) (ks : Kinds) (row : TolledRow) : Type 0 where
    pub nodes : ℕ → Node
    pub right : AreRight docs p.ops n nodes
    pub exact : (v : ℕ) → ks v ≡ Some a_node → nodes v ≡ row_node row v

  -- exact evidence of a binding of an operator's only input is so of what the operator makes of that binding, where its nodes stay
  on_input : (n i : ℕ) → n < length p.ops → (f : Shape) → shape_at p.ops n ≡ f → shape_way f ≡ i ∷ [] → (ks ks' : Kinds) (row row' : TolledRow) → (e : Evident i ks row) → ShapeHolds docs e.nodes f
      → ((v : ℕ) → ks' v ≡ Some a_node → (ks v ≡ Some a_node) × (row_node row' v ≡ row_node row v)) → Evident n ks' row'
  on_input n i b f is way ks ks' row row' e h g = record {
    nodes = e.nodes;
    right =
        right_from p valid typed docs n b e.nodes (subst (ShapeHolds docs e.nodes) (sym is) h)
        (λ j a. subst (λ k. AreRight docs p.ops k e.nodes) (sym (alone j (subst (Among j) (ap shape_way is ∙ way) a))) e.right);
    exact = λ v x. (let y = g v x in e.exact v y.0 ∙ sym y.1);
  }
    where
      alone : (j : ℕ) → Among j (i ∷ []) → j ≡ i
      alone j (inl x) = x
      alone j (inr a) = absurd a

  -- a source's binding has exact evidence
  source_evident : (n s out : ℕ) → n < length p.ops → shape_at p.ops n ≡ one_source s out → Evident n (with_kind out a_node no_kinds) ((out, of_source (document_node s)) ∷ [])
  source_evident n s out b is = record {
    nodes = λ v. document_node s;
    right = right_from p valid typed docs n b (λ v. document_node s) (subst (ShapeHolds docs (λ v. document_node s)) (sym is) refl) (λ i a. absurd (subst (λ f. Among i (shape_way f)) is a));
    exact = λ v x.
        (elim (out == v) as (λ w. (out == v) ≡ w → cond w (Some a_node) None ≡ Some a_node → document_node s ≡ row_node ((out, of_source (document_node s)) ∷ []) v) [
          | true ↦ λ t g. sym (node_here out (of_source (document_node s)) [] v t)
          | false ↦ λ t g. (let z : None ≡ Some a_node = g in none_some a_node z)
        ]) refl x;
  }

  -- a binding of a getDescendants has exact evidence where its input's has
  visit_evident : (n i start : ℕ) (path : Form) (out : ℕ) → n < length p.ops → shape_at p.ops n ≡ visits_below i start path out → kinds p.ops i start ≡ Some a_node → kinds p.ops i out ≡ None
      → (row : TolledRow) → Evident i (kinds p.ops i) row → (place : List ℕ) → Among place (without_skips (visits docs path (row_node row start)))
      → Evident n (with_kind out a_node (kinds p.ops i)) (with_node out (row_node row start) row place)
  unfolding with_node_as
  visit_evident n i start path out b is known fresh row e place a =
      let new : Node = record { source = (row_node row start).source; place = place } in
      let nodes : ℕ → Node = with_node_as out new e.nodes in
      let own : (out == out) ≡ true = grind (arith, nat_tests) in
      let out_is : nodes out ≡ new = ap (λ t. cond t new (e.nodes out)) own in
      let other : (out == start) ≡ false = fresh_differs (kinds p.ops i) out start a_node fresh known in
      let start_is : nodes start ≡ row_node row start = ap (λ t. cond t new (e.nodes start)) other ∙ e.exact start known in
      let is_match : IsMatch docs path (row_node row start) new = (refl, ((visits_are_matches docs path (row_node row start)).exactly place).0 a) in
      let among : Among i (inputs_of (op_at p.ops n)) = subst (λ (f : Shape). Among i (shape_inputs f)) (sym is) (inl refl) in
      let outs : Among out (outs_of (op_at p.ops n)) = subst (λ (f : Shape). Among out (shape_outs f)) (sym is) (inl refl) in
      let low : i < length p.ops = inputs_low p valid typed docs n b i among in
      record {
        nodes = nodes;
        right =
            right_from p valid typed docs n b nodes
            (subst (ShapeHolds docs nodes) (sym is) (subst (λ m. IsMatch docs path m (nodes out)) (sym start_is) (subst (IsMatch docs path (row_node row start)) (sym out_is) is_match)))
            (λ j x. subst (λ k. AreRight docs p.ops k nodes) (sym (alone j (subst (λ f. Among j (shape_way f)) is x)))
            (right_alike p valid typed docs i low e.nodes nodes (λ v h. sym (ap (λ t. cond t new (e.nodes v)) (apart v h among outs))) e.right));
        exact = λ v x.
            (elim (out == v) as (λ w. (out == v) ≡ w → cond w (Some a_node) (kinds p.ops i v) ≡ Some a_node → cond w new (e.nodes v) ≡ row_node (with_node out (row_node row start) row place) v) [
              | true ↦ λ t g. sym (node_here out (of_source new) row v t)
              | false ↦ λ t g. e.exact v g ∙ sym (node_more out (of_source new) row v t)
            ]) refl x;
      }
    where
      alone : (j : ℕ) → Among j (i ∷ []) → j ≡ i
      alone j (inl x) = x
      alone j (inr a) = absurd a

      apart : (v : ℕ) → binds p.ops i v ≡ true → Among i (inputs_of (op_at p.ops n)) → Among out (outs_of (op_at p.ops n)) → (out == v) ≡ false
      apart v h x y =
          (elim (out == v) as (λ w. (out == v) ≡ w → w ≡ false) [
            | true ↦ λ t. absurd (out_apart p valid typed n i out b x y (subst (λ u. binds p.ops i u ≡ true) (sym (eqb-true out v t)) h))
            | false ↦ λ t. refl
          ]) refl

  -- comparisons hold of a binding as they do of its nodes
  same_tests : (ks : Kinds) (nodes : ℕ → Node) (row : TolledRow) → ((v : ℕ) → ks v ≡ Some a_node → nodes v ≡ row_node row v) → (ts : List Test) → AllByRecursion (IsTest ks) ts
      → list_all (λ t. passes docs t nodes) ts ≡ passes_all docs ts row
  same_tests ks nodes row f [] h = refl
  same_tests ks nodes row f (t ∷ ts) h =
      let e = passes_alike docs nodes (row_node row) t (λ v z. f v (test_kind ks t h.0 v z)) in
      let d = same_tests ks nodes row f ts h.1 in
      ap (λ w. w && list_all (λ t. passes docs t nodes) ts) e ∙ ap (λ w. passes docs t (row_node row) && w) d

  -- a binding of a join has exact evidence where those of its sides have
  pair_evident : (n l r : ℕ) (tests : List Test) → n < length p.ops → shape_at p.ops n ≡ pairs_up l r tests → IsShapeFit (pairs_up l r tests) (kinds p.ops) → (a b : TolledRow) → IsBound (kinds p.ops l) a
      → Evident l (kinds p.ops l) a → Evident r (kinds p.ops r) b → passes_all docs tests (a ++ b) ≡ true → Evident n (λ v. either_kind (kinds p.ops l v) (kinds p.ops r v)) (a ++ b)
  unfolding either_node
  pair_evident n l r tests within is fit a b bound x y passed =
      let nodes : ℕ → Node = either_node (binds p.ops l) x.nodes y.nodes in
      let in_left : Among l (inputs_of (op_at p.ops n)) = subst (λ (f : Shape). Among l (shape_inputs f)) (sym is) (inl refl) in
      let in_right : Among r (inputs_of (op_at p.ops n)) = subst (λ (f : Shape). Among r (shape_inputs f)) (sym is) (inr (inl refl)) in
      let low_left : l < length p.ops = inputs_low p valid typed docs n within l in_left in
      let low_right : r < length p.ops = inputs_low p valid typed docs n within r in_right in
      let exact : (v : ℕ) → either_kind (kinds p.ops l v) (kinds p.ops r v) ≡ Some a_node → nodes v ≡ row_node (a ++ b) v = λ v e. sides low_left low_right v (kinds p.ops l v) (kinds p.ops r v) refl refl e in
      record {
        nodes = nodes;
        right =
            right_from p valid typed docs n within nodes
            (subst (ShapeHolds docs nodes) (sym is) (same_tests (λ v. either_kind (kinds p.ops l v) (kinds p.ops r v)) nodes (a ++ b) exact tests fit ∙ passed))
            (λ j h. one nodes (right_alike p valid typed docs l low_left x.nodes nodes (λ v g. sym (ap (λ t. cond t (x.nodes v) (y.nodes v)) g)) x.right)
            (right_alike p valid typed docs r low_right y.nodes nodes (λ v g. sym (ap (λ t. cond t (x.nodes v) (y.nodes v)) (not_left v g))) y.right) j (subst (λ f. Among j (shape_way f)) is h));
        exact = exact;
      }
    where
      not_left : (v : ℕ) → binds p.ops r v ≡ true → binds p.ops l v ≡ false
      not_left v g =
          (elim (binds p.ops l v) as (λ w. binds p.ops l v ≡ w → w ≡ false) [
            | true ↦ λ t. absurd (sides_apart p valid typed n l r v within (ap shape_inputs is) t g)
            | false ↦ λ t. refl
          ]) refl

      one : (nodes : ℕ → Node) → AreRight docs p.ops l nodes → AreRight docs p.ops r nodes → (j : ℕ) → Among j (l ∷ r ∷ []) → AreRight docs p.ops j nodes
      one nodes f g j (inl e) = subst (λ k. AreRight docs p.ops k nodes) (sym e) f
      one nodes f g j (inr (inl e)) = subst (λ k. AreRight docs p.ops k nodes) (sym e) g
      one nodes f g j (inr (inr h)) = absurd h

      sides : l < length p.ops → r < length p.ops → (v : ℕ) (j k : Option Kind) → kinds p.ops l v ≡ j → kinds p.ops r v ≡ k → either_kind j k ≡ Some a_node
          → cond (binds p.ops l v) (x.nodes v) (y.nodes v) ≡ row_node (a ++ b) v
      sides f g v None k e d h =
          ap (λ t. cond t (x.nodes v) (y.nodes v)) (not_left v (node_binds p valid typed r v g (d ∙ h))) ∙ y.exact v (d ∙ h) ∙ sym (ap source_node (value_after (kinds p.ops l) a bound v e b))
      sides f g v (Some j) k e d h =
          ap (λ t. cond t (x.nodes v) (y.nodes v)) (node_binds p valid typed l v f (e ∙ h)) ∙ x.exact v (e ∙ h) ∙ sym (ap source_node (value_own (kinds p.ops l) a bound v j e b))

  -- each binding of an operator has exact evidence
  abbrev Known : ℕ → Type 0
  Known n = EachBinding (Evident n (kinds p.ops n)) (events docs p.ops n)

  -- of an operator's events: which variables they bind, and that no two agree by the keys that it holds
  held_at : (n : ℕ) → n < length p.ops → AreHeld docs (kinds p.ops n) (held p.ops n) (events docs p.ops n)
  held_at n b = known_below p valid docs (suc n) n (omega arith) b

  -- each binding of a stage has exact evidence, where each of its input has
  stage_evident : (n : ℕ) → n < length p.ops → (i : ℕ) → i < length p.ops → (stage : Stage) → shape_at p.ops n ≡ passes_on i stage → IsStageFit (kinds p.ops i) stage
      → (Among i (shape_way (passes_on i stage)) → Known i)
      → EachBinding (Evident n (shape_kinds (passes_on i stage) (kinds p.ops))) (shape_events docs (front p.ops) (passes_on i stage) (events docs p.ops))
  stage_evident n b i l (filters test) e fit h =
      each_only (Evident i (kinds p.ops i)) (Evident n (kinds p.ops i)) (λ row. passes docs test (row_node row))
      (λ row x t. on_input n i b (passes_on i (filters test)) e refl (kinds p.ops i) (kinds p.ops i) row row x
      (passes_alike docs x.nodes (row_node row) test (λ v a. x.exact v (test_kind (kinds p.ops i) test fit v a)) ∙ t) (λ v k. (k, refl)))
      (events docs p.ops i) (h (inl refl))
  stage_evident n b i l (extends out made) e fit h =
      binding_each_row (Evident i (kinds p.ops i)) (Evident n (with_kind out (made_kind made) (kinds p.ops i))) (extended docs out made)
      (λ row x. on_input n i b (passes_on i (extends out made)) e refl (kinds p.ops i) (with_kind out (made_kind made) (kinds p.ops i)) row (extended docs out made row) x tt
      (λ v k. (let m = kind_more out v (made_kind made) (kinds p.ops i) (made_is_no_node made) k in (m.1, node_more out (made_value docs made row) row v m.0))))
      (events docs p.ops i) (h (inl refl))
  stage_evident n b i l (first_by_keys keys None) e fit h =
      binding_distinct (Evident i (kinds p.ops i)) (Evident n (kept keys (kinds p.ops i))) docs keys (kept_row docs keys (are_contiguous keys (front p.ops i).vars) None)
      (λ row rest x. on_input n i b (passes_on i (first_by_keys keys None)) e refl (kinds p.ops i) (kept keys (kinds p.ops i)) row (tolled_restrict keys row) x tt
      (λ v k. (kept_bound keys (kinds p.ops i) v a_node k, ap source_node (restrict_value keys row v (kept_has keys (kinds p.ops i) v k)))))
      [] (events docs p.ops i) (h (inl refl))
  stage_evident n b i l (first_by_keys keys (Some group)) e fit h =
      binding_distinct (Evident i (kinds p.ops i)) (Evident n (with_kind group.1 a_list (kept keys (kinds p.ops i)))) docs keys
      (kept_row docs keys (are_contiguous keys (front p.ops i).vars) (Some group))
      (λ row rest x. on_input n i b (passes_on i (first_by_keys keys (Some group))) e refl (kinds p.ops i) (with_kind group.1 a_list (kept keys (kinds p.ops i))) row
      (kept_row docs keys (are_contiguous keys (front p.ops i).vars) (Some group) row rest) x tt
      (λ v k. (let m = kind_more group.1 v a_list (kept keys (kinds p.ops i)) list_is_no_node k in (
        kept_bound keys (kinds p.ops i) v a_node m.1,
        node_more group.1 _ (tolled_restrict keys row) v m.0 ∙ ap source_node (restrict_value keys row v (kept_has keys (kinds p.ops i) v m.1)),
      ))))
      [] (events docs p.ops i) (h (inl refl))
  stage_evident n b i l (one_group piece out) e fit h = (
    record {
      nodes = λ v. document_node 0;
      right = right_from p valid typed docs n b (λ v. document_node 0) (subst (ShapeHolds docs (λ v. document_node 0)) (sym e) tt) (λ j a. absurd (subst (λ f. Among j (shape_way f)) e a));
      exact = λ v k. (let m = kind_more out v a_list no_kinds list_is_no_node k in none_some a_node m.1);
    },
    tt,
  )
  stage_evident n b i l (in_order w desc) e fit h =
      binding_sorted (Evident n (kinds p.ops i)) _ (events docs p.ops i)
      (binding_weaker (Evident i (kinds p.ops i)) (Evident n (kinds p.ops i)) (λ row x. on_input n i b (passes_on i (in_order w desc)) e refl (kinds p.ops i) (kinds p.ops i) row row x tt (λ v k. (k, refl)))
      (events docs p.ops i) (h (inl refl)))

  -- each binding of a shape has exact evidence, where each of its inputs on the way has
  shape_evident : (n : ℕ) → n < length p.ops → (f : Shape) → shape_at p.ops n ≡ f → IsShapeFit f (kinds p.ops) → ((i : ℕ) → Among i (shape_inputs f) → i < length p.ops)
      → ((i : ℕ) → Among i (shape_way f) → Known i) → EachBinding (Evident n (shape_kinds f (kinds p.ops))) (shape_events docs (front p.ops) f (events docs p.ops))
  shape_evident n b (one_source s out) e fit l h = (source_evident n s out b e, tt)
  shape_evident n b (visits_below i start path out) e fit l h =
      binding_expand (Evident i (kinds p.ops i)) (Evident n (with_kind out a_node (kinds p.ops i))) (descendants docs start path out)
      (λ row x. each_nodes (Evident n (with_kind out a_node (kinds p.ops i))) out (row_node row start) row (visits docs path (row_node row start))
      (λ place a. visit_evident n i start path out b e fit.0 (anew p valid n b (visits_below i start path out) e i out (inl refl) (inl refl)) row x place a))
      (events docs p.ops i) (h i (inl refl))
  shape_evident n b (pairs_up i j tests) e fit l h =
      binding_expand (λ row. IsBound (kinds p.ops i) row × Evident i (kinds p.ops i) row) (Evident n (λ v. either_kind (kinds p.ops i v) (kinds p.ops j v))) (pairs docs tests (events docs p.ops j))
      (λ row x. beside row x.0 x.1) (events docs p.ops i)
      (each_both (IsBound (kinds p.ops i)) (Evident i (kinds p.ops i)) (events docs p.ops i) (held_at i (l i (inl refl))).bound (h i (inl refl)))
    where
      beside : (row : TolledRow) → IsBound (kinds p.ops i) row → Evident i (kinds p.ops i) row
          → EachBinding (Evident n (λ v. either_kind (kinds p.ops i v) (kinds p.ops j v))) (pairs docs tests (events docs p.ops j) row)
      beside row bound x =
          each_only (λ both. (r : TolledRow) × (row ++ r ≡ both) × Evident j (kinds p.ops j) r) (Evident n (λ v. either_kind (kinds p.ops i v) (kinds p.ops j v))) (passes_all docs tests)
          (λ both y t. subst (Evident n (λ v. either_kind (kinds p.ops i v) (kinds p.ops j v))) y.1
          (pair_evident n i j tests b e fit row y.0 bound x y.2 (ap (passes_all docs tests) y.1 ∙ t)))
          (each_row (λ r. row ++ r) (events docs p.ops j))
          (binding_each_row (Evident j (kinds p.ops j)) (λ both. (r : TolledRow) × (row ++ r ≡ both) × Evident j (kinds p.ops j) r) (λ r. row ++ r) (λ r y. (r, refl, y)) (events docs p.ops j) (h j (inr (inl refl))))
  shape_evident n b (passes_on i stage) e fit l h = stage_evident n b i (l i (inl refl)) stage e fit (h i)
  shape_evident n b (no_events i made) e fit l h = tt

  -- each binding of the operators below a number has exact evidence
  known_under : (k n : ℕ) → n < k → n < length p.ops → Known n
  known_under zero n h b = absurd (omega (arith, h))
  known_under (suc k) n h b =
      let at : Shape = shape_at p.ops n in
      let inputs = typed.inputs n b in
      let is = shape_evident n b at refl (typed.fit n b) (inputs_low p valid typed docs n b)
      (λ i a. (let s = smaller p valid typed i n b (way_inputs (shape_at p.ops n) i a) in known_under k i (omega (arith, s, h)) (omega (arith, s, b)))) in
      subst (λ (ks : Kinds). EachBinding (Evident n ks) (events docs p.ops n)) (sym (kinds-is p valid typed n b))
      (subst (EachBinding (Evident n (shape_kinds at (kinds p.ops)))) (sym (events-of docs p.ops n (op_at p.ops n) refl inputs)) is)

  -- each binding of an operator has exact evidence, whatever the operator
  pub all_evident : (n : ℕ) → n < length p.ops → Known n
  all_evident n b = known_under (suc n) n (omega arith) b

  -- exact evidence of a binding has its values of keys of nodes
  pub evident_keys : (n : ℕ) (row : TolledRow) (x : Evident n (kinds p.ops n) row) (keys : List Key) → AreNodes keys (kinds p.ops n) → node_values docs keys x.nodes ≡ key_values docs keys row
  evident_keys n row x keys nodes = keys_alike docs keys x.nodes (row_node row) (λ v t. x.exact v (nodes v t))

  -- exact evidence of a binding is of it
  pub evident_of : (n : ℕ) → n < length p.ops → (row : TolledRow) (x : Evident n (kinds p.ops n) row) → AreOf docs p.ops n x.nodes row
  evident_of n b row x =
      let keys : List Key = held p.ops n in
      subst (λ z. same_values (node_values docs keys x.nodes) z ≡ true) (evident_keys n row x keys (held_at n b).nodes) (all_itself (node_values docs keys x.nodes))

  -- each binding of an operator has right evidence
  pub each_evident : (n : ℕ) → n < length p.ops → EachBinding (HasEvidence docs p.ops n) (events docs p.ops n)
  each_evident n b = binding_weaker (Evident n (kinds p.ops n)) (HasEvidence docs p.ops n) (λ row x. (x.nodes, x.right, evident_of n b row x)) (events docs p.ops n) (all_evident n b)

-- each binding of an operator of a valid plan has right evidence
pub bindings_have_evidence : BindingsHaveEvidence
bindings_have_evidence p valid docs n b = each_evident p valid (valid_is_typed p valid) docs n b
