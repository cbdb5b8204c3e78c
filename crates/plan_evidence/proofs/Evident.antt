-- What is bound on the way of evidence, and of which variables a shape asks something.
use Rattle.std.proofs.Common.{◌≡◌, ◌⊎◌, inl, inr, ℕ, zero, suc, ◌<◌, true, false, cond, List, [], ◌∷◌, refl, sym, ap, subst, ◌∙◌, arith, length}
use Rattle.std.specs.Prelude.{Bool, ◌==◌, Option, Some, None}
use Rattle.std.proofs.lemmas.Bool.{eqb-true}
use Rattle.mix_base.specs.Ascents.{Among}
use Rattle.mix_base.specs.Events.{Event, skip, bind, without_skips}
use Rattle.mix_tree.specs.Nodes.{Documents, Node}
use Rattle.path_expr.specs.Matches.{IsMatch}
use Rattle.plan_core.specs.Beside.{EachBinding}
use Rattle.plan_core.specs.Events.{RowEvents, only, nodes_found, with_node}
use Rattle.plan_core.specs.Plans.{PlanValue}
use Rattle.plan_core.specs.Shapes.{Stage, filters, extends, first_by_keys, one_group, in_order, Shape, one_source, visits_below, pairs_up, passes_on, no_events, shape_at, Made, a_list_of, an_element_of}
use Rattle.plan_core.specs.TolledRows.{TolledRow}
use Rattle.plan_core.specs.Typed.{IsTyped}
use Rattle.plan_core.specs.Valid.{Kind, a_node, a_list, Kinds, no_kinds, with_kind, kept, either_kind, made_kind, shape_kinds, shape_outs, kinds, IsValid}
use Rattle.plan_core.proofs.Fresh.{kept_bound, smaller, kinds-is}
use Rattle.plan_evidence.specs.Evidence.{shape_way, is_on_way, ShapeHolds}
use Rattle.plan_evidence.proofs.NodeValues.{test_vars, tests_vars, passes_alike, tests_alike}
use Rattle.plan_evidence.proofs.Ways.{way_input, binds, binds_yes, binds_by, way_self, way_cases, way_inputs, binds_input}

-- LAWS OF EACH BINDING

-- each binding of a visit is as is said, where that of each match is
pub each_nodes : (Q : TolledRow → Type 0) (out : ℕ) (start : Node) (row : TolledRow) (es : List (Event (List ℕ))) → ((place : List ℕ) → Among place (without_skips es) → Q (with_node out start row place))
    → EachBinding Q (nodes_found out start row es)
each_nodes Q out start row [] h = tt
each_nodes Q out start row (skip ∷ es) h = each_nodes Q out start row es h
each_nodes Q out start row (bind p ∷ es) h = (h p (inl refl), each_nodes Q out start row es (λ place a. h place (inr a)))

-- each binding that passes a test is as is said, where that follows of one that passes
pub each_only : (P Q : TolledRow → Type 0) (test : TolledRow → Bool) → ((row : TolledRow) → P row → test row ≡ true → Q row) → (es : RowEvents) → EachBinding P es → EachBinding Q (only test es)
each_only P Q test f [] h = tt
each_only P Q test f (skip ∷ es) h = each_only P Q test f es h
each_only P Q test f (bind row ∷ es) h =
    let r = each_only P Q test f es h.1 in
    (elim (test row) as (λ t. test row ≡ t → EachBinding Q (cond t (bind row) skip ∷ only test es)) [
      | true ↦ λ e. (f row h.0 e, r)
      | false ↦ λ e. r
    ]) refl

-- what holds of each binding, and what else does, hold of each together
pub each_both : (P Q : TolledRow → Type 0) (es : RowEvents) → EachBinding P es → EachBinding Q es → EachBinding (λ row. P row × Q row) es
each_both P Q [] h k = tt
each_both P Q (skip ∷ es) h k = each_both P Q es h k
each_both P Q (bind row ∷ es) h k = ((h.0, k.0), each_both P Q es h.1 k.1)

-- WHAT A SHAPE ASKS OF NODES

-- the variables of which a stage asks something
abbrev pub stage_vars : Stage → List ℕ
stage_vars (filters test) = test_vars test
stage_vars (extends out made) = []
stage_vars (first_by_keys keys group) = []
stage_vars (one_group piece out) = []
stage_vars (in_order v desc) = []

-- the variables of which a shape asks something
abbrev pub shape_vars : Shape → List ℕ
shape_vars (one_source s out) = out ∷ []
shape_vars (visits_below input start path out) = start ∷ out ∷ []
shape_vars (pairs_up left right tests) = tests_vars tests
shape_vars (passes_on input stage) = stage_vars stage
shape_vars (no_events input made) = []

module _ (docs : Documents) (a b : ℕ → Node) where
  -- a shape holds of nodes that are alike, in the variables of which it asks something, with nodes of which it holds
  pub holds_alike : (f : Shape) → ((v : ℕ) → Among v (shape_vars f) → a v ≡ b v) → ShapeHolds docs a f → ShapeHolds docs b f
  holds_alike (one_source s out) h k = sym (h out (inl refl)) ∙ k
  holds_alike (visits_below input start path out) h k = subst (λ n. IsMatch docs path n (b out)) (h start (inl refl)) (subst (IsMatch docs path (a start)) (h out (inr (inl refl))) k)
  holds_alike (pairs_up left right tests) h k = sym (tests_alike docs a b tests h) ∙ k
  holds_alike (passes_on input (filters test)) h k = sym (passes_alike docs a b test h) ∙ k
  holds_alike (passes_on input (extends out made)) h k = tt
  holds_alike (passes_on input (first_by_keys keys group)) h k = tt
  holds_alike (passes_on input (one_group piece out)) h k = tt
  holds_alike (passes_on input (in_order v desc)) h k = tt
  holds_alike (no_events input made) h k = tt

-- WHAT IS BOUND ON THE WAY

-- a variable is bound anew by a shape, or it holds a node of one of its inputs on the way
abbrev pub BoundHere : Shape → (ℕ → Kinds) → ℕ → Type 0
BoundHere f of v = Among v (shape_outs f) ⊎ ((i : ℕ) × Among i (shape_way f) × (of i v ≡ Some a_node))

-- a variable that holds a node after one was bound anew is that one, or held a node before
with_cases : (out v : ℕ) (k : Kind) (ks : Kinds) → with_kind out k ks v ≡ Some a_node → (v ≡ out) ⊎ (ks v ≡ Some a_node)
with_cases out v k ks e =
    (elim (out == v) as (λ w. (out == v) ≡ w → cond w (Some k) (ks v) ≡ Some a_node → (v ≡ out) ⊎ (ks v ≡ Some a_node)) [
      | true ↦ λ t g. inl (sym (eqb-true out v t))
      | false ↦ λ t g. inr g
    ]) refl e

-- a variable that holds a node of a shape is bound anew by it, or holds a node of one of its inputs on the way
pub way_bound : (f : Shape) (of : ℕ → Kinds) (v : ℕ) → shape_kinds f of v ≡ Some a_node → BoundHere f of v
way_bound (one_source s out) of v e = elim (with_cases out v a_node no_kinds e) [ inl x ↦ inl (inl x) | inr g ↦ cc ]
way_bound (visits_below i start path out) of v e = elim (with_cases out v a_node (of i) e) [ inl x ↦ inl (inl x) | inr g ↦ inr (i, inl refl, g) ]
way_bound (pairs_up l r tests) of v e = sides (of l v) (of r v) refl refl e
  where
    sides : (j k : Option Kind) → of l v ≡ j → of r v ≡ k → either_kind j k ≡ Some a_node → BoundHere (pairs_up l r tests) of v
    sides None k x y g = inr (r, inr (inl refl), y ∙ g)
    sides (Some j) k x y g = inr (l, inl refl, x ∙ g)
way_bound (passes_on i (filters test)) of v e = inr (i, inl refl, e)
way_bound (passes_on i (extends out made)) of v e = elim (with_cases out v (made_kind made) (of i) e) [ inl x ↦ inl (inl x) | inr g ↦ inr (i, inl refl, g) ]
way_bound (passes_on i (first_by_keys keys None)) of v e = inr (i, inl refl, kept_bound keys (of i) v a_node e)
way_bound (passes_on i (first_by_keys keys (Some group))) of v e =
    elim (with_cases group.1 v a_list (kept keys (of i)) e) [ inl x ↦ inl (inl x) | inr g ↦ inr (i, inl refl, kept_bound keys (of i) v a_node g) ]
way_bound (passes_on i (one_group piece out)) of v e = elim (with_cases out v a_list no_kinds e) [ inl x ↦ inl (inl x) | inr g ↦ cc ]
way_bound (passes_on i (in_order w desc)) of v e = inr (i, inl refl, e)
way_bound (no_events i made) of v e = cc

-- what is made is no node
pub made_is_no_node : (made : Made) → made_kind made ≡ a_node → ⊥
made_is_no_node (a_list_of pieces) e = cc
made_is_no_node (an_element_of label list) e = cc

-- a list is no node
pub list_is_no_node : a_list ≡ a_node → ⊥
list_is_no_node e = cc

module _ (p : PlanValue) (valid : IsValid p) (typed : IsTyped p.ops) where
  -- a variable that holds a node of one of the operators below a number is bound on that operator's way
  pub kinds_binds : (k n v : ℕ) → n < k → n < length p.ops → kinds p.ops n v ≡ Some a_node → binds p.ops n v ≡ true
  kinds_binds zero n v h b e = absurd (omega (arith, h))
  kinds_binds (suc k) n v h b e =
      elim (way_bound (shape_at p.ops n) (kinds p.ops) v (sym (ap (λ (f : Kinds). f v) (kinds-is p valid typed n b)) ∙ e)) [
        | inl a ↦ binds_yes p.ops n v n b (way_self p.ops n) a
        | inr i ↦
            (let s = smaller p valid typed i.0 n b (way_inputs (shape_at p.ops n) i.0 i.1) in
            binds_input p valid typed n i.0 v b i.1 (kinds_binds k i.0 v (omega (arith, s, h)) (omega (arith, s, b)) i.2))
      ]

  -- a variable that holds a node of an operator is bound on its way
  pub node_binds : (n v : ℕ) → n < length p.ops → kinds p.ops n v ≡ Some a_node → binds p.ops n v ≡ true
  node_binds n v b e = kinds_binds (suc n) n v (omega arith) b e

  -- a variable that holds a node of one of two inputs on the way is bound on the way
  pub side_binds : (n l r v : ℕ) → n < length p.ops → shape_way (shape_at p.ops n) ≡ l ∷ r ∷ [] → l < length p.ops → r < length p.ops → either_kind (kinds p.ops l v) (kinds p.ops r v) ≡ Some a_node → binds p.ops n v ≡ true
  side_binds n l r v b w x y e = sides (kinds p.ops l v) (kinds p.ops r v) refl refl e
    where
      sides : (j k : Option Kind) → kinds p.ops l v ≡ j → kinds p.ops r v ≡ k → either_kind j k ≡ Some a_node → binds p.ops n v ≡ true
      sides None k f g h = binds_input p valid typed n r v b (subst (Among r) (sym w) (inr (inl refl))) (node_binds r v y (g ∙ h))
      sides (Some j) k f g h = binds_input p valid typed n l v b (subst (Among l) (sym w) (inl refl)) (node_binds l v x (f ∙ h))

  -- the way of an operator on the way is on the way
  pub way_trans : (k n i j : ℕ) → n < k → n < length p.ops → is_on_way p.ops n i ≡ true → is_on_way p.ops i j ≡ true → is_on_way p.ops n j ≡ true
  way_trans zero n i j h b x y = absurd (omega (arith, h))
  way_trans (suc k) n i j h b x y = elim (way_cases p valid typed n i b x) [
    | inl e ↦ subst (λ m. is_on_way p.ops m j ≡ true) (sym e) y
    | inr r ↦
        (let s = smaller p valid typed r.input n b (way_inputs (shape_at p.ops n) r.input r.among) in
        way_input p.ops n r.input j (typed.inputs n b) r.among (way_trans k r.input i j (omega (arith, s, h)) (omega (arith, s, b)) r.on_way y))
  ]

  -- what is bound on the way of an operator on the way is bound on that way
  pub binds_on : (n i v : ℕ) → n < length p.ops → is_on_way p.ops n i ≡ true → binds p.ops i v ≡ true → binds p.ops n v ≡ true
  binds_on n i v b x y =
      let c = binds_by p.ops i v y in
      binds_yes p.ops n v c.number c.within (way_trans (suc n) n i c.number (omega arith) b x c.on_way) c.among
