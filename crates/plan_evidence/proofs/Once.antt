-- The places of evidence determine its binding.
use Rattle.std.proofs.Common.{◌≡◌, inl, inr, ℕ, zero, suc, ◌<◌, ◌+◌, true, cond, List, [], ◌∷◌, refl, sym, ap, subst, ◌∙◌, arith, length}
use Rattle.std.specs.Prelude.{Bool, ◌==◌, Some, None}
use Rattle.std.proofs.lemmas.Bool.Decides.{nat_tests}
use Rattle.mix_base.proofs.Choices.{some_is}
use Rattle.mix_base.specs.Ascents.{Among}
use Rattle.mix_tree.specs.Nodes.{Documents, Node}
use Rattle.mix_tree.specs.declared.var.Key.{Key}
use Rattle.plan_core.specs.ByNumber.{op_at}
use Rattle.plan_core.specs.Plans.{Operator, PlanValue}
use Rattle.plan_core.specs.Shapes.{filters, extends, first_by_keys, one_group, in_order, Shape, one_source, visits_below, pairs_up, passes_on, no_events, shape_of, shape_at}
use Rattle.plan_core.specs.TolledRows.{TolledRow, key_values}
use Rattle.plan_core.specs.Typed.{IsTyped}
use Rattle.plan_core.specs.Valid.{Kind, a_node, a_list, Kinds, no_kinds, with_kind, kept, made_kind, shape_kinds, shape_outs, IsShapeFit, kinds, AreNodes, IsValid}
use Rattle.plan_core.proofs.Fresh.{smaller, kinds-is}
use Rattle.plan_core.proofs.Typed.{valid_is_typed}
use Rattle.plan_evidence.specs.Evidence.{shape_way, visit_vars, vars_from, is_on_way, ShapeHolds, AreRight, evidence_vars, places_of}
use Rattle.plan_evidence.specs.Held.{held, node_values, AreOf}
use Rattle.mix_base.proofs.Ascents.{among_left, among_right}
use Rattle.plan_evidence.proofs.Evident.{way_bound, way_trans, made_is_no_node, list_is_no_node}
use Rattle.plan_evidence.proofs.HeldApart.{known_below}
use Rattle.plan_evidence.proofs.NodeValues.{keys_alike}
use Rattle.plan_evidence.proofs.Ways.{way_input, way_self, way_inputs}
use Rattle.browse_class.proofs.FirstKeys.{values_same}

-- the variable that a visit on the way binds is among those of the evidence
vars_have : (on : ℕ → Bool) (i : ℕ) (ops : List Operator) (v k : ℕ) → k < length ops → on (i + k) ≡ true → Among v (visit_vars (shape_of (op_at ops k))) → Among v (vars_from on i ops)
vars_have on i [] v k b o a = absurd (omega (arith, b))
vars_have on i (op ∷ ops) v zero b o a =
    let e : i + 0 ≡ i = omega arith in
    let here : on i ≡ true = subst (λ j. on j ≡ true) e o in
    among_left (cond (on i) (visit_vars (shape_of op)) []) (vars_from on (suc i) ops) v (subst (λ t. Among v (cond t (visit_vars (shape_of op)) [])) (sym here) a)
vars_have on i (op ∷ ops) v (suc k) b o a =
    let e : i + suc k ≡ suc i + k = omega arith in
    among_right (cond (on i) (visit_vars (shape_of op)) []) (vars_from on (suc i) ops) v (vars_have on (suc i) ops v k (omega (arith, b)) (subst (λ j. on j ≡ true) e o) a)

-- the first of some places; the empty one where there is none
head_of : List (List ℕ) → List ℕ
head_of [] = []
head_of (p ∷ ps) = p

-- the places after the first
tail_of : List (List ℕ) → List (List ℕ)
tail_of [] = []
tail_of (p ∷ ps) = ps

-- nodes with the same places have the same place for each of the variables
places_same : (vs : List ℕ) (a b : ℕ → Node) → places_of vs a ≡ places_of vs b → (v : ℕ) → Among v vs → (a v).place ≡ (b v).place
unfolding head_of tail_of
places_same [] a b e v x = absurd x
places_same (w ∷ vs) a b e v (inl x) = subst (λ u. (a u).place ≡ (b u).place) (sym x) (ap head_of e)
places_same (w ∷ vs) a b e v (inr x) = places_same vs a b (ap tail_of e) v x

module _ (p : PlanValue) (valid : IsValid p) (docs : Documents) (top : ℕ) (within : top < length p.ops) (a b : ℕ → Node) (ra : AreRight docs p.ops top a) (rb : AreRight docs p.ops top b)
    (same : places_of (evidence_vars p.ops top) a ≡ places_of (evidence_vars p.ops top) b) where
  -- the plan's operators are typed
  typed : IsTyped p.ops
  typed = valid_is_typed p valid

  -- nodes of one source and one place are equal
  node_same : (m n : Node) → m.source ≡ n.source → m.place ≡ n.place → m ≡ n
  node_same m n e f = ap (λ (s : ℕ). record { source = s; place = m.place }) e ∙ ap (λ (q : List ℕ). record { source = n.source; place = q }) f

  -- a variable that is bound anew and holds a node was bound to one
  with_is : (out v : ℕ) (k : Kind) (ks : Kinds) → v ≡ out → with_kind out k ks v ≡ Some a_node → k ≡ a_node
  with_is out v k ks x e =
      let t : (out == v) ≡ true = grind (arith, nat_tests, x) in
      some_is k a_node (sym (ap (λ w. cond w (Some k) (ks v)) t) ∙ e)

  -- evidences with the same places are alike in what an operator on the way binds anew, where they are in what its inputs on the way bind
  own_same : (n : ℕ) → n < length p.ops → is_on_way p.ops top n ≡ true → (f : Shape) → shape_at p.ops n ≡ f → IsShapeFit f (kinds p.ops)
      → ((i : ℕ) → Among i (shape_way f) → (v : ℕ) → kinds p.ops i v ≡ Some a_node → a v ≡ b v)
      → (v : ℕ) → Among v (shape_outs f) → shape_kinds f (kinds p.ops) v ≡ Some a_node → ShapeHolds docs a f → ShapeHolds docs b f → a v ≡ b v
  own_same n l o (one_source s out) is fit h v (inl c) e x y = subst (λ u. a u ≡ b u) (sym c) (x ∙ sym y)
  own_same n l o (one_source s out) is fit h v (inr c) e x y = absurd c
  own_same n l o (visits_below i start path out) is fit h v (inl c) e x y =
      let z : n ≡ 0 + n = omega arith in
      let among = vars_have (is_on_way p.ops top) 0 p.ops out n l (subst (λ j. is_on_way p.ops top j ≡ true) z o) (subst (λ (f : Shape). Among out (visit_vars f)) (sym is) (inl refl)) in
      subst (λ u. a u ≡ b u) (sym c)
      (node_same (a out) (b out) (x.0 ∙ ap (λ (m : Node). m.source) (h i (inl refl) start fit.0) ∙ sym y.0) (places_same (evidence_vars p.ops top) a b same out among))
  own_same n l o (visits_below i start path out) is fit h v (inr c) e x y = absurd c
  own_same n l o (pairs_up i j tests) is fit h v c e x y = absurd c
  own_same n l o (passes_on i (filters test)) is fit h v c e x y = absurd c
  own_same n l o (passes_on i (extends out made)) is fit h v (inl c) e x y = absurd (made_is_no_node made (with_is out v (made_kind made) (kinds p.ops i) c e))
  own_same n l o (passes_on i (extends out made)) is fit h v (inr c) e x y = absurd c
  own_same n l o (passes_on i (first_by_keys keys None)) is fit h v c e x y = absurd c
  own_same n l o (passes_on i (first_by_keys keys (Some g))) is fit h v (inl c) e x y = absurd (list_is_no_node (with_is g.1 v a_list (kept keys (kinds p.ops i)) c e))
  own_same n l o (passes_on i (first_by_keys keys (Some g))) is fit h v (inr c) e x y = absurd c
  own_same n l o (passes_on i (one_group piece out)) is fit h v (inl c) e x y = absurd (list_is_no_node (with_is out v a_list no_kinds c e))
  own_same n l o (passes_on i (one_group piece out)) is fit h v (inr c) e x y = absurd c
  own_same n l o (passes_on i (in_order w desc)) is fit h v c e x y = absurd c
  own_same n l o (no_events i made) is fit h v c e x y = absurd c

  -- an input on the way of an operator on the way is on the way
  step : (n : ℕ) → n < length p.ops → (i : ℕ) → Among i (shape_way (shape_at p.ops n)) → is_on_way p.ops top n ≡ true → is_on_way p.ops top i ≡ true
  step n l i x o =
      let s = smaller p valid typed i n l (way_inputs (shape_at p.ops n) i x) in
      way_trans p valid typed (suc top) top n i (omega arith) within o (way_input p.ops n i i (typed.inputs n l) x (way_self p.ops i))

  -- evidences with the same places are alike in the variables that an operator on the way binds
  nodes_same : (k n : ℕ) → n < k → n < length p.ops → is_on_way p.ops top n ≡ true → (v : ℕ) → kinds p.ops n v ≡ Some a_node → a v ≡ b v
  nodes_same zero n h l o v e = absurd (omega (arith, h))
  nodes_same (suc k) n h l o v e =
      let f : Shape = shape_at p.ops n in
      let g : shape_kinds f (kinds p.ops) v ≡ Some a_node = sym (ap (λ (ks : Kinds). ks v) (kinds-is p valid typed n l)) ∙ e in
      elim (way_bound f (kinds p.ops) v g) [
        | inl c ↦ own_same n l o f refl (typed.fit n l) (λ i x u d. (let s = smaller p valid typed i n l (way_inputs f i x) in nodes_same k i (omega (arith, s, h)) (omega (arith, s, l)) (step n l i x o) u d)) v c g (ra n l o) (rb n l o)
        | inr i ↦ (let s = smaller p valid typed i.0 n l (way_inputs f i.0 i.1) in nodes_same k i.0 (omega (arith, s, h)) (omega (arith, s, l)) (step n l i.0 i.1 o) v i.2)
      ]

  -- evidences with the same places agree by keys of nodes that the operator binds
  keys_same : (keys : List Key) → AreNodes keys (kinds p.ops top) → node_values docs keys a ≡ node_values docs keys b
  keys_same keys n = keys_alike docs keys a b (λ v t. nodes_same (suc top) top (omega arith) within (way_self p.ops top) v (n v t))

  -- evidences with the same places are of bindings that agree by the keys that the operator holds
  pub rows_agree : (x y : TolledRow) → AreOf docs p.ops top a x → AreOf docs p.ops top b y → key_values docs (held p.ops top) x ≡ key_values docs (held p.ops top) y
  rows_agree x y h k =
      let n = (known_below p valid docs (suc top) top (omega arith) within).nodes in
      sym (values_same (node_values docs (held p.ops top) a) (key_values docs (held p.ops top) x) h) ∙ keys_same (held p.ops top) n
      ∙ values_same (node_values docs (held p.ops top) b) (key_values docs (held p.ops top) y) k
