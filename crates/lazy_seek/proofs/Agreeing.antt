-- Evidence with given places is the nodes that the places give.
use Rattle.std.proofs.Common.{◌≡◌, inl, inr, ℕ, zero, suc, ◌<◌, ◌≤◌, true, false, cond, List, [], ◌∷◌, Some, None, refl, sym, ap, subst, ◌∙◌, arith, length}
use Rattle.std.specs.Prelude.{Bool, ◌==◌}
use Rattle.std.specs.List.{AllByRecursion}
use Rattle.std.proofs.lemmas.Bool.Decides.{nat_tests}
use Rattle.mix_base.specs.Ascents.{Among}
use Rattle.mix_base.proofs.Ascents.{among_cases}
use Rattle.mix_base.proofs.Choices.{some_is}
use Rattle.mix_tree.specs.Nodes.{Documents, Node}
use Rattle.mix_tree.specs.declared.comparing.Test.{Test}
use Rattle.plan_core.specs.Plans.{PlanValue}
use Rattle.plan_core.specs.Shapes.{filters, extends, first_by_keys, one_group, in_order, Shape, one_source, visits_below, pairs_up, passes_on, no_events, shape_at}
use Rattle.plan_core.specs.Typed.{IsTyped}
use Rattle.plan_core.specs.Valid.{Kind, a_node, a_list, Kinds, no_kinds, with_kind, kept, made_kind, shape_kinds, shape_outs, IsShapeFit, IsTest, kinds, IsValid}
use Rattle.plan_core.proofs.Fresh.{smaller, kinds-is}
use Rattle.plan_core.proofs.Typed.{valid_is_typed}
use Rattle.plan_evidence.specs.Evidence.{shape_way, visit_vars, is_on_way, ShapeHolds, evidence_vars, places_of, IsEvidence}
use Rattle.plan_evidence.proofs.Evident.{shape_vars, holds_alike, way_bound, way_trans, made_is_no_node, list_is_no_node}
use Rattle.plan_evidence.proofs.NodeValues.{test_vars, tests_vars}
use Rattle.plan_evidence.proofs.Rights.{test_kind}
use Rattle.plan_evidence.proofs.Ways.{way_input, way_self, way_inputs}
use Rattle.lazy_seek.specs.Given.{given}
use Rattle.lazy_seek.proofs.Drafts.{way_low, visit_among, source_given, visit_given, places_given}

-- the place of a node that is the first of some, and the others
head_of : List (List ℕ) → List ℕ
head_of [] = []
head_of (p ∷ ps) = p

tail_of : List (List ℕ) → List (List ℕ)
tail_of [] = []
tail_of (p ∷ ps) = ps

-- nodes with the same places have the same place for each of the variables
same_places : (vs : List ℕ) (a b : ℕ → Node) → places_of vs a ≡ places_of vs b → (v : ℕ) → Among v vs → (a v).place ≡ (b v).place
unfolding head_of tail_of
same_places [] a b e v x = absurd x
same_places (w ∷ vs) a b e v (inl x) = subst (λ u. (a u).place ≡ (b u).place) (sym x) (ap head_of e)
same_places (w ∷ vs) a b e v (inr x) = same_places vs a b (ap tail_of e) v x

-- nodes of one source and one place are equal
node_same : (m n : Node) → m.source ≡ n.source → m.place ≡ n.place → m ≡ n
node_same m n e f = ap (λ (s : ℕ). record { source = s; place = m.place }) e ∙ ap (λ (q : List ℕ). record { source = n.source; place = q }) f

-- a variable that was bound anew to a node has one
bound_kind : (out v : ℕ) (ks : Kinds) → v ≡ out → with_kind out a_node ks v ≡ Some a_node
bound_kind out v ks x = (let t : (out == v) ≡ true = grind (arith, nat_tests, x) in ap (λ w. cond w (Some a_node) (ks v)) t)

-- a variable that holds a node holds one where another was bound to a node
kept_kind : (out v : ℕ) (ks : Kinds) → ks v ≡ Some a_node → with_kind out a_node ks v ≡ Some a_node
kept_kind out v ks e = either (out == v)
  where
    either : (t : Bool) → cond t (Some a_node) (ks v) ≡ Some a_node
    either true = refl
    either false = e

-- a variable that is bound anew and holds a node was bound to one
pub with_is : (out v : ℕ) (k : Kind) (ks : Kinds) → v ≡ out → with_kind out k ks v ≡ Some a_node → k ≡ a_node
with_is out v k ks x e =
    let t : (out == v) ≡ true = grind (arith, nat_tests, x) in
    some_is k a_node (sym (ap (λ w. cond w (Some k) (ks v)) t) ∙ e)

-- the variables of comparisons hold nodes
tests_kind : (ks : Kinds) (tests : List Test) → AllByRecursion (IsTest ks) tests → (v : ℕ) → Among v (tests_vars tests) → ks v ≡ Some a_node
tests_kind ks [] h v a = absurd a
tests_kind ks (t ∷ tests) h v a = elim (among_cases (test_vars t) (tests_vars tests) v a) [
  | inl b ↦ test_kind ks t h.0 v b
  | inr b ↦ tests_kind ks tests h.1 v b
]

-- the variables of which a shape asks something hold nodes
vars_kind : (f : Shape) (of : ℕ → Kinds) → IsShapeFit f of → (v : ℕ) → Among v (shape_vars f) → shape_kinds f of v ≡ Some a_node
vars_kind (one_source s out) of fit v (inl x) = bound_kind out v no_kinds x
vars_kind (one_source s out) of fit v (inr a) = absurd a
vars_kind (visits_below input start path out) of fit v (inl x) = kept_kind out v (of input) (ap (of input) x ∙ fit.0)
vars_kind (visits_below input start path out) of fit v (inr (inl x)) = bound_kind out v (of input) x
vars_kind (visits_below input start path out) of fit v (inr (inr a)) = absurd a
vars_kind (pairs_up left right tests) of fit v a = tests_kind (shape_kinds (pairs_up left right tests) of) tests fit v a
vars_kind (passes_on input (filters test)) of fit v a = test_kind (of input) test fit v a
vars_kind (passes_on input (extends out made)) of fit v a = absurd a
vars_kind (passes_on input (first_by_keys keys group)) of fit v a = absurd a
vars_kind (passes_on input (one_group piece out)) of fit v a = absurd a
vars_kind (passes_on input (in_order w desc)) of fit v a = absurd a
vars_kind (no_events input made) of fit v a = absurd a

module _ (p : PlanValue) (valid : IsValid p) (n : ℕ) (within : n < length p.ops) where
  -- the variables of which an operator asks something hold nodes of it
  pub used_kind : (i : ℕ) → i < length p.ops → (v : ℕ) → Among v (shape_vars (shape_at p.ops i)) → kinds p.ops i v ≡ Some a_node
  used_kind i b v a =
      let typed : IsTyped p.ops = valid_is_typed p valid in
      ap (λ (ks : Kinds). ks v) (kinds-is p valid typed i b) ∙ vars_kind (shape_at p.ops i) (kinds p.ops) (typed.fit i b) v a

  -- an input on the way of an operator on the way is on the way
  pub step : (i : ℕ) → i < length p.ops → (j : ℕ) → Among j (shape_way (shape_at p.ops i)) → is_on_way p.ops n i ≡ true → is_on_way p.ops n j ≡ true
  step i b j x o =
      let typed : IsTyped p.ops = valid_is_typed p valid in
      way_trans p valid typed (suc n) n i j (omega arith) within o (way_input p.ops i j j (typed.inputs i b) x (way_self p.ops j))

  module _ (places : List (List ℕ)) (full : length (evidence_vars p.ops n) ≡ length places) (docs : Documents) (nodes : ℕ → Node) (is : IsEvidence docs p.ops n places nodes) where
    -- evidence is alike to the nodes given in what an operator on the way binds anew, where it is in what its inputs on the way bind
    own_agrees : (i : ℕ) → i ≤ n → i < length p.ops → is_on_way p.ops n i ≡ true → (f : Shape) → shape_at p.ops i ≡ f → IsShapeFit f (kinds p.ops)
        → ((j : ℕ) → Among j (shape_way f) → (v : ℕ) → kinds p.ops j v ≡ Some a_node → nodes v ≡ given p.ops n places v)
        → (v : ℕ) → Among v (shape_outs f) → shape_kinds f (kinds p.ops) v ≡ Some a_node → ShapeHolds docs nodes f → nodes v ≡ given p.ops n places v
    own_agrees i l b o (one_source s out) e fit h v (inl c) k x = subst (λ u. nodes u ≡ given p.ops n places u) (sym c) (x ∙ sym (source_given p valid n within places i s out l o e))
    own_agrees i l b o (one_source s out) e fit h v (inr c) k x = absurd c
    own_agrees i l b o (visits_below j start path out) e fit h v (inl c) k x =
        let g = visit_given p valid n within places i j start out path l o e in
        let among = visit_among p valid n within i out l o (subst (λ (f : Shape). Among out (visit_vars f)) (sym e) (inl refl)) in
        subst (λ u. nodes u ≡ given p.ops n places u) (sym c)
        (node_same (nodes out) (given p.ops n places out) (x.0 ∙ ap (λ (m : Node). m.source) (h j (inl refl) start fit.0) ∙ sym (ap (λ (m : Node). m.source) g))
        (same_places (evidence_vars p.ops n) nodes (given p.ops n places) (is.written ∙ sym (places_given p valid n within places full)) out among))
    own_agrees i l b o (visits_below j start path out) e fit h v (inr c) k x = absurd c
    own_agrees i l b o (pairs_up j m tests) e fit h v c k x = absurd c
    own_agrees i l b o (passes_on j (filters test)) e fit h v c k x = absurd c
    own_agrees i l b o (passes_on j (extends out made)) e fit h v (inl c) k x = absurd (made_is_no_node made (with_is out v (made_kind made) (kinds p.ops j) c k))
    own_agrees i l b o (passes_on j (extends out made)) e fit h v (inr c) k x = absurd c
    own_agrees i l b o (passes_on j (first_by_keys keys None)) e fit h v c k x = absurd c
    own_agrees i l b o (passes_on j (first_by_keys keys (Some g))) e fit h v (inl c) k x = absurd (list_is_no_node (with_is g.1 v a_list (kept keys (kinds p.ops j)) c k))
    own_agrees i l b o (passes_on j (first_by_keys keys (Some g))) e fit h v (inr c) k x = absurd c
    own_agrees i l b o (passes_on j (one_group piece out)) e fit h v (inl c) k x = absurd (list_is_no_node (with_is out v a_list no_kinds c k))
    own_agrees i l b o (passes_on j (one_group piece out)) e fit h v (inr c) k x = absurd c
    own_agrees i l b o (passes_on j (in_order w desc)) e fit h v c k x = absurd c
    own_agrees i l b o (no_events j made) e fit h v c k x = absurd c

    -- evidence is alike to the nodes given in the variables that an operator on the way binds
    agrees_below : (k i : ℕ) → i < k → i < length p.ops → is_on_way p.ops n i ≡ true → (v : ℕ) → kinds p.ops i v ≡ Some a_node → nodes v ≡ given p.ops n places v
    agrees_below zero i h b o v e = absurd (omega (arith, h))
    agrees_below (suc k) i h b o v e =
        let typed : IsTyped p.ops = valid_is_typed p valid in
        let f : Shape = shape_at p.ops i in
        let g : shape_kinds f (kinds p.ops) v ≡ Some a_node = sym (ap (λ (ks : Kinds). ks v) (kinds-is p valid typed i b)) ∙ e in
        elim (way_bound f (kinds p.ops) v g) [
          | inl c ↦ own_agrees i (way_low p valid n within n i within o) b o f refl (typed.fit i b)
              (λ j x u d. (let s = smaller p valid typed j i b (way_inputs f j x) in agrees_below k j (omega (arith, s, h)) (omega (arith, s, b)) (step i b j x o) u d)) v c g (is.right i b o)
          | inr j ↦ (let s = smaller p valid typed j.0 i b (way_inputs f j.0 j.1) in agrees_below k j.0 (omega (arith, s, h)) (omega (arith, s, b)) (step i b j.0 j.1 o) v j.2)
        ]

    -- each operator on the way holds of the nodes given, where the places are those of evidence
    pub given_holds : (i : ℕ) → i < length p.ops → is_on_way p.ops n i ≡ true → ShapeHolds docs (given p.ops n places) (shape_at p.ops i)
    given_holds i b o =
        holds_alike docs nodes (given p.ops n places) (shape_at p.ops i) (λ v a. agrees_below (suc i) i (omega arith) b o v (used_kind i b v a)) (is.right i b o)
