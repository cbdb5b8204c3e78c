-- The nodes of the variables of operators on the way of evidence.
use Rattle.std.proofs.Common.{◌≡◌, inl, inr, ℕ, zero, suc, ◌<◌, ◌≤◌, ◌+◌, true, false, List, [], ◌∷◌, Option, Some, None, refl, sym, ap, subst, ◌∙◌, arith, length, drop}
use Rattle.std.specs.Prelude.{Bool, is_some, MatchOption, slice_get, slice_index_or}
use Rattle.mix_base.specs.Ascents.{Among}
use Rattle.mix_tree.specs.Nodes.{Node, document_node}
use Rattle.path_expr.specs.Form.{Form}
use Rattle.tree_buffer.specs.declared.spot.Spot.{Spot}
use Rattle.mix_tree.specs.declared.comparing.Test.{Test}
use Rattle.plan_core.specs.Plans.{Operator, PlanValue}
use Rattle.plan_core.specs.Shapes.{Stage, filters, extends, first_by_keys, one_group, in_order, Shape, one_source, visits_below, pairs_up, passes_on, no_events, shape_at}
use Rattle.plan_core.specs.Typed.{IsTyped}
use Rattle.plan_core.specs.Valid.{Kind, a_node, a_list, Kinds, no_kinds, kept, made_kind, either_kind, shape_kinds, stage_outs, stage_kinds, shape_inputs, IsShapeFit, kinds, IsValid}
use Rattle.plan_core.proofs.Fresh.{smaller, kinds-is}
use Rattle.plan_evidence.specs.Evidence.{stage_way, shape_way, visit_vars, is_on_way, evidence_vars}
use Rattle.plan_evidence.proofs.Evident.{way_bound, made_is_no_node, list_is_no_node}
use Rattle.lazy_plan.specs.Bench.{BenchState, node_at, IsSpotAt}
use Rattle.lazy_seek.specs.Evidenced.{AreSpotsOf}
use Rattle.lazy_seek.specs.Given.{given}
use Rattle.lazy_seek.specs.declared.places.NodeAt.{NodeAt}
use Rattle.lazy_seek.proofs.Agreeing.{step, with_is}
use Rattle.lazy_seek.proofs.Drafts.{way_low, visit_among, source_given, visit_given}
use Rattle.lazy_follow.specs.Spotted.{StandsFor}

-- SPOTS OF VARIABLES

-- what stands at an index of a list
pub get_there : {X : Type 0} (xs : List X) (i : ℕ) (d : X) → i < length xs → Some (slice_index_or xs i d) ≡ slice_get xs i
get_there [] i d h = absurd (omega (arith, h))
get_there (y ∷ xs) zero d h = refl
get_there (y ∷ xs) (suc i) d h = get_there xs i d (omega (arith, h))

-- nothing stands past the last index of a list
pub get_past : {X : Type 0} (xs : List X) (i : ℕ) → length xs ≤ i → None ≡ slice_get xs i
get_past [] i h = refl
get_past (y ∷ xs) zero h = absurd (omega (arith, h))
get_past (y ∷ xs) (suc i) h = get_past xs i (omega (arith, h))

-- a variable among those from an index on is that there, or among those from the next one on
pub among_next : (vs : List ℕ) (i x v : ℕ) → i < length vs → x ≡ slice_index_or vs i x → (x ≡ v → ⊥) → Among v (drop i vs) → Among v (drop (i + 1) vs)
among_next vs i x v b e n a = (let z : i + 1 ≡ suc i = omega arith in subst (λ (k : ℕ). Among v (drop k vs)) (sym z) (next vs i b e a))
  where
    next : (vs : List ℕ) (i : ℕ) → i < length vs → x ≡ slice_index_or vs i x → Among v (drop i vs) → Among v (drop (suc i) vs)
    next [] i b e a = absurd (omega (arith, b))
    next (w ∷ vs) zero b e (inl q) = absurd (n (e ∙ sym q))
    next (w ∷ vs) zero b e (inr q) = q
    next (w ∷ vs) (suc i) b e a = next vs i (omega (arith, b)) e a

-- past the last variable none is left
pub among_end : (vs : List ℕ) (i v : ℕ) → length vs ≤ i → Among v (drop i vs) → ⊥
among_end [] zero v h a = a
among_end [] (suc i) v h a = a
among_end (w ∷ vs) zero v h a = absurd (omega (arith, h))
among_end (w ∷ vs) (suc i) v h a = among_end vs i v (omega (arith, h)) a

-- a spot stands for the node of a variable
abbrev pub IsSpotFor : BenchState → Node → Spot → Type 0
IsSpotFor st n x = IsSpotAt st n.source x × (node_at st n.source x ≡ n)

-- the spot at the index of a variable stands for its node
pub spot_there : (st : BenchState) (nodes : ℕ → Node) (vs : List ℕ) (xs : List Spot) (i x v : ℕ) → AreSpotsOf st nodes vs xs → i < length vs → x ≡ slice_index_or vs i x → x ≡ v
    → MatchOption (slice_get xs i) ⊥ (IsSpotFor st (nodes v))
spot_there st nodes [] xs i x v h b e q = absurd (omega (arith, b))
spot_there st nodes (w ∷ vs) [] i x v h b e q = absurd h
spot_there st nodes (w ∷ vs) (y ∷ xs) zero x v h b e q = subst (λ (u : ℕ). IsSpotFor st (nodes u) y) (sym e ∙ q) (h.0, h.1)
spot_there st nodes (w ∷ vs) (y ∷ xs) (suc i) x v h b e q = spot_there st nodes vs xs i x v h.2 (omega (arith, b)) e q

-- NODES OF VARIABLES

-- a stage on the way has one input
stage_only : (input i : ℕ) (stage : Stage) → Among i (stage_way input stage) → i ≡ input
stage_only input i (filters test) (inl e) = e
stage_only input i (filters test) (inr a) = absurd a
stage_only input i (extends out made) (inl e) = e
stage_only input i (extends out made) (inr a) = absurd a
stage_only input i (first_by_keys keys group) (inl e) = e
stage_only input i (first_by_keys keys group) (inr a) = absurd a
stage_only input i (one_group piece out) a = absurd a
stage_only input i (in_order v desc) (inl e) = e
stage_only input i (in_order v desc) (inr a) = absurd a

-- a stage binds no node anew
pub stage_no_node : (stage : Stage) (ks : Kinds) (v : ℕ) → Among v (stage_outs stage) → stage_kinds stage ks v ≡ Some a_node → ⊥
stage_no_node (filters test) ks v a k = a
stage_no_node (extends out made) ks v (inl c) k = made_is_no_node made (with_is out v (made_kind made) ks c k)
stage_no_node (extends out made) ks v (inr c) k = c
stage_no_node (first_by_keys keys None) ks v a k = a
stage_no_node (first_by_keys keys (Some g)) ks v (inl c) k = list_is_no_node (with_is g.1 v a_list (kept keys ks) c k)
stage_no_node (first_by_keys keys (Some g)) ks v (inr c) k = c
stage_no_node (one_group piece out) ks v (inl c) k = list_is_no_node (with_is out v a_list no_kinds c k)
stage_no_node (one_group piece out) ks v (inr c) k = c
stage_no_node (in_order w desc) ks v a k = a

-- an operator on the way of evidence binds a variable to a node
pub record IsNodeOn (ops : List Operator) (top n v : ℕ) : Type 0 where
  pub on_way : is_on_way ops top n ≡ true
  pub kind : kinds ops n v ≡ Some a_node

module _ (p : PlanValue) (valid : IsValid p) (typed : IsTyped p.ops) (top : ℕ) (within : top < length p.ops) (n : ℕ) (b : n < length p.ops) where
  -- what a shape binds an operator of that shape binds
  shape_kind : (f : Shape) (v : ℕ) → shape_at p.ops n ≡ f → kinds p.ops n v ≡ Some a_node → shape_kinds f (kinds p.ops) v ≡ Some a_node
  shape_kind f v e k = subst (λ (g : Shape). shape_kinds g (kinds p.ops) v ≡ Some a_node) e (sym (ap (λ (ks : Kinds). ks v) (kinds-is p valid typed n b)) ∙ k)

  -- an input of an operator is below it
  pub input_low : (f : Shape) (i : ℕ) → shape_at p.ops n ≡ f → Among i (shape_inputs f) → i < n
  input_low f i e a = smaller p valid typed i n b (subst (λ (g : Shape). Among i (shape_inputs g)) (sym e) a)

  -- an input on the way of an operator on the way is on the way
  input_on : (f : Shape) (i : ℕ) → shape_at p.ops n ≡ f → Among i (shape_way f) → is_on_way p.ops top n ≡ true → is_on_way p.ops top i ≡ true
  input_on f i e a o = step p valid top within n b i (subst (λ (g : Shape). Among i (shape_way g)) (sym e) a) o

  -- a node behind a stage is one of its input
  pub passed_node : (input : ℕ) (stage : Stage) (v : ℕ) → shape_at p.ops n ≡ passes_on input stage → IsNodeOn p.ops top n v → IsNodeOn p.ops top input v
  passed_node input stage v e h = elim (way_bound (passes_on input stage) (kinds p.ops) v (shape_kind (passes_on input stage) v e h.kind)) [
    | inl a ↦ absurd (stage_no_node stage (kinds p.ops input) v a (shape_kind (passes_on input stage) v e h.kind))
    | inr r ↦
        (let q = stage_only input r.0 stage r.1 in
        subst (λ (i : ℕ). IsNodeOn p.ops top i v) q (record { on_way = input_on (passes_on input stage) r.0 e r.1 h.on_way; kind = r.2 }))
  ]

  -- the last operator binds nothing
  pub not_destroyed : (input made v : ℕ) → shape_at p.ops n ≡ no_events input made → IsNodeOn p.ops top n v → ⊥
  not_destroyed input made v e h = (let k = shape_kind (no_events input made) v e h.kind in let f : ⊥ = cc in f)

  -- a source binds its document node
  pub source_node : (s out v : ℕ) → shape_at p.ops n ≡ one_source s out → IsNodeOn p.ops top n v → (places : List (List ℕ)) → given p.ops top places v ≡ document_node s
  source_node s out v e h places = elim (way_bound (one_source s out) (kinds p.ops) v (shape_kind (one_source s out) v e h.kind)) [
    | inl a ↦ one a
    | inr r ↦ absurd r.1
  ]
    where
      one : Among v (out ∷ []) → given p.ops top places v ≡ document_node s
      one (inl x) = ap (given p.ops top places) x ∙ source_given p valid top within places n s out (way_low p valid top within top n within h.on_way) h.on_way e
      one (inr x) = absurd x

  module _ (input start out : ℕ) (path : Form) (e : shape_at p.ops n ≡ visits_below input start path out) where
    -- the start of a visit is a node of its input
    pub start_node : (v : ℕ) → IsNodeOn p.ops top n v → IsNodeOn p.ops top input start
    start_node v h =
        let fit : IsShapeFit (visits_below input start path out) (kinds p.ops) = subst (λ (f : Shape). IsShapeFit f (kinds p.ops)) e (typed.fit n b) in
        record { on_way = input_on (visits_below input start path out) input e (inl refl) h.on_way; kind = fit.0 }

    -- a node that a visit doesn't bind is one of its input
    pub other_node : (v : ℕ) → (out ≡ v → ⊥) → IsNodeOn p.ops top n v → IsNodeOn p.ops top input v
    other_node v other h = elim (way_bound (visits_below input start path out) (kinds p.ops) v (shape_kind (visits_below input start path out) v e h.kind)) [
      | inl a ↦ absurd (none a)
      | inr r ↦ one r.0 r.1 r.2
    ]
      where
        none : Among v (out ∷ []) → ⊥
        none (inl x) = other (sym x)
        none (inr x) = x

        one : (i : ℕ) → Among i (input ∷ []) → kinds p.ops i v ≡ Some a_node → IsNodeOn p.ops top input v
        one i (inl x) k = record { on_way = input_on (visits_below input start path out) input e (inl refl) h.on_way; kind = subst (λ (j : ℕ). kinds p.ops j v ≡ Some a_node) x k }
        one i (inr x) k = absurd x

    -- the variable of a visit is one of evidence
    pub out_among : is_on_way p.ops top n ≡ true → Among out (evidence_vars p.ops top)
    out_among o = visit_among p valid top within n out (way_low p valid top within top n within o) o (subst (λ (f : Shape). Among out (visit_vars f)) (sym e) (inl refl))

    -- a spot of the source of the start's node that stands for the node of the visit's variable
    pub out_stands : (st : BenchState) (places : List (List ℕ)) (v : ℕ) → out ≡ v → is_on_way p.ops top n ≡ true → (from : NodeAt) → StandsFor st (given p.ops top places start) from → (x : Spot)
        → IsSpotFor st (given p.ops top places v) x → StandsFor st (given p.ops top places v) (record { source = from.source; spot = x })
    out_stands st places v q o from h x y =
        let g = visit_given p valid top within places n input start out path (way_low p valid top within top n within o) o e in
        let same : (given p.ops top places v).source ≡ from.source =
        ap (λ (u : ℕ). (given p.ops top places u).source) (sym q) ∙ ap (λ (m : Node). m.source) g ∙ sym (ap (λ (m : Node). m.source) h.node) in
        record {
          spot = subst (λ (s : ℕ). IsSpotAt st s x) same y.0;
          node = subst (λ (s : ℕ). node_at st s x ≡ given p.ops top places v) same y.1;
        }

  module _ (left right : ℕ) (tests : List Test) (e : shape_at p.ops n ≡ pairs_up left right tests) (v : ℕ) (bound : Bool) (is : bound ≡ is_some (kinds p.ops left v)) (h : IsNodeOn p.ops top n v) where
    -- a node of a join that its left side binds is one of that side
    pub left_node : bound ≡ true → IsNodeOn p.ops top left v
    left_node t = record {
      on_way = input_on (pairs_up left right tests) left e (inl refl) h.on_way;
      kind = on_left (kinds p.ops left v) (kinds p.ops right v) (sym is ∙ t) (shape_kind (pairs_up left right tests) v e h.kind);
    }
      where
        on_left : (j k : Option Kind) → is_some j ≡ true → either_kind j k ≡ Some a_node → j ≡ Some a_node
        on_left None k s g = cc
        on_left (Some j) k s g = g

    -- a node of a join that its left side doesn't bind is one of the right side
    pub right_node : bound ≡ false → IsNodeOn p.ops top right v
    right_node t = record {
      on_way = input_on (pairs_up left right tests) right e (inr (inl refl)) h.on_way;
      kind = on_right (kinds p.ops left v) (kinds p.ops right v) (sym is ∙ t) (shape_kind (pairs_up left right tests) v e h.kind);
    }
      where
        on_right : (j k : Option Kind) → is_some j ≡ false → either_kind j k ≡ Some a_node → k ≡ Some a_node
        on_right None k s g = g
        on_right (Some j) k s g = cc
