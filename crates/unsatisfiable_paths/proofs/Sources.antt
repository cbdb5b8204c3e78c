-- The nodes of a plan's variables lie in the sources that are known of them.
use Rattle.std.proofs.Common.{◌≡◌, inl, inr, ℕ, zero, suc, ◌<◌, ◌≤◌, true, false, cond, List, [], ◌∷◌, ◌++◌, refl, sym, ap, subst, ◌∙◌, arith, length, append_assoc}
use Rattle.std.specs.Prelude.{Bool, ◌==◌, Option, None}
use Rattle.std.specs.List.{AllByRecursion}
use Rattle.std.proofs.lemmas.Bool.{eq-eqb, eqb-true, cases_lt}
use Rattle.std.proofs.lemmas.List.{get_or_at}
use Rattle.mix_base.proofs.Lists.{append_nil}
use Rattle.mix_base.specs.Ascents.{Among}
use Rattle.mix_tree.specs.Nodes.{Documents, document_node}
use Rattle.path_expr.specs.Form.{Form}
use Rattle.path_auto.specs.Visit.{visits}
use Rattle.plan_core.specs.Beside.{EachBinding}
use Rattle.plan_core.specs.ByNumber.{op_at}
use Rattle.plan_core.specs.Events.{passes_all, pairs, descendants, each_row, shape_events, events}
use Rattle.plan_core.specs.Fronts.{front}
use Rattle.plan_core.specs.Plans.{Operator, PlanValue}
use Rattle.plan_core.specs.Shapes.{Shape, one_source, visits_below, pairs_up, passes_on, no_events, shape_at}
use Rattle.plan_core.specs.TolledRows.{of_source, TolledRow, row_node}
use Rattle.plan_core.specs.Typed.{IsTyped}
use Rattle.plan_core.specs.Valid.{a_node, Kinds, no_kinds, with_kind, either_kind, shape_kinds, kinds, shape_inputs, shape_outs, outs_of, IsValid}
use Rattle.plan_core.proofs.Bindings.{binding_expand, binding_nodes, binding_each_row, binding_only}
use Rattle.plan_core.proofs.Fresh.{bound_once}
use Rattle.plan_core.proofs.Numbers.{events-of, kinds-of}
use Rattle.browse_visit.specs.declared.shape.Shape.{Shape as SourceShape}
use Rattle.browse_visit.specs.declared.shape.Sort.{Sort}
use Rattle.browse_visit.specs.declared.shape.Sort.TheVariants.{Document, Root, Row, Value, MaybeValue, Leaf, Anything}
use Rattle.browse_visit.specs.Layouts.{Layout, AreLaid}
use Rattle.browse_visit.specs.Shapes.{shapes_of, has_sort, no_sorts}
use Rattle.browse_class.specs.Bound.{IsBound}
use Rattle.browse_class.specs.Classes.{KnownOfEvents}
use Rattle.browse_class.specs.Facts.{facts}
use Rattle.plan_class.specs.Agree.{out_of, AreKnown, known_below}
use Rattle.plan_class.specs.Known.{Known, no_known, known_at, binds, domain_of, shape_known, op_known}
use Rattle.plan_class.specs.declared.domain.Domain.{Domain}
use Rattle.plan_class.proofs.ClassIs.{are_known}
use Rattle.plan_class.proofs.Origins.{nodes_known}
use Rattle.unsatisfiable_paths.specs.Unsatisfiable.{plan_nodes}
use Rattle.unsatisfiable_paths.proofs.Found.{start_kind}
use Rattle.unsatisfiable_paths.proofs.Rows.{InSource, binding_both, with_more, pair_in, stage_in, row_laid}

-- a variable that is the one bound anew is among those that are bound anew
out_among : (outs : List ℕ) (v : ℕ) → binds (out_of outs) v ≡ true → Among v outs
out_among [] v h = cc
out_among (w ∷ ws) v h = inl (sym (eqb-true w v h))

-- what is known of the first operators is known with more after them
known_split : (shapes : List SourceShape) (ops : List Operator) (m n : ℕ) → n ≤ m → (rest : List Known) × (known_below shapes ops m ≡ known_below shapes ops n ++ rest)
known_split shapes ops zero n h = (let e : n ≡ 0 = omega (arith, h) in ([], ap (λ (i : ℕ). known_below shapes ops i ++ []) (sym e)))
known_split shapes ops (suc m) n h =
    elim (cases_lt n (suc m)) [
      | inl l ↦
          (let r = known_split shapes ops m n (omega (arith, l)) in
          let one = op_known shapes (front ops) (known_below shapes ops m) (op_at ops m) in
          (r.0 ++ one ∷ [], ap (λ (ks : List Known). ks ++ one ∷ []) r.1 ∙ append_assoc (known_below shapes ops n) r.0 (one ∷ [])))
      | inr g ↦ (let e : n ≡ suc m = omega (arith, g, h) in ([], sym (append_nil (known_below shapes ops (suc m))) ∙ ap (λ (i : ℕ). known_below shapes ops i ++ []) (sym e)))
    ]

-- no sort is in the set of none
none_has : (s : Sort) → has_sort no_sorts s ≡ true → ⊥
none_has Document h = cc
none_has Root h = cc
none_has Row h = cc
none_has Value h = cc
none_has MaybeValue h = cc
none_has Leaf h = cc
none_has Anything h = cc

-- a variable that lies among some sorts by the first operators lies there by all
prefix_domain : (xs ys : List Known) (v : ℕ) (s : Sort) → has_sort (domain_of xs v).sorts s ≡ true → domain_of (xs ++ ys) v ≡ domain_of xs v
prefix_domain [] ys v s h = absurd (none_has s h)
prefix_domain (k ∷ xs) ys v s h =
    elim (binds k.out v) as (λ w. has_sort (cond w k.domain (domain_of xs v)).sorts s ≡ true → cond w k.domain (domain_of (xs ++ ys) v) ≡ cond w k.domain (domain_of xs v)) [
      | true ↦ λ g. refl
      | false ↦ λ g. prefix_domain xs ys v s g
    ] h

-- the one operator that binds a variable anew says where it lies
only_domain : (known : List Known) (v m : ℕ) → m < length known → binds (known_at known m).out v ≡ true
    → ((i : ℕ) → i < length known → binds (known_at known i).out v ≡ true → i ≡ m) → domain_of known v ≡ (known_at known m).domain
only_domain [] v m b h once = absurd (omega (arith, b))
only_domain (k ∷ known) v zero b h once = ap (λ (w : Bool). cond w k.domain (domain_of known v)) h
only_domain (k ∷ known) v (suc m) b h once =
    elim (binds k.out v) as (λ w. binds k.out v ≡ w → cond w k.domain (domain_of known v) ≡ (known_at known m).domain) [
      | true ↦ λ t. absurd (let z : 0 ≡ suc m = once 0 (omega arith) t in omega (arith, z))
      | false ↦ λ t. only_domain known v m (omega (arith, b)) h (λ i c g. (let s : suc i ≡ suc m = once (suc i) (omega (arith, c)) g in omega (arith, s)))
    ] refl

module _ (shapes : List SourceShape) (p : PlanValue) (valid : IsValid p) (typed : IsTyped p.ops) where
  -- what is known of the first n operators
  abbrev below : ℕ → List Known
  below n = known_below shapes p.ops n

  -- what is known of operator n
  abbrev one : ℕ → Known
  one n = op_known shapes (front p.ops) (below n) (op_at p.ops n)

  -- all operators are known
  are : AreKnown shapes p.ops (below (length p.ops)) (length p.ops)
  are = are_known shapes p valid typed (length p.ops) (omega arith)

  -- the source of a variable's nodes
  abbrev source_of : ℕ → ℕ
  source_of v = (plan_nodes shapes p.ops v).source

  -- an operator is known as it was when it was added
  known_here : (n : ℕ) → n < length p.ops → known_at (below (length p.ops)) n ≡ one n
  known_here n b =
      let split = known_split shapes p.ops (length p.ops) (suc n) (omega (arith, b)) in
      let count = (are_known shapes p valid typed n (omega (arith, b))).count in
      ap (λ (ks : List Known). known_at ks n) (split.1 ∙ append_assoc (below n) (one n ∷ []) split.0) ∙ get_or_at (below n) (one n) split.0 no_known n count

  -- a variable that an operator binds anew lies where the operator says
  own_domain : (n out : ℕ) → n < length p.ops → outs_of (op_at p.ops n) ≡ out ∷ [] → domain_of (below (length p.ops)) out ≡ (one n).domain
  own_domain n out b e =
      let count = are.count in
      let same : (out == out) ≡ true = eq-eqb out out refl in
      let here : binds (known_at (below (length p.ops)) n).out out ≡ true = ap (λ (o : Option ℕ). binds o out) ((are.each n b).out ∙ ap out_of e) ∙ same in
      only_domain (below (length p.ops)) out n (omega (arith, b, count)) here (λ i c g. alone i (omega (arith, c, count)) g) ∙ ap (λ (k : Known). k.domain) (known_here n b)
    where
      alone : (i : ℕ) → i < length p.ops → binds (known_at (below (length p.ops)) i).out out ≡ true → i ≡ n
      alone i c g =
          bound_once p.ops valid.distinct i n out c b
          (out_among (outs_of (op_at p.ops i)) out (ap (λ (o : Option ℕ). binds o out) (sym (are.each i c).out) ∙ g))
          (subst (Among out) (sym e) (inl refl))

  -- what is said of where an operator's variable lies is said by its shape
  shape_source : (n out : ℕ) (f : Shape) → n < length p.ops → shape_at p.ops n ≡ f → shape_outs f ≡ out ∷ []
      → source_of out ≡ (shape_known shapes (front p.ops) (domain_of (below n)) (known_at (below n)) f).domain.source
  shape_source n out f b e o =
      ap (λ (d : Domain). d.source) (own_domain n out b (ap shape_outs e ∙ o)) ∙ ap (λ (g : Shape). (shape_known shapes (front p.ops) (domain_of (below n)) (known_at (below n)) g).domain.source) e

  -- the nodes of a path's variable lie in the source of those where it starts, where there are any
  path_source : (n i start out : ℕ) (path : Form) → n < length p.ops → shape_at p.ops n ≡ visits_below i start path out → i < n → (g : Layout) → Among g ((facts (shapes_of shapes) p.ops i).layouts start)
      → source_of start ≡ source_of out
  path_source n i start out path b e l g a =
      let short : n ≤ length p.ops = omega (arith, b) in
      let set = nodes_known shapes p valid typed (below n) n short (are_known shapes p valid typed n short) i start l (start_kind p typed n b i start out path e) in
      let s = set.into g a in
      let split = known_split shapes p.ops (length p.ops) n short in
      ap (λ (ks : List Known). (domain_of ks start).source) split.1
      ∙ ap (λ (d : Domain). d.source) (prefix_domain (below n) split.0 start s.0 s.1)
      ∙ sym (shape_source n out (visits_below i start path out) b e refl)

  module _ (knowing : KnownOfEvents) (docs : Documents) (laid : AreLaid (shapes_of shapes) docs) where
    -- the nodes of a binding's variables lie in their sources
    abbrev IsIn : ℕ → TolledRow → Type 0
    IsIn n row = InSource source_of (kinds p.ops n) row

    -- a binding of an operator is as is known
    abbrev IsKnown : ℕ → TolledRow → Type 0
    IsKnown n row = IsBound docs None (kinds p.ops n) (facts (shapes_of shapes) p.ops n) row

    -- each binding of an operator is as is known
    bound : (n : ℕ) → n < length p.ops → EachBinding (IsKnown n) (events docs p.ops n)
    bound n b = (knowing (shapes_of shapes) p valid docs laid n b).bound

    -- the nodes of each binding of a shape lie in their sources, where those of its inputs do
    shape_in : (n : ℕ) → n < length p.ops → (f : Shape) → shape_at p.ops n ≡ f → AllByRecursion (λ i. i < n) (shape_inputs f) → ((i : ℕ) → i < n → EachBinding (IsIn i) (events docs p.ops i))
        → EachBinding (InSource source_of (shape_kinds f (kinds p.ops))) (shape_events docs (front p.ops) f (events docs p.ops))
    shape_in n b (one_source s out) e small h =
        (with_more source_of no_kinds out a_node (of_source (document_node s)) [] (λ q. sym (shape_source n out (one_source s out) b e refl)) (λ v q. cc), tt)
    shape_in n b (visits_below i start path out) e small h =
        let kind = start_kind p typed n b i start out path e in
        let l = small.0 in
        let Lying : TolledRow → Type 0 = InSource source_of (with_kind out a_node (kinds p.ops i)) in
        binding_expand (λ row. IsKnown i row × IsIn i row) Lying (descendants docs start path out)
        (λ row both.
        let there = row_laid docs (kinds p.ops i) (facts (shapes_of shapes) p.ops i) start kind row both.0 in
        let source : (row_node row start).source ≡ source_of out = both.1 start kind ∙ path_source n i start out path b e l there.0 there.1 in
        binding_nodes Lying out (row_node row start) row
        (λ place. with_more source_of (kinds p.ops i) out a_node (of_source (record { source = (row_node row start).source; place = place })) row (λ q. source) both.1)
        (visits docs path (row_node row start)))
        (events docs p.ops i) (binding_both (IsKnown i) (IsIn i) (events docs p.ops i) (bound i (omega (arith, l, b))) (h i l))
    shape_in n b (pairs_up left right tests) e small h =
        let l = small.0 in
        let Lying : TolledRow → Type 0 = InSource source_of (λ v. either_kind (kinds p.ops left v) (kinds p.ops right v)) in
        binding_expand (λ row. IsKnown left row × IsIn left row) Lying (pairs docs tests (events docs p.ops right))
        (λ row both. binding_only Lying (passes_all docs tests) (each_row (λ more. row ++ more) (events docs p.ops right))
        (binding_each_row (IsIn right) Lying (λ more. row ++ more)
        (λ more q. pair_in source_of docs (kinds p.ops left) (kinds p.ops right) (facts (shapes_of shapes) p.ops left) row more both.0 both.1 q)
        (events docs p.ops right) (h right small.1.0)))
        (events docs p.ops left) (binding_both (IsKnown left) (IsIn left) (events docs p.ops left) (bound left (omega (arith, l, b))) (h left l))
    shape_in n b (passes_on i stage) e small h = stage_in source_of docs (kinds p.ops i) (front p.ops i).vars stage (events docs p.ops i) (h i small.0)
    shape_in n b (no_events i made) e small h = tt

    -- the nodes of each binding of each operator below k lie in their sources
    in_sources : (k n : ℕ) → n < k → n < length p.ops → EachBinding (IsIn n) (events docs p.ops n)
    in_sources zero n l b = absurd (omega (arith, l))
    in_sources (suc k) n l b =
        let inputs = typed.inputs n b in
        subst (λ (ks : Kinds). EachBinding (InSource source_of ks) (events docs p.ops n)) (sym (kinds-of p.ops n (op_at p.ops n) refl inputs))
        (subst (EachBinding (InSource source_of (shape_kinds (shape_at p.ops n) (kinds p.ops)))) (sym (events-of docs p.ops n (op_at p.ops n) refl inputs))
        (shape_in n b (shape_at p.ops n) refl inputs (λ i s. in_sources k i (omega (arith, s, l)) (omega (arith, s, b)))))

    -- the nodes of each binding of each operator lie in their sources
    pub each_in : (n : ℕ) → n < length p.ops → EachBinding (IsIn n) (events docs p.ops n)
    each_in n b = in_sources (suc n) n (omega arith) b
