-- The binding below the last operator: it is single, so that its evidence has no variables.
use Rattle.std.proofs.Common.{◌≡◌, inl, inr, ℕ, zero, suc, ◌<◌, ◌+◌, true, false, cond, List, [], ◌∷◌, ◌++◌, Option, Some, None, refl, sym, ap, subst, ◌∙◌, arith, length}
use Rattle.std.specs.Prelude.{Bool}
use Rattle.std.specs.List.{AllByRecursion, last_or}
use Rattle.std.proofs.lemmas.Bool.{and_parts}
use Rattle.mix_base.proofs.Choices.{some_is}
use Rattle.mix_base.specs.Ascents.{Among}
use Rattle.plan_core.specs.ByNumber.{op_at}
use Rattle.plan_core.specs.Plans.{Operator, source, get_descendants, join, over, tuple_destroy, PlanValue}
use Rattle.plan_core.specs.Shapes.{filters, extends, first_by_keys, one_group, in_order, Shape, one_source, visits_below, pairs_up, passes_on, no_events, shape_of, shape_at}
use Rattle.plan_core.specs.Typed.{IsTyped}
use Rattle.plan_core.specs.Valid.{shape_single, is_single, is_single_at, shape_inputs, EndsSingle, IsValid}
use Rattle.plan_core.proofs.Fresh.{smaller}
use Rattle.plan_core.proofs.Inputs.{is_single-reads}
use Rattle.plan_core.proofs.Numbers.{by_number-of}
use Rattle.plan_evidence.specs.Evidence.{shape_way, visit_vars, vars_from, is_on_way, evidence_vars}
use Rattle.plan_evidence.specs.Named.{outer_of}
use Rattle.plan_evidence.proofs.Ways.{way_cases, way_inputs}

-- whether an operator is single is told by whether its inputs are
single-at : (ops : List Operator) (n : ℕ) → AllByRecursion (λ i. i < n) (shape_inputs (shape_at ops n))
    → is_single_at ops n ≡ shape_single (shape_at ops n) (is_single_at ops)
unfolding is_single_at
single-at ops n h = by_number-of is_single false ops n (op_at ops n) is_single-reads refl h

-- a single shape binds nothing by a visit
single_vars : (f : Shape) (of : ℕ → Bool) → shape_single f of ≡ true → visit_vars f ≡ []
single_vars (one_source s out) of e = refl
single_vars (visits_below i start path out) of e = cc
single_vars (pairs_up l r tests) of e = refl
single_vars (passes_on i stage) of e = refl
single_vars (no_events i made) of e = refl

-- the inputs of a single shape that are on the way of evidence are single
single_inputs : (f : Shape) (of : ℕ → Bool) → shape_single f of ≡ true → (i : ℕ) → Among i (shape_way f) → of i ≡ true
single_inputs (one_source s out) of e i a = absurd a
single_inputs (visits_below j start path out) of e i a = cc
single_inputs (pairs_up l r []) of e i (inl x) = ap of x ∙ (and_parts (of l) (of r) e).0
single_inputs (pairs_up l r []) of e i (inr (inl x)) = ap of x ∙ (and_parts (of l) (of r) e).1
single_inputs (pairs_up l r []) of e i (inr (inr a)) = absurd a
single_inputs (pairs_up l r (t ∷ tests)) of e i a = cc
single_inputs (passes_on j (filters test)) of e i a = cc
single_inputs (passes_on j (extends out made)) of e i (inl x) = ap of x ∙ e
single_inputs (passes_on j (extends out made)) of e i (inr a) = absurd a
single_inputs (passes_on j (first_by_keys keys None)) of e i (inl x) = ap of x ∙ e
single_inputs (passes_on j (first_by_keys keys None)) of e i (inr a) = absurd a
single_inputs (passes_on j (first_by_keys keys (Some group))) of e i a = cc
single_inputs (passes_on j (one_group piece out)) of e i a = absurd a
single_inputs (passes_on j (in_order v desc)) of e i a = cc
single_inputs (no_events j made) of e i a = cc

-- where no operator on the way binds anything by a visit, no visit on the way binds anything
no_vars_from : (on : ℕ → Bool) (i : ℕ) (ops : List Operator) → ((k : ℕ) → k < length ops → on (i + k) ≡ true → visit_vars (shape_at ops k) ≡ [])
    → vars_from on i ops ≡ []
no_vars_from on i [] h = refl
no_vars_from on i (op ∷ ops) h =
    let r = no_vars_from on (suc i) ops (λ k b o. h (suc k) (omega (arith, b)) (let z : suc i + k ≡ i + suc k = omega arith in subst (λ (m : ℕ). on m ≡ true) z o)) in
    let here : cond (on i) (visit_vars (shape_of op)) [] ≡ [] =
    (elim (on i) as (λ w. on i ≡ w → cond w (visit_vars (shape_of op)) [] ≡ []) [
      | true ↦ λ e. h 0 (omega arith) (let z : i ≡ i + 0 = omega arith in subst (λ (m : ℕ). on m ≡ true) z e)
      | false ↦ λ e. refl
    ]) refl in
    ap (λ (vs : List ℕ). vs ++ vars_from on (suc i) ops) here ∙ r

module _ (p : PlanValue) (valid : IsValid p) (typed : IsTyped p.ops) where
  -- what is on the way of a single operator below a number is single
  single_way : (c n i : ℕ) → n < c → n < length p.ops → is_single_at p.ops n ≡ true → is_on_way p.ops n i ≡ true → is_single_at p.ops i ≡ true
  single_way zero n i l b e o = absurd (omega (arith, l))
  single_way (suc c) n i l b e o = elim (way_cases p valid typed n i b o) [
    | inl x ↦ subst (λ (m : ℕ). is_single_at p.ops m ≡ true) x e
    | inr r ↦
        (let s = smaller p valid typed r.input n b (way_inputs (shape_at p.ops n) r.input r.among) in
        let single = single_inputs (shape_at p.ops n) (is_single_at p.ops) (sym (single-at p.ops n (typed.inputs n b)) ∙ e) r.input r.among in
        single_way c r.input i (omega (arith, s, l)) (omega (arith, s, b)) single r.on_way)
  ]

  -- evidence of a single operator has no variables
  pub no_vars : (n : ℕ) → n < length p.ops → is_single_at p.ops n ≡ true → evidence_vars p.ops n ≡ []
  no_vars n b e =
      no_vars_from (is_on_way p.ops n) 0 p.ops
      (λ k c o. (let z : 0 + k ≡ k = omega arith in
      let single = single_way (suc n) n k (omega arith) b e (subst (λ (m : ℕ). is_on_way p.ops n m ≡ true) z o) in
      single_vars (shape_at p.ops k) (is_single_at p.ops) (sym (single-at p.ops k (typed.inputs k c)) ∙ single)))

-- what the last operator reads is single, and of an earlier number
pub record IsLast (single : ℕ → Bool) (ops : List Operator) (input outer : ℕ) : Type 0 where
  pub number : ℕ
  pub within : number < length ops
  pub is_shape : shape_at ops number ≡ no_events input outer
  pub is_single : single input ≡ true

-- an operator before others leaves the last one as it is
later : (single : ℕ → Bool) (op : Operator) (ops : List Operator) (input outer : ℕ) → IsLast single ops input outer → IsLast single (op ∷ ops) input outer
later single op ops input outer r = (let b = r.within in record { number = suc r.number; within = omega (arith, b); is_shape = r.is_shape; is_single = r.is_single })

-- what a plan's last operator reads is single
last_reads : (single : ℕ → Bool) (ops : List Operator) (o : Option Operator) → EndsSingle single ops → (input outer : ℕ)
    → outer_of (last_or o ops) ≡ Some (input, outer) → IsLast single ops input outer
last_reads single [] o e input outer h = absurd e
last_reads single (tuple_destroy i v ∷ []) o e input outer h =
    let pairs : ◌≡◌ {A = ℕ × ℕ} (i, v) (input, outer) = some_is (i, v) (input, outer) h in
    let is : i ≡ input = ap (λ (x : ℕ × ℕ). x.0) pairs in
    record { number = 0; within = omega arith; is_shape = ap (λ (x : ℕ × ℕ). no_events x.0 x.1) pairs; is_single = subst (λ (m : ℕ). single m ≡ true) is e }
last_reads single (tuple_destroy i v ∷ op ∷ ops) o e input outer h = absurd e
last_reads single (source s out ∷ ops) o e input outer h = later single (source s out) ops input outer (last_reads single ops (Some (source s out)) e input outer h)
last_reads single (get_descendants i start path out ∷ ops) o e input outer h =
    later single (get_descendants i start path out) ops input outer (last_reads single ops (Some (get_descendants i start path out)) e input outer h)
last_reads single (join l r tests ∷ ops) o e input outer h = later single (join l r tests) ops input outer (last_reads single ops (Some (join l r tests)) e input outer h)
last_reads single (over i op ∷ ops) o e input outer h = later single (over i op) ops input outer (last_reads single ops (Some (over i op)) e input outer h)

-- an input that the last operator reads, as its outer element's binding
pub record IsOuterInput (p : PlanValue) (input : ℕ) : Type 0 where
  pub early : suc input < length p.ops
  pub no_vars : evidence_vars p.ops input ≡ []

-- the input that the last operator of a valid plan reads isn't the last operator, and its evidence has no variables
pub outer_input : (p : PlanValue) → IsValid p → IsTyped p.ops → (input outer : ℕ) → outer_of (last_or None p.ops) ≡ Some (input, outer) → IsOuterInput p input
outer_input p valid typed input outer h =
    let r = last_reads (is_single_at p.ops) p.ops None valid.ends input outer h in
    let s = smaller p valid typed input r.number r.within (subst (λ (f : Shape). Among input (shape_inputs f)) (sym r.is_shape) (inl refl)) in
    let b = r.within in
    record { early = omega (arith, s, b); no_vars = no_vars p valid typed input (omega (arith, s, b)) r.is_single }
