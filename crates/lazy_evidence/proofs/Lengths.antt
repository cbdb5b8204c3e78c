-- All bindings of an operator have the same number of variables.
use Rattle.std.proofs.Common.{◌≡◌, ◌<◌, ◌+◌, ℕ, zero, suc, List, [], ◌∷◌, ◌++◌, inl, inr, refl, sym, subst, arith, length, length-append}
use Rattle.std.specs.Prelude.{Some, None}
use Rattle.mix_base.specs.Ascents.{Among}
use Rattle.mix_tree.specs.Nodes.{Documents}
use Rattle.mix_tree.specs.declared.var.Key.{Key}
use Rattle.path_auto.specs.Visit.{visits}
use Rattle.plan_core.specs.Beside.{EachBinding}
use Rattle.plan_core.specs.ByNumber.{op_at}
use Rattle.plan_core.specs.Events.{RowEvents, each_row, descendants, pairs, passes_all, extended, kept_row, stage_events, shape_events, events}
use Rattle.plan_core.specs.Fronts.{Front, are_contiguous, front}
use Rattle.plan_core.specs.Plans.{PlanValue}
use Rattle.plan_core.specs.Shapes.{Stage, filters, extends, first_by_keys, one_group, in_order, Shape, one_source, visits_below, pairs_up, passes_on, no_events, shape_at}
use Rattle.plan_core.specs.TolledRows.{TolledRow, row_node, tolled_restrict}
use Rattle.plan_core.specs.Typed.{IsTyped}
use Rattle.plan_core.specs.Valid.{shape_inputs, IsValid}
use Rattle.plan_core.proofs.Bindings.{binding_expand, binding_nodes, binding_each_row, binding_only, binding_distinct, binding_sorted}
use Rattle.plan_core.proofs.Fresh.{smaller}
use Rattle.plan_core.proofs.Numbers.{events-of}

-- each binding of events has this many variables
abbrev pub HaveLength : ℕ → RowEvents → Type 0
HaveLength k es = EachBinding (λ row. length row ≡ k) es

-- a binding cut to the variables of keys has one for each key
restrict_length : (keys : List Key) (row : TolledRow) → length (tolled_restrict keys row) ≡ length keys
restrict_length [] row = refl
restrict_length (k ∷ keys) row = (let e = restrict_length keys row in omega (arith, e))

module _ (docs : Documents) where
  -- all bindings after a stage have one length, where all of its input have one
  stage_length : (vars : List ℕ) (stage : Stage) (es : RowEvents) (k : ℕ) → HaveLength k es → (m : ℕ) × HaveLength m (stage_events docs vars stage es)
  stage_length vars (filters test) es k h = (k, binding_only (λ row. length row ≡ k) _ es h)
  stage_length vars (extends out made) es k h = (suc k, binding_each_row (λ row. length row ≡ k) (λ row. length row ≡ suc k) (extended docs out made) (λ row e. omega (arith, e)) es h)
  stage_length vars (first_by_keys keys None) es k h = (
    length keys,
    binding_distinct (λ row. length row ≡ k) (λ row. length row ≡ length keys) docs keys (kept_row docs keys (are_contiguous keys vars) None) (λ row rest e. restrict_length keys row) [] es h,
  )
  stage_length vars (first_by_keys keys (Some group)) es k h = (
    suc (length keys),
    binding_distinct (λ row. length row ≡ k) (λ row. length row ≡ suc (length keys)) docs keys (kept_row docs keys (are_contiguous keys vars) (Some group))
        (λ row rest e. (let r = restrict_length keys row in omega (arith, r))) [] es h,
  )
  stage_length vars (one_group piece out) es k h = (1, (refl, tt))
  stage_length vars (in_order v desc) es k h = (k, binding_sorted (λ row. length row ≡ k) _ es h)

  -- all bindings of a shape have one length, where all of each of its inputs have one
  shape_length : (fronts : ℕ → Front) (f : Shape) (of : ℕ → RowEvents) → ((i : ℕ) → Among i (shape_inputs f) → (k : ℕ) × HaveLength k (of i)) → (m : ℕ) × HaveLength m (shape_events docs fronts f of)
  shape_length fronts (one_source s out) of h = (1, (refl, tt))
  shape_length fronts (visits_below i start path out) of h =
      let k = h i (inl refl) in (
        suc k.0,
        binding_expand (λ row. length row ≡ k.0) (λ row. length row ≡ suc k.0) (descendants docs start path out)
            (λ row e. binding_nodes (λ row. length row ≡ suc k.0) out (row_node row start) row (λ place. omega (arith, e)) (visits docs path (row_node row start))) (of i) k.1,
      )
  shape_length fronts (pairs_up l r tests) of h =
      let a = h l (inl refl) in
      let b = h r (inr (inl refl)) in (
        a.0 + b.0,
        binding_expand (λ row. length row ≡ a.0) (λ row. length row ≡ a.0 + b.0) (pairs docs tests (of r))
            (λ row e. binding_only (λ row. length row ≡ a.0 + b.0) (passes_all docs tests) (each_row (λ x. row ++ x) (of r))
            (binding_each_row (λ row. length row ≡ b.0) (λ row. length row ≡ a.0 + b.0) (λ x. row ++ x) (λ x d. (let g = length-append row x in omega (arith, e, d, g))) (of r) b.1)) (of l) a.1,
      )
  shape_length fronts (passes_on i stage) of h = (let k = h i (inl refl) in stage_length (fronts i).vars stage (of i) k.0 k.1)
  shape_length fronts (no_events i made) of h = (0, tt)

module _ (p : PlanValue) (valid : IsValid p) (typed : IsTyped p.ops) (docs : Documents) where
  -- all bindings of each of the operators below a number have one length
  length_under : (k n : ℕ) → n < k → n < length p.ops → (m : ℕ) × HaveLength m (events docs p.ops n)
  length_under zero n h b = absurd (omega (arith, h))
  length_under (suc k) n h b =
      let r = shape_length docs (front p.ops) (shape_at p.ops n) (events docs p.ops)
      (λ i a. (let s = smaller p valid typed i n b a in length_under k i (omega (arith, s, h)) (omega (arith, s, b)))) in
      (r.0, subst (HaveLength r.0) (sym (events-of docs p.ops n (op_at p.ops n) refl (typed.inputs n b))) r.1)

  -- all bindings of an operator have one length
  pub one_length : (n : ℕ) → n < length p.ops → (m : ℕ) × HaveLength m (events docs p.ops n)
  one_length n b = length_under (suc n) n (omega arith) b
