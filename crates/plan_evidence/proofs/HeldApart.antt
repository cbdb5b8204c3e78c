-- No two bindings of an operator of a valid plan agree by the keys that it holds.
use Rattle.std.proofs.Common.{◌≡◌, inl, inr, ℕ, zero, suc, ◌<◌, List, [], ◌++◌, refl, sym, ap, subst, ◌∙◌, arith, length}
use Rattle.std.specs.Prelude.{Option, Some, None}
use Rattle.std.specs.List.{AllByRecursion}
use Rattle.mix_base.specs.Ascents.{Among}
use Rattle.mix_base.proofs.Ascents.{each_among}
use Rattle.mix_tree.specs.Comparisons.{passes}
use Rattle.mix_tree.specs.Nodes.{Documents}
use Rattle.mix_tree.specs.declared.var.Key.{Key}
use Rattle.plan_core.specs.declared.plan.Piece.{Piece}
use Rattle.plan_core.specs.ByNumber.{op_at}
use Rattle.plan_core.specs.Events.{shape_events, events}
use Rattle.plan_core.specs.Fronts.{are_contiguous, front}
use Rattle.plan_core.specs.Plans.{Operator, source, get_descendants, join, over, tuple_destroy, PlanValue}
use Rattle.plan_core.specs.Shapes.{Stage, filters, extends, first_by_keys, one_group, in_order, Shape, one_source, visits_below, pairs_up, passes_on, no_events, shape_of, shape_at}
use Rattle.plan_core.specs.TolledRows.{row_node}
use Rattle.plan_core.specs.Typed.{IsTyped}
use Rattle.plan_core.specs.Valid.{Kinds, AreNodes, IsStageFit, IsShapeFit, shape_kinds, shape_inputs, shape_outs, inputs_of, kinds, IsValid}
use Rattle.plan_core.proofs.Fresh.{out_fresh, sides_fresh}
use Rattle.plan_core.proofs.Numbers.{ReadsInputs, by_number-of, events-of, kinds-of}
use Rattle.plan_core.proofs.Typed.{valid_is_typed}
use Rattle.plan_evidence.specs.Held.{shape_held, held}
use Rattle.plan_evidence.specs.Laws.{HeldKeysAreApart}
use Rattle.plan_evidence.proofs.HeldSteps.{AreHeld, source_held, visits_held, filtered_held, extended_held, grouped_held, ordered_held, kept_held, pairs_held}

-- the keys that an operator holds are told by those that its inputs hold
held-reads : ReadsInputs (λ op of. shape_held (shape_of op) of)
held-reads (source s out) a b h = refl
held-reads (get_descendants input start path out) a b h = ap (λ (k : List Key). shape_held (shape_of (get_descendants input start path out)) (λ i. k)) h.0
held-reads (join left right tests) a b h = ap (λ (k : List Key). k ++ a right) h.0 ∙ ap (λ (k : List Key). b left ++ k) h.1.0
held-reads (over input op) a b h = ap (λ (k : List Key). shape_held (shape_of (over input op)) (λ i. k)) h.0
held-reads (tuple_destroy input made) a b h = refl

-- the keys that an operator holds are those that its shape holds
pub held-of : (ops : List Operator) (n : ℕ) → AllByRecursion (λ i. i < n) (inputs_of (op_at ops n)) → held ops n ≡ shape_held (shape_at ops n) (held ops)
unfolding held
held-of ops n h = by_number-of (λ op of. shape_held (shape_of op) of) [] ops n (op_at ops n) held-reads refl h

-- the keys by which first bindings are taken are of nodes
fit_nodes : (keys : List Key) (group : Option (Piece × ℕ)) (kinds : Kinds) → IsStageFit kinds (first_by_keys keys group) → AreNodes keys kinds
fit_nodes keys None kinds h = h
fit_nodes keys (Some g) kinds h = h.0

-- what an operator of a valid plan binds anew is bound by none of its inputs
pub anew : (p : PlanValue) → IsValid p → (n : ℕ) → n < length p.ops → (f : Shape) → shape_at p.ops n ≡ f → (i v : ℕ) → Among i (shape_inputs f) → Among v (shape_outs f)
    → kinds p.ops i v ≡ None
anew p valid n b f e i v x y =
    out_fresh p valid (valid_is_typed p valid) n i v b (subst (λ (g : Shape). Among i (shape_inputs g)) (sym e) x) (subst (λ (g : Shape). Among v (shape_outs g)) (sym e) y)

module _ (p : PlanValue) (valid : IsValid p) (docs : Documents) where
  -- the plan's operators are typed
  typed : IsTyped p.ops
  typed = valid_is_typed p valid

  -- of an operator's events: which variables they bind, and that no two agree by the keys that it holds, which are of nodes
  abbrev Known : ℕ → Type 0
  Known n = AreHeld docs (kinds p.ops n) (held p.ops n) (events docs p.ops n)

  -- what is known of a stage's events, where it is of its input's
  stage_known : (n : ℕ) → n < length p.ops → (i : ℕ) (stage : Stage) → shape_at p.ops n ≡ passes_on i stage → IsStageFit (kinds p.ops i) stage → Known i
      → AreHeld docs (shape_kinds (passes_on i stage) (kinds p.ops)) (shape_held (passes_on i stage) (held p.ops)) (shape_events docs (front p.ops) (passes_on i stage) (events docs p.ops))
  stage_known n b i (filters test) e fit h = filtered_held docs (kinds p.ops i) (held p.ops i) (events docs p.ops i) h (λ row. passes docs test (row_node row))
  stage_known n b i (extends out made) e fit h = extended_held docs (kinds p.ops i) (held p.ops i) (events docs p.ops i) h out made (anew p valid n b (passes_on i (extends out made)) e i out (inl refl) (inl refl))
  stage_known n b i (first_by_keys keys None) e fit h =
      kept_held docs (kinds p.ops i) (held p.ops i) (events docs p.ops i) h keys (fit_nodes keys None (kinds p.ops i) fit) (are_contiguous keys (front p.ops i).vars) None tt
  stage_known n b i (first_by_keys keys (Some group)) e fit h =
      kept_held docs (kinds p.ops i) (held p.ops i) (events docs p.ops i) h keys (fit_nodes keys (Some group) (kinds p.ops i) fit) (are_contiguous keys (front p.ops i).vars) (Some group)
      (anew p valid n b (passes_on i (first_by_keys keys (Some group))) e i group.1 (inl refl) (inl refl))
  stage_known n b i (one_group piece out) e fit h = grouped_held docs (kinds p.ops i) (held p.ops i) (events docs p.ops i) h piece out
  stage_known n b i (in_order v desc) e fit h = ordered_held docs (kinds p.ops i) (held p.ops i) (events docs p.ops i) h v desc

  -- what is known of a shape's events, where it is of its inputs'
  shape_known : (n : ℕ) → n < length p.ops → (f : Shape) → shape_at p.ops n ≡ f → IsShapeFit f (kinds p.ops) → ((i : ℕ) → Among i (shape_inputs f) → Known i)
      → AreHeld docs (shape_kinds f (kinds p.ops)) (shape_held f (held p.ops)) (shape_events docs (front p.ops) f (events docs p.ops))
  shape_known n b (one_source s out) e fit h = source_held docs s out
  shape_known n b (visits_below i start path out) e fit h =
      visits_held docs (kinds p.ops i) (held p.ops i) (events docs p.ops i) (h i (inl refl)) start path out (anew p valid n b (visits_below i start path out) e i out (inl refl) (inl refl))
  shape_known n b (pairs_up l r tests) e fit h =
      pairs_held docs (kinds p.ops l) (kinds p.ops r) (held p.ops l) (held p.ops r) (events docs p.ops l) (events docs p.ops r) (h l (inl refl)) (h r (inr (inl refl)))
      (λ v k x. sides_fresh p valid typed n l r v k b (ap shape_inputs e) x) tests
  shape_known n b (passes_on i stage) e fit h = stage_known n b i stage e fit (h i (inl refl))
  shape_known n b (no_events i made) e fit h = record { bound = tt; nodes = λ v t. cc; apart = tt }

  -- what is known of the events of the operators below a number
  pub known_below : (k n : ℕ) → n < k → n < length p.ops → Known n
  known_below zero n h b = absurd (omega (arith, h))
  known_below (suc k) n h b =
      let at : Shape = shape_at p.ops n in
      let inputs = typed.inputs n b in
      let is = shape_known n b at refl (typed.fit n b) (λ i a. (let s = input_smaller i a in known_below k i (omega (arith, s, h)) (omega (arith, s, b)))) in
      subst (λ (ks : Kinds). AreHeld docs ks (held p.ops n) (events docs p.ops n)) (sym (kinds-of p.ops n (op_at p.ops n) refl inputs))
      (subst (λ (keys : List Key). AreHeld docs (shape_kinds at (kinds p.ops)) keys (events docs p.ops n)) (sym (held-of p.ops n inputs))
      (subst (AreHeld docs (shape_kinds at (kinds p.ops)) (shape_held at (held p.ops))) (sym (events-of docs p.ops n (op_at p.ops n) refl inputs)) is))
    where
      input_smaller : (i : ℕ) → Among i (shape_inputs (shape_at p.ops n)) → i < n
      input_smaller i a = each_among (λ i. i < n) (shape_inputs (shape_at p.ops n)) (typed.inputs n b) i a

-- no two bindings of an operator of a valid plan agree by the keys that it holds
pub held_apart : HeldKeysAreApart
held_apart p valid docs n b = (known_below p valid docs (suc n) n (omega arith) b).apart
