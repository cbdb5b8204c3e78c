-- The events of each operator of a valid plan are as is known of it.
use Rattle.std.proofs.Common.{◌≡◌, inl, inr, ℕ, zero, suc, ◌<◌, ◌≤◌, List, [], refl, sym, ap, subst, ◌∙◌, arith, length, take}
use Rattle.std.specs.Prelude.{Option, Some, None}
use Rattle.std.specs.List.{AllByRecursion}
use Rattle.mix_base.specs.Ascents.{Among}
use Rattle.mix_base.proofs.Ascents.{each_among}
use Rattle.mix_tree.specs.Comparisons.{passes}
use Rattle.mix_tree.specs.Nodes.{Documents}
use Rattle.mix_tree.specs.declared.var.Key.{Key}
use Rattle.plan_core.specs.declared.plan.Piece.{Piece}
use Rattle.plan_core.specs.Beside.{AreBeside}
use Rattle.plan_core.specs.ByNumber.{op_at}
use Rattle.plan_core.specs.Events.{RowEvents, shape_events, stage_events, events}
use Rattle.plan_core.specs.Fronts.{Front, node_keys, are_contiguous, shape_front, stage_front, front}
use Rattle.plan_core.specs.Plans.{Operator, source, get_descendants, join, over, tuple_destroy, PlanValue}
use Rattle.plan_core.specs.Shapes.{Stage, filters, extends, first_by_keys, one_group, in_order, Shape, one_source, visits_below, pairs_up, passes_on, no_events, stage_of, shape_at}
use Rattle.plan_core.specs.TolledRows.{row_node}
use Rattle.plan_core.specs.Typed.{IsTyped}
use Rattle.plan_core.specs.Valid.{Kinds, AreNodes, IsStageFit, IsShapeFit, stage_kinds, shape_kinds, shape_inputs, shape_outs, inputs_of, kinds, IsValid}
use Rattle.plan_core.proofs.Fresh.{out_fresh, sides_fresh}
use Rattle.plan_core.proofs.FrontSteps.{AreFronted, source_fronted, visits_fronted, filtered_fronted, extended_fronted, grouped_fronted, ordered_fronted, kept_fronted, pairs_fronted}
use Rattle.plan_core.proofs.Numbers.{ReadsInputs, by_number-of, events-of, front-of, kinds-of}
use Rattle.browse_profile.specs.Bounds.{Within}
use Rattle.browse_profile.specs.Profiles.{costless}
use Rattle.browse_visit.specs.Layouts.{Layout, AreLaid}
use Rattle.browse_class.specs.Bound.{AreAsKnown}
use Rattle.browse_class.specs.Facts.{Facts, no_facts, stage_facts, pairs_facts, shape_facts, op_facts, facts}
use Rattle.browse_class.proofs.ShapeSteps.{source_step, visits_step, pairs_step}
use Rattle.browse_class.proofs.StageSteps.{IsStageWithin, IsStageFresh, stage_step, leveled_none}

-- the list of a new element stays within a number
abbrev pub IsShapeWithin : Option ℕ → Shape → (ℕ → Facts) → Type 0
IsShapeWithin most (one_source s out) of = Unit {0}
IsShapeWithin most (visits_below input start path out) of = Unit {0}
IsShapeWithin most (pairs_up left right tests) of = Unit {0}
IsShapeWithin most (passes_on input stage) of = IsStageWithin most stage (of input)
IsShapeWithin most (no_events input made) of = Unit {0}

-- the facts of an operator read of other facts only those of its inputs
pub op_facts-reads : (shapes : ℕ → Layout) (ks : ℕ → Kinds) (frs : ℕ → Front) → ReadsInputs (op_facts shapes ks frs)
op_facts-reads shapes ks frs (source s out) a b h = refl
op_facts-reads shapes ks frs (get_descendants input start path out) a b h = ap (λ (f : Facts). op_facts shapes ks frs (get_descendants input start path out) (λ i. f)) h.0
op_facts-reads shapes ks frs (join left right tests) a b h =
    ap (λ (f : Facts). pairs_facts tests (ks left) (frs left) f (a right)) h.0 ∙ ap (λ (f : Facts). pairs_facts tests (ks left) (frs left) (b left) f) h.1.0
op_facts-reads shapes ks frs (over input op) a b h = ap (stage_facts (stage_of op) (ks input) (frs input).vars) h.0
op_facts-reads shapes ks frs (tuple_destroy input made) a b h = refl

-- what is known of an operator, from what is known of its inputs
pub facts-of : (shapes : ℕ → Layout) (ops : List Operator) (n : ℕ) (op : Operator) → op_at ops n ≡ op → AllByRecursion (λ i. i < n) (inputs_of op)
    → facts shapes ops n ≡ op_facts shapes (kinds ops) (front ops) op (facts shapes ops)
unfolding facts
facts-of shapes ops n op e h = by_number-of (op_facts shapes (kinds ops) (front ops)) no_facts ops n op (op_facts-reads shapes (kinds ops) (front ops)) e h

-- the keys of first bindings are of nodes
fit_nodes : (keys : List Key) (group : Option (Piece × ℕ)) (kinds : Kinds) → IsStageFit kinds (first_by_keys keys group) → AreNodes keys kinds
fit_nodes keys None kinds h = h
fit_nodes keys (Some g) kinds h = h.0

module _ (shapes : ℕ → Layout) (docs : Documents) (laid : AreLaid shapes docs) (most : Option ℕ) (one : Within 1 most) (p : PlanValue) (valid : IsValid p) (typed : IsTyped p.ops)
    (within : (n : ℕ) → n < length p.ops → IsShapeWithin most (shape_at p.ops n) (facts shapes p.ops)) where
  -- events have a front and are as is known
  abbrev Holds : Kinds → Front → Facts → RowEvents → Type 0
  Holds ks fr f es = AreFronted docs ks fr es × AreAsKnown docs most ks fr.vars f es

  -- operator n's events have its front and are as its facts say
  abbrev Known : ℕ → Type 0
  Known n = Holds (kinds p.ops n) (front p.ops n) (facts shapes p.ops n) (events docs p.ops n)

  -- what an operator binds anew is bound by none of its inputs
  anew : (n : ℕ) → n < length p.ops → (f : Shape) → shape_at p.ops n ≡ f → (i v : ℕ) → Among i (shape_inputs f) → Among v (shape_outs f) → kinds p.ops i v ≡ None
  anew n b f e i v x y =
      out_fresh p valid typed n i v b (subst (λ (g : Shape). Among i (shape_inputs g)) (sym e) x) (subst (λ (g : Shape). Among v (shape_outs g)) (sym e) y)

  -- what a stage of the plan binds anew is not bound before it
  stage_anew : (n : ℕ) → n < length p.ops → (i : ℕ) (stage : Stage) → shape_at p.ops n ≡ passes_on i stage → IsStageFresh stage (kinds p.ops i)
  stage_anew n b i (filters test) e = tt
  stage_anew n b i (extends out made) e = anew n b (passes_on i (extends out made)) e i out (inl refl) (inl refl)
  stage_anew n b i (first_by_keys keys None) e = tt
  stage_anew n b i (first_by_keys keys (Some group)) e = anew n b (passes_on i (first_by_keys keys (Some group))) e i group.1 (inl refl) (inl refl)
  stage_anew n b i (one_group piece out) e = tt
  stage_anew n b i (in_order v desc) e = tt

  -- the events of a stage have its front, where those of its input have theirs
  stage_fronted : (n : ℕ) → n < length p.ops → (i : ℕ) (stage : Stage) → shape_at p.ops n ≡ passes_on i stage → IsStageFit (kinds p.ops i) stage
      → AreFronted docs (kinds p.ops i) (front p.ops i) (events docs p.ops i)
      → AreFronted docs (stage_kinds stage (kinds p.ops i)) (stage_front stage (front p.ops i)) (stage_events docs (front p.ops i).vars stage (events docs p.ops i))
  stage_fronted n b i (filters test) e fit h = filtered_fronted docs (kinds p.ops i) (front p.ops i) (events docs p.ops i) h (λ row. passes docs test (row_node row))
  stage_fronted n b i (extends out made) e fit h = extended_fronted docs (kinds p.ops i) (front p.ops i) (events docs p.ops i) h out made (stage_anew n b i (extends out made) e)
  stage_fronted n b i (first_by_keys keys None) e fit h =
      kept_fronted docs (kinds p.ops i) (front p.ops i) (events docs p.ops i) h keys (fit_nodes keys None (kinds p.ops i) fit) (are_contiguous keys (front p.ops i).vars) None tt
  stage_fronted n b i (first_by_keys keys (Some group)) e fit h =
      kept_fronted docs (kinds p.ops i) (front p.ops i) (events docs p.ops i) h keys (fit_nodes keys (Some group) (kinds p.ops i) fit) (are_contiguous keys (front p.ops i).vars) (Some group)
      (stage_anew n b i (first_by_keys keys (Some group)) e)
  stage_fronted n b i (one_group piece out) e fit h = grouped_fronted docs (kinds p.ops i) (front p.ops i) (events docs p.ops i) h piece out
  stage_fronted n b i (in_order v desc) e fit h = ordered_fronted docs (kinds p.ops i) (front p.ops i) (events docs p.ops i) h v desc

  -- a shape's events have its front and are as its facts say, where its inputs' do
  shape_known : (n : ℕ) → n < length p.ops → (f : Shape) → shape_at p.ops n ≡ f → IsShapeFit f (kinds p.ops) → IsShapeWithin most f (facts shapes p.ops) → ((i : ℕ) → Among i (shape_inputs f) → Known i)
      → Holds (shape_kinds f (kinds p.ops)) (shape_front f (front p.ops)) (shape_facts shapes (kinds p.ops) (front p.ops) f (facts shapes p.ops)) (shape_events docs (front p.ops) f (events docs p.ops))
  shape_known n b (one_source s out) e fit w h = (source_fronted docs s out, source_step shapes docs laid most s out)
  shape_known n b (visits_below i start path out) e fit w h =
      let new = anew n b (visits_below i start path out) e i out (inl refl) (inl refl) in
      let k = h i (inl refl) in (
        visits_fronted docs (kinds p.ops i) (front p.ops i) (events docs p.ops i) k.0 start path out new,
        visits_step docs most (kinds p.ops i) (front p.ops i) (facts shapes p.ops i) (events docs p.ops i) k.0 k.1 start path out fit.0 new,
      )
  shape_known n b (pairs_up l r tests) e fit w h =
      let kl = h l (inl refl) in
      let kr = h r (inr (inl refl)) in (
        pairs_fronted docs (kinds p.ops l) (kinds p.ops r) (front p.ops l) (front p.ops r) (events docs p.ops l) (events docs p.ops r) kl.0 kr.0
            (λ v k x. sides_fresh p valid typed n l r v k b (ap shape_inputs e) x) tests,
        pairs_step docs most (kinds p.ops l) (kinds p.ops r) (front p.ops l) (front p.ops r) (facts shapes p.ops l) (facts shapes p.ops r) (events docs p.ops l) (events docs p.ops r) kl.0 kr.0 kl.1 kr.1
            (λ v k x. sides_fresh p valid typed n l r v k b (ap shape_inputs e) x) tests,
      )
  shape_known n b (passes_on i stage) e fit w h =
      let k = h i (inl refl) in (
        stage_fronted n b i stage e fit k.0,
        stage_step docs most one (kinds p.ops i) (front p.ops i) (facts shapes p.ops i) (events docs p.ops i) k.0 k.1 stage fit (stage_anew n b i stage e) w,
      )
  shape_known n b (no_events i made) e fit w h = (
    record { bound = tt; nodes = λ v t. cc; front = record { beside = none; whole = λ t. tt } },
    record { fits = ((omega arith, refl), omega arith); bound = tt; apart = tt; nodes = λ v t. cc; leveled = leveled_none docs costless [] ((omega arith, refl), omega arith) },
  )
    where
      none : (j : ℕ) → j ≤ 0 → AreBeside docs (node_keys (take j [])) []
      none j l = tt

  -- each operator below a number has the front that is known, and its events are as its facts say
  known_below : (k n : ℕ) → n < k → n < length p.ops → Known n
  known_below zero n h b = absurd (omega (arith, h))
  known_below (suc k) n h b =
      let at : Shape = shape_at p.ops n in
      let inputs = typed.inputs n b in
      let is = shape_known n b at refl (typed.fit n b) (within n b) (λ i a. (let s = input_smaller i a in known_below k i (omega (arith, s, h)) (omega (arith, s, b)))) in
      subst (λ (ks : Kinds). Holds ks (front p.ops n) (facts shapes p.ops n) (events docs p.ops n)) (sym (kinds-of p.ops n (op_at p.ops n) refl inputs))
      (subst (λ (fr : Front). Holds (shape_kinds at (kinds p.ops)) fr (facts shapes p.ops n) (events docs p.ops n)) (sym (front-of p.ops n (op_at p.ops n) refl inputs))
      (subst (λ (f : Facts). Holds (shape_kinds at (kinds p.ops)) (shape_front at (front p.ops)) f (events docs p.ops n)) (sym (facts-of shapes p.ops n (op_at p.ops n) refl inputs))
      (subst (Holds (shape_kinds at (kinds p.ops)) (shape_front at (front p.ops)) (shape_facts shapes (kinds p.ops) (front p.ops) at (facts shapes p.ops)))
      (sym (events-of docs p.ops n (op_at p.ops n) refl inputs)) is)))
    where
      input_smaller : (i : ℕ) → Among i (shape_inputs (shape_at p.ops n)) → i < n
      input_smaller i a = each_among (λ i. i < n) (shape_inputs (shape_at p.ops n)) (typed.inputs n b) i a

  -- each operator's events are as is known of it
  pub events_as_known : (n : ℕ) → n < length p.ops → AreAsKnown docs most (kinds p.ops n) (front p.ops n).vars (facts shapes p.ops n) (events docs p.ops n)
  events_as_known n b = (known_below (suc n) n (omega arith) b).1
