-- The events of each operator of a valid plan have its front.
use Rattle.std.proofs.Common.{◌≡◌, inl, inr, ℕ, zero, suc, ◌<◌, ◌≤◌, true, false, List, [], ◌∷◌, refl, sym, ap, subst, ◌∙◌, arith, length, take}
use Rattle.std.specs.Prelude.{Bool, Option, Some, None}
use Rattle.std.specs.List.{AllByRecursion}
use Rattle.std.proofs.lemmas.Bool.{cases_lt, and_parts}
use Rattle.std.proofs.lemmas.List.{get_or_past}
use Rattle.mix_base.specs.Ascents.{Among}
use Rattle.mix_base.specs.Events.{skip, bind}
use Rattle.mix_tree.specs.Comparisons.{passes}
use Rattle.mix_tree.specs.Nodes.{Documents}
use Rattle.mix_tree.specs.declared.var.Key.{Key}
use Rattle.plan_core.specs.declared.plan.Piece.{Piece}
use Rattle.plan_core.specs.Beside.{Differ, AreApart, StandsFirst, AreBeside, AreContiguous, HaveFront, FrontsAreOfEvents, ArePassed, ApartArePassed}
use Rattle.plan_core.specs.ByNumber.{op_at}
use Rattle.plan_core.specs.Events.{RowEvents, shape_events, events}
use Rattle.plan_core.specs.Fronts.{Front, node_keys, shared, covers, are_contiguous, apart_over, shape_front, front}
use Rattle.plan_core.specs.Plans.{source, PlanValue}
use Rattle.plan_core.specs.Shapes.{Stage, filters, extends, first_by_keys, one_group, in_order, Shape, one_source, visits_below, pairs_up, passes_on, no_events, shape_at}
use Rattle.plan_core.specs.TolledRows.{TolledRow, key_values, same_values, row_node, tolled_restrict}
use Rattle.plan_core.specs.Typed.{IsTyped}
use Rattle.plan_core.specs.Valid.{Kinds, AreNodes, IsStageFit, IsShapeFit, shape_kinds, shape_inputs, shape_outs, kinds, IsValid}
use Rattle.plan_core.proofs.Aparts.{covered_apart, distinct_apart}
use Rattle.plan_core.proofs.Bindings.{binding_weaker, each_binding}
use Rattle.plan_core.proofs.Fresh.{out_fresh, sides_fresh}
use Rattle.plan_core.proofs.FrontSteps.{AreFronted, source_fronted, visits_fronted, filtered_fronted, extended_fronted, grouped_fronted, ordered_fronted, kept_fronted, pairs_fronted}
use Rattle.plan_core.proofs.KeyValues.{covered_same, covers_shared, shared_front, take_prefix, length_front, take_length}
use Rattle.plan_core.proofs.Numbers.{events-of, events-source, front-of, kinds-of}
use Rattle.plan_core.proofs.Typed.{valid_is_typed}

-- the keys of first bindings are of nodes
fit_nodes : (keys : List Key) (group : Option (Piece × ℕ)) (kinds : Kinds) → IsStageFit kinds (first_by_keys keys group) → AreNodes keys kinds
fit_nodes keys None kinds h = h
fit_nodes keys (Some g) kinds h = h.0

module _ (p : PlanValue) (valid : IsValid p) (docs : Documents) where
  -- each operator of the valid plan has smaller inputs, and is fit
  typed : IsTyped p.ops
  typed = valid_is_typed p valid

  -- the bindings of operator n have the variables that have kinds, and its events have its front
  abbrev Known : ℕ → Type 0
  Known n = AreFronted docs (kinds p.ops n) (front p.ops n) (events docs p.ops n)

  -- what an operator binds anew is bound by none of its inputs
  anew : (n : ℕ) → n < length p.ops → (f : Shape) → shape_at p.ops n ≡ f → (i v : ℕ) → Among i (shape_inputs f) → Among v (shape_outs f) → kinds p.ops i v ≡ None
  anew n b f e i v x y =
      out_fresh p valid typed n i v b (subst (λ (g : Shape). Among i (shape_inputs g)) (sym e) x) (subst (λ (g : Shape). Among v (shape_outs g)) (sym e) y)

  -- the events of an operator that puts a stage over its input have its variables and its front where those of the input have theirs
  stage_known : (n : ℕ) → n < length p.ops → (i : ℕ) (stage : Stage) → shape_at p.ops n ≡ passes_on i stage → IsStageFit (kinds p.ops i) stage → Known i
      → AreFronted docs (shape_kinds (passes_on i stage) (kinds p.ops)) (shape_front (passes_on i stage) (front p.ops)) (shape_events docs (front p.ops) (passes_on i stage) (events docs p.ops))
  stage_known n b i (filters test) e fit h = filtered_fronted docs (kinds p.ops i) (front p.ops i) (events docs p.ops i) h (λ row. passes docs test (row_node row))
  stage_known n b i (extends out made) e fit h = extended_fronted docs (kinds p.ops i) (front p.ops i) (events docs p.ops i) h out made (anew n b (passes_on i (extends out made)) e i out (inl refl) (inl refl))
  stage_known n b i (first_by_keys keys None) e fit h =
      kept_fronted docs (kinds p.ops i) (front p.ops i) (events docs p.ops i) h keys (fit_nodes keys None (kinds p.ops i) fit) (are_contiguous keys (front p.ops i).vars) None tt
  stage_known n b i (first_by_keys keys (Some group)) e fit h =
      kept_fronted docs (kinds p.ops i) (front p.ops i) (events docs p.ops i) h keys (fit_nodes keys (Some group) (kinds p.ops i) fit) (are_contiguous keys (front p.ops i).vars) (Some group)
      (anew n b (passes_on i (first_by_keys keys (Some group))) e i group.1 (inl refl) (inl refl))
  stage_known n b i (one_group piece out) e fit h = grouped_fronted docs (kinds p.ops i) (front p.ops i) (events docs p.ops i) h piece out
  stage_known n b i (in_order v desc) e fit h = ordered_fronted docs (kinds p.ops i) (front p.ops i) (events docs p.ops i) h v desc

  -- the events of an operator of any shape have its variables and its front where those of its inputs have theirs
  shape_known : (n : ℕ) → n < length p.ops → (f : Shape) → shape_at p.ops n ≡ f → IsShapeFit f (kinds p.ops) → ((i : ℕ) → Among i (shape_inputs f) → Known i)
      → AreFronted docs (shape_kinds f (kinds p.ops)) (shape_front f (front p.ops)) (shape_events docs (front p.ops) f (events docs p.ops))
  shape_known n b (one_source s out) e fit h = source_fronted docs s out
  shape_known n b (visits_below i start path out) e fit h =
      visits_fronted docs (kinds p.ops i) (front p.ops i) (events docs p.ops i) (h i (inl refl)) start path out (anew n b (visits_below i start path out) e i out (inl refl) (inl refl))
  shape_known n b (pairs_up l r tests) e fit h =
      pairs_fronted docs (kinds p.ops l) (kinds p.ops r) (front p.ops l) (front p.ops r) (events docs p.ops l) (events docs p.ops r) (h l (inl refl)) (h r (inr (inl refl)))
      (λ v k x. sides_fresh p valid typed n l r v k b (ap shape_inputs e) x) tests
  shape_known n b (passes_on i stage) e fit h = stage_known n b i stage e fit (h i (inl refl))
  shape_known n b (no_events i made) e fit h = record { bound = tt; nodes = λ v t. cc; front = record { beside = none; whole = λ t. tt } }
    where
      none : (j : ℕ) → j ≤ 0 → AreBeside docs (node_keys (take j [])) []
      none j l = tt

  -- the events of each operator below a number have its variables and its front
  known_below : (k n : ℕ) → n < k → n < length p.ops → Known n
  known_below zero n h b = absurd (omega (arith, h))
  known_below (suc k) n h b =
      let at : Shape = shape_at p.ops n in
      let inputs = typed.inputs n b in
      let is = shape_known n b at refl (typed.fit n b) (λ i a. (let s = input_smaller i a in known_below k i (omega (arith, s, h)) (omega (arith, s, b)))) in
      subst (λ (ks : Kinds). AreFronted docs ks (front p.ops n) (events docs p.ops n)) (sym (kinds-of p.ops n (op_at p.ops n) refl inputs))
      (subst (λ (f : Front). AreFronted docs (shape_kinds at (kinds p.ops)) f (events docs p.ops n)) (sym (front-of p.ops n (op_at p.ops n) refl inputs))
      (subst (AreFronted docs (shape_kinds at (kinds p.ops)) (shape_front at (front p.ops))) (sym (events-of docs p.ops n (op_at p.ops n) refl inputs)) is))
    where
      input_smaller : (i : ℕ) → Among i (shape_inputs (shape_at p.ops n)) → i < n
      input_smaller i a = Rattle.mix_base.proofs.Ascents.each_among (λ i. i < n) (shape_inputs (shape_at p.ops n)) (typed.inputs n b) i a

  -- the events of each operator have its front
  pub events_front : (n : ℕ) → n < length p.ops → HaveFront docs (front p.ops n) (events docs p.ops n)
  events_front n b = (known_below (suc n) n (omega arith) b).front

-- CONTIGUOUS KEYS

-- keys by which the same bindings agree
module _ (docs : Documents) (keys others : List Key) (same : (a b : TolledRow) → same_values (key_values docs keys a) (key_values docs keys b) ≡ same_values (key_values docs others a) (key_values docs others b)) where
  -- where bindings that agree with one by the keys come first after it, so do those that agree by the others
  stands_alike : (row : TolledRow) (es : RowEvents) → StandsFirst docs keys row es → StandsFirst docs others row es
  stands_alike row [] h = tt
  stands_alike row (skip ∷ es) h = stands_alike row es h
  stands_alike row (bind b ∷ es) (inl h) = inl (sym (same row b) ∙ h.0, stands_alike row es h.1)
  stands_alike row (bind b ∷ es) (inr h) = inr (sym (same row b) ∙ h.0, binding_weaker (Differ docs keys row) (Differ docs others row) (λ c d. sym (same row c) ∙ d) es h.1)

  -- where bindings that agree by the keys stand side by side, so do those that agree by the others
  pub beside_alike : (es : RowEvents) → AreBeside docs keys es → AreBeside docs others es
  beside_alike [] h = tt
  beside_alike (skip ∷ es) h = beside_alike es h
  beside_alike (bind row ∷ es) h = (stands_alike row es h.0, beside_alike es h.1)

-- what holds both ways is one
both_ways : (a b : Bool) → (a ≡ true → b ≡ true) → (b ≡ true → a ≡ true) → a ≡ b
both_ways true b h k = sym (h refl)
both_ways false true h k = k refl
both_ways false false h k = refl

-- over a front, bindings that agree by contiguous keys stand side by side
front_contiguous : (docs : Documents) (f : Front) (es : RowEvents) → HaveFront docs f es → AreContiguous docs f.vars es
front_contiguous docs f es h keys c =
    let vs : List ℕ = shared keys f.vars in
    let s = shared_front keys f.vars in
    let l : length vs ≤ length f.vars = subst (λ (z : List ℕ). length vs ≤ length z) s.1 (length_front vs s.0) in
    let e : take (length vs) f.vars ≡ vs = subst (λ (z : List ℕ). take (length vs) z ≡ take (length vs) vs) s.1 (take_prefix (length vs) vs s.0 (omega arith)) ∙ take_length vs in
    let own : covers keys (node_keys vs) ≡ true = subst (λ (z : List ℕ). covers keys (node_keys z) ≡ true) (take_length vs) (covers_shared keys f.vars (length vs)) in
    beside_alike docs (node_keys vs) keys
    (λ a b.
    both_ways (same_values (key_values docs (node_keys vs) a) (key_values docs (node_keys vs) b)) (same_values (key_values docs keys a) (key_values docs keys b))
    (covered_same docs (node_keys vs) keys (row_node a) (row_node b) c) (covered_same docs keys (node_keys vs) (row_node a) (row_node b) own)) es
    (subst (λ (z : List ℕ). AreBeside docs (node_keys z) es) e (h.beside (length vs) l))

-- over each operator of a valid plan, bindings that agree by contiguous keys stand side by side; past the last one there is one binding
pub events_contiguous : (p : PlanValue) → IsValid p → (docs : Documents) (i : ℕ) → AreContiguous docs (front p.ops i).vars (events docs p.ops i)
events_contiguous p valid docs i = elim (cases_lt i (length p.ops)) [
  | inl b ↦ front_contiguous docs (front p.ops i) (events docs p.ops i) (events_front p valid docs i b)
  | inr b ↦ λ keys c. subst (AreBeside docs keys) (sym (events-source docs p.ops i 0 0 (get_or_past p.ops i (source 0 0) b))) (tt, tt)
]

-- the events of each operator of a valid plan have its front
pub fronts_are_of_events : FrontsAreOfEvents
fronts_are_of_events p valid docs n h = events_front p valid docs n h

-- KEYS BY WHICH NO TWO AGREE

module _ (p : PlanValue) (valid : IsValid p) (docs : Documents) (n i : ℕ) (keys : List Key) (b : n < length p.ops) (is : shape_at p.ops n ≡ passes_on i (first_by_keys keys None))
    (apart : apart_over p.ops i keys ≡ true) where
  -- the inputs of the project's shape stand before it
  own : AllByRecursion (λ j. j < n) (shape_inputs (shape_at p.ops n))
  own = (valid_is_typed p valid).inputs n b

  -- the input stands before its operator
  before : i < n
  before = (subst (λ (f : Shape). AllByRecursion (λ j. j < n) (shape_inputs f)) is own).0

  -- no two bindings of the input agree
  input_apart : AreApart docs keys (events docs p.ops i)
  input_apart =
      let e = and_parts (front p.ops i).whole (covers keys (node_keys (front p.ops i).vars)) apart in
      covered_apart docs keys (node_keys (front p.ops i).vars) e.1 (events docs p.ops i) ((events_front p valid docs i (omega (arith, before, b))).whole e.0)

  -- the project passes on each binding of its input
  pub are_passed : ArePassed docs p.ops n i keys
  are_passed = record {
    apart = input_apart;
    events_are =
        events-of docs p.ops n (op_at p.ops n) refl own ∙ ap (λ (f : Shape). shape_events docs (front p.ops) f (events docs p.ops)) is
        ∙ distinct_apart docs keys (tolled_restrict keys) [] (events docs p.ops i) (each_binding (λ c. false ≡ false) (λ c. refl) (events docs p.ops i)) input_apart;
  }

-- each project of a valid plan over bindings of which no two agree by its keys passes on each of them
pub apart_are_passed : ApartArePassed
apart_are_passed p valid docs n i keys b is apart = are_passed p valid docs n i keys b is apart
