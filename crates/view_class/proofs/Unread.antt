-- How sources are laid out that no operator reads doesn't matter.
use Rattle.std.proofs.Common.{◌≡◌, ◌∙◌, ◌+◌, ◌<◌, ◌≤◌, ◌==◌, ℕ, zero, suc, true, cond, List, [], ◌∷◌, refl, ap, arith, length, eq-eqb}
use Rattle.std.specs.List.{AllByRecursion, list_any}
use Rattle.std.proofs.lemmas.Bool.{or_left, or_right}
use Rattle.std.proofs.Math.Path.{fun_ext}
use Rattle.browse_profile.specs.Bounds.{larger}
use Rattle.browse_class.specs.Classes.{all_bounds, class_by, op_bound, shape_bound, sorts_any, stage_bound}
use Rattle.browse_class.specs.declared.class.Class.TheVariants.{Unbrowsable}
use Rattle.browse_class.specs.Facts.{Facts, facts, no_facts, op_facts, shape_facts, source_facts}
use Rattle.browse_visit.specs.Layouts.{Layout}
use Rattle.plan_core.specs.ByNumber.{below_op, by_number, op_at}
use Rattle.plan_core.specs.Fronts.{Front, front}
use Rattle.plan_core.specs.Plans.{Operator}
use Rattle.plan_core.specs.Shapes.{Shape, one_source, visits_below, pairs_up, passes_on, no_events, shape_of}
use Rattle.plan_core.specs.Valid.{HaveSmallerInputs, Kinds, inputs_of, kinds, shape_inputs}
use Rattle.view_class.specs.Reads.{UnreadDontMatter, op_reads, reads_source, shape_reads}

-- an operator of a list that reads a source makes the list read it
at_reads : (ops : List Operator) (n : ℕ) → n < length ops → (s : ℕ) → op_reads s (op_at ops n) ≡ true → reads_source ops s ≡ true
at_reads [] n h s e = absurd (omega (arith, h))
at_reads (op ∷ ops) zero h s e = or_left (op_reads s op) (list_any (op_reads s) ops) e
at_reads (op ∷ ops) (suc n) h s e = or_right (op_reads s op) (list_any (op_reads s) ops) (at_reads ops n (omega (arith, h)) s e)

module _ (a b : ℕ → Layout) (kinds_of : ℕ → Kinds) (fronts : ℕ → Front) where
  -- what is known of a shape is the same where the source that it reads is laid out alike
  shape_same : (f : Shape) → ((s : ℕ) → shape_reads s f ≡ true → a s ≡ b s) → (of : ℕ → Facts) → shape_facts a kinds_of fronts f of ≡ shape_facts b kinds_of fronts f of
  shape_same (one_source s out) h of = ap (λ (g : Layout). source_facts g out) (h s (eq-eqb s s refl))
  shape_same (visits_below input start path out) h of = refl
  shape_same (pairs_up left right tests) h of = refl
  shape_same (passes_on input stage) h of = refl
  shape_same (no_events input made) h of = refl

  module _ (ops : List Operator) (same : (s : ℕ) → reads_source ops s ≡ true → a s ≡ b s) where
    -- what is known of an operator, from what is known of others, is the same where the sources that it reads are laid out alike
    at_same : (n : ℕ) → n < length ops → (of : ℕ → Facts) → op_facts a kinds_of fronts (op_at ops n) of ≡ op_facts b kinds_of fronts (op_at ops n) of
    at_same n h of = shape_same (shape_of (op_at ops n)) (λ s e. same s (at_reads ops n h s e)) of

    -- what is known of the operators below a number is the same where the sources that they read are laid out alike
    below_same : (n : ℕ) → n ≤ length ops → (j : ℕ) → below_op (op_facts a kinds_of fronts) no_facts ops n j ≡ below_op (op_facts b kinds_of fronts) no_facts ops n j
    unfolding below_op
    below_same zero h j = refl
    below_same (suc n) h j =
        let F : Operator → (ℕ → Facts) → Facts = op_facts a kinds_of fronts in
        let G : Operator → (ℕ → Facts) → Facts = op_facts b kinds_of fronts in
        let low : n ≤ length ops = omega (arith, h) in
        let less : n < length ops = omega (arith, h) in
        let before : below_op F no_facts ops n ≡ below_op G no_facts ops n = fun_ext (below_same n low) in
        let here : F (op_at ops n) (below_op F no_facts ops n) ≡ G (op_at ops n) (below_op G no_facts ops n) =
        ap (F (op_at ops n)) before ∙ at_same n less (below_op G no_facts ops n) in
        ap (λ (x : Facts). cond (j == n) x (below_op F no_facts ops n j)) here
        ∙ ap (λ (x : Facts). cond (j == n) (G (op_at ops n) (below_op G no_facts ops n)) x) (below_same n low j)

    -- what is known of the operator of a number is the same where the sources that the plan reads are laid out alike
    number_same : (n : ℕ) → n < length ops → by_number (op_facts a kinds_of fronts) no_facts ops n ≡ by_number (op_facts b kinds_of fronts) no_facts ops n
    number_same n h =
        let before = fun_ext (below_same n (omega (arith, h))) in
        ap (op_facts a kinds_of fronts (op_at ops n)) before ∙ at_same n h (below_op (op_facts b kinds_of fronts) no_facts ops n)

-- the greatest number of a shape's list is the same where its inputs have the same facts
bound_same : (f : Shape) (of to : ℕ → Facts) → AllByRecursion (λ i. of i ≡ to i) (shape_inputs f) → shape_bound f of ≡ shape_bound f to
bound_same (one_source s out) of to h = refl
bound_same (visits_below input start path out) of to h = refl
bound_same (pairs_up left right tests) of to h = refl
bound_same (passes_on input stage) of to h = ap (stage_bound stage) h.0
bound_same (no_events input made) of to h = refl

-- numbers below one bound have the same facts
inputs_same : (is : List ℕ) (n count : ℕ) (of to : ℕ → Facts) → n ≤ count → ((i : ℕ) → i < count → of i ≡ to i) → AllByRecursion (λ i. i < n) is → AllByRecursion (λ i. of i ≡ to i) is
inputs_same [] n count of to less h k = tt
inputs_same (i ∷ is) n count of to less h k = let first = k.0 in (h i (omega (arith, less, first)), inputs_same is n count of to less h k.1)

-- the greatest numbers of operators are the same where all operators have the same facts
bounds_same : (ops : List Operator) (n count : ℕ) (of to : ℕ → Facts) → n + length ops ≤ count → ((i : ℕ) → i < count → of i ≡ to i) → HaveSmallerInputs n ops → all_bounds ops of ≡ all_bounds ops to
bounds_same [] n count of to less h k = refl
bounds_same (op ∷ ops) n count of to less h k =
    let below : n ≤ count = omega (arith, less) in
    ap (λ m. larger m (all_bounds ops of)) (bound_same (shape_of op) of to (inputs_same (inputs_of op) n count of to below h k.0))
    ∙ ap (larger (op_bound op to)) (bounds_same ops (suc n) count of to (omega (arith, less)) h k.1)

-- how a source is laid out that no operator of a valid plan reads doesn't matter to the plan's class
pub unread_dont_matter : UnreadDontMatter
unfolding facts
unread_dont_matter a b p valid same =
    let ops : List Operator = p.ops in
    let are = number_same a b (kinds ops) (front ops) ops same in
    ap (λ m. cond (sorts_any ops) Unbrowsable (class_by m)) (bounds_same ops 0 (length ops) (facts a ops) (facts b ops) (omega arith) are valid.smaller)
