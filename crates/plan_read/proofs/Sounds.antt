-- Operators that are sound, one after another.
use Rattle.std.proofs.Common.{◌≡◌, ◌⊎◌, inl, inr, ◌<◌, ◌≤◌, ◌∙◌, ◌==◌, ◌||◌, ◌++◌, ℕ, suc, Bool, true, false, List, [], ◌∷◌, Some, None, refl, sym, ap, subst, arith, length, take, get_or}
use Rattle.std.specs.List.{AllByRecursion, count_by, flat_map, list_any}
use Rattle.std.proofs.lemmas.Bool.{ne_eqb, eqb-false}
use Rattle.std.proofs.lemmas.List.{flat_map_more, take_more, length-take-le}
use Rattle.std.proofs.lemmas.Bool.Decides.{nat_tests}
use Rattle.std.proofs.lemmas.List.Folds.{list_any-append}
use Rattle.mix_base.specs.Ascents.{Among}
use Rattle.mix_base.proofs.Ascents.{each_among}
use Rattle.mix_base.proofs.Firsts.{each_weaker}
use Rattle.plan_core.specs.PlanMade.{op_of}
use Rattle.plan_core.specs.Plans.{Operator, source}
use Rattle.plan_core.specs.Shapes.{Stage, filters, extends, first_by_keys, one_group, in_order, Shape, one_source, visits_below, pairs_up, passes_on, no_events, shape_of}
use Rattle.plan_core.specs.Valid.{kinds, op_kinds, IsFit, HaveSmallerInputs, inputs_of, outs_of, stage_outs, shape_outs, AreDistinct, uses_of}
use Rattle.plan_core.proofs.Chained.{count-append}
use Rattle.plan_core.proofs.Numbers.{kinds-of}
use Rattle.plan_read.specs.Checks.{ops_of, AreNumbered, AreShort, AreSound, IsShort}
use Rattle.plan_read.specs.Drafts.{all_numbered}
use Rattle.plan_read.specs.declared.draft.Draft.{Draft}
use Rattle.plan_read.specs.Reading.{Numbered}
use Rattle.plan_read.specs.Scopes.{used_more, AreOnce, IsSoundAfter}
use Rattle.plan_read.proofs.Decided.{fit_is_decided}
use Rattle.plan_read.proofs.Pushed.{uses_more}
use Rattle.plan_read.proofs.Counted.{smaller_fewer, smaller_at}
use Rattle.plan_read.proofs.Stopping.{each_fewer, each_last, draft_here, many_ops, next}

-- where two tests fail, their choice fails
neither : (a b : Bool) → a ≡ false → b ≡ false → (a || b) ≡ false
neither true b h k = h
neither false b h k = k

-- where a choice of two tests fails, the first fails
left_fails : (a b : Bool) → (a || b) ≡ false → a ≡ false
left_fails true b h = h
left_fails false b h = refl

-- where a choice of two tests fails, the second fails
right_fails : (a b : Bool) → (a || b) ≡ false → b ≡ false
right_fails true b h = absurd (true_false h)
  where
    true_false : ◌≡◌ {A = Bool} true false → ⊥
    true_false h = cc
right_fails false b h = h

-- numbers that differ, turned round
turned : (a b : ℕ) → (a == b) ≡ false → (b == a) ≡ false
turned a b h = ne_eqb b a (λ e. eqb-false a b h (sym e))

-- a variable isn't among those that were not bound before it
none_is : (x : ℕ) (xs vs : List ℕ) → AllByRecursion (λ v. list_any (λ w. w == v) (x ∷ xs) ≡ false) vs → list_any (λ w. w == x) vs ≡ false
none_is x xs [] h = refl
none_is x xs (v ∷ vs) h = neither (v == x) (list_any (λ w. w == x) vs) (turned x v (left_fails (x == v) (list_any (λ w. w == v) xs) h.0)) (none_is x xs vs h.1)

-- new variables after those of which none stands twice
distinct_more : (xs vs : List ℕ) → AreDistinct xs → AllByRecursion (λ v. list_any (λ w. w == v) xs ≡ false) vs → AreDistinct vs → AreDistinct (xs ++ vs)
distinct_more [] vs d n e = e
distinct_more (x ∷ xs) vs d n e = (
  list_any-append (λ w. w == x) xs vs ∙ neither (list_any (λ w. w == x) xs) (list_any (λ w. w == x) vs) d.0 (none_is x xs vs n),
  distinct_more xs vs d.1
      (each_weaker (λ v. list_any (λ w. w == v) (x ∷ xs) ≡ false) (λ v. list_any (λ w. w == v) xs ≡ false) (λ v h. right_fails (x == v) (list_any (λ w. w == v) xs) h) vs n) e,
)

-- no variable was bound before the first
none_before : (vs : List ℕ) → AllByRecursion (λ v. list_any (λ w. w == v) [] ≡ false) vs
none_before [] = tt
none_before (v ∷ vs) = (refl, none_before vs)

-- variables that are not this one, and were not bound before, are not bound once this one is bound too
one_before : (x : ℕ) (xs vs : List ℕ) → list_any (λ w. w == x) vs ≡ false → AllByRecursion (λ v. list_any (λ w. w == v) xs ≡ false) vs
    → AllByRecursion (λ v. list_any (λ w. w == v) (x ∷ xs) ≡ false) vs
one_before x xs [] h a = tt
one_before x xs (v ∷ vs) h a = (
  neither (x == v) (list_any (λ w. w == v) xs) (turned v x (left_fails (v == x) (list_any (λ w. w == x) vs) h)) a.0,
  one_before x xs vs (right_fails (v == x) (list_any (λ w. w == x) vs) h) a.1,
)

-- variables of which none stands twice are new after those before them
distinct_new : (xs vs : List ℕ) → AreDistinct (xs ++ vs) → AllByRecursion (λ v. list_any (λ w. w == v) xs ≡ false) vs
distinct_new [] vs d = none_before vs
distinct_new (x ∷ xs) vs d =
    one_before x xs vs (right_fails (list_any (λ w. w == x) xs) (list_any (λ w. w == x) vs) (sym (list_any-append (λ w. w == x) xs vs) ∙ d.0)) (distinct_new xs vs d.1)

-- what a stage binds stands once
stage_distinct : (s : Stage) → AreDistinct (stage_outs s)
stage_distinct (filters test) = tt
stage_distinct (extends out made) = (refl, tt)
stage_distinct (first_by_keys keys None) = tt
stage_distinct (first_by_keys keys (Some group)) = (refl, tt)
stage_distinct (one_group piece out) = (refl, tt)
stage_distinct (in_order v desc) = tt

-- what a shape binds stands once
shape_distinct : (s : Shape) → AreDistinct (shape_outs s)
shape_distinct (one_source s out) = (refl, tt)
shape_distinct (visits_below input start path out) = (refl, tt)
shape_distinct (pairs_up left right tests) = tt
shape_distinct (passes_on input stage) = stage_distinct stage
shape_distinct (no_events input made) = tt

-- a number is counted in a list, or isn't among it
counted_or : (n : ℕ) (xs : List ℕ) → (count_by (λ m. m == n) xs ≡ 0) ⊎ Among n xs
counted_or n [] = inl refl
counted_or n (x ∷ xs) = by_case (x == n) refl (counted_or n xs)
  where
    by_case : (b : Bool) → (x == n) ≡ b → (count_by (λ m. m == n) xs ≡ 0) ⊎ Among n xs → (count_by (λ m. m == n) (x ∷ xs) ≡ 0) ⊎ Among n (x ∷ xs)
    by_case true e h = inr (inl (sym (is_same x n e)))
      where
        is_same : (a b : ℕ) → (a == b) ≡ true → a ≡ b
        is_same a b e = grind (arith, nat_tests, e)
    by_case false e (inl h) =
        let one : count_by (λ m. m == n) (x ∷ []) ≡ 0 = rw e refl in
        inl (count-append n (x ∷ []) xs ∙ omega (arith, one, h))
    by_case false e (inr h) = inr (inr h)

-- no operator is an input twice, where inputs are used once more
once_more : (uses : ℕ → ℕ) (inputs : List ℕ) → AreOnce uses inputs → ((n : ℕ) → uses n ≤ 1) → (n : ℕ) → used_more uses inputs n ≤ 1
once_more uses inputs a u n = elim (counted_or n inputs) [
  | inl h ↦ (let one = u n in omega (arith, one, h))
  | inr h ↦ each_among (λ i. used_more uses inputs i ≤ 1) inputs a n h
]

-- what holds of everything holds of each member
each_of : {X : Type 0} (P : X → Type 0) → ((x : X) → P x) → (xs : List X) → AllByRecursion P xs
each_of P f [] = tt
each_of P f (x ∷ xs) = (f x, each_of P f xs)

-- what holds of all of a list and of one more holds of all
each_append : {X : Type 0} (P : X → Type 0) (xs : List X) (x : X) → AllByRecursion P xs → P x → AllByRecursion P (xs ++ x ∷ [])
each_append P [] x h p = (p, tt)
each_append P (y ∷ xs) x h p = (h.0, each_append P xs x h.1 p)

-- what holds of all of a list holds of the last
each_end : {X : Type 0} (P : X → Type 0) (xs : List X) (x : X) → AllByRecursion P (xs ++ x ∷ []) → P x
each_end P [] x h = h.0
each_end P (y ∷ xs) x h = each_end P xs x h.1

-- what operators and one more bind anew is what they bind, and then what that one does
outs_more : (before : List Operator) (op : Operator) → flat_map outs_of (before ++ op ∷ []) ≡ flat_map outs_of before ++ outs_of op
outs_more before op = sym (flat_map_more outs_of [] before op)

-- sound operators and one more that is sound after them are sound
pub sound_more : (ns : List Numbered) (i k : ℕ) (op : Operator) → take k (ops_of ns) ≡ take i (ops_of ns) ++ op ∷ [] → IsShort (shape_of op) → AreSound ns i
    → IsSoundAfter (take i (ops_of ns)) op (kinds (ops_of ns)) → AreSound ns k
sound_more ns i k op e short s h =
    let before = take i (ops_of ns) in
    record {
      fit = subst (AllByRecursion (λ o. IsFit o (kinds (ops_of ns)))) (sym e)
          (each_append (λ o. IsFit o (kinds (ops_of ns))) before op s.fit (fit_is_decided.sound op (kinds (ops_of ns)) short h.fit));
      distinct = subst (λ os. AreDistinct (flat_map outs_of os)) (sym e)
          (subst AreDistinct (sym (outs_more before op)) (distinct_more (flat_map outs_of before) (outs_of op) s.distinct h.new (shape_distinct (shape_of op))));
      once = subst (λ os. (n : ℕ) → uses_of os n ≤ 1) (sym e)
          (λ n. subst (λ (m : ℕ). m ≤ 1) (sym (uses_more before op n)) (once_more (uses_of before) (inputs_of op) h.once s.once n));
    }

-- the last of operators that are sound is sound after the others
pub sound_last : (ns : List Numbered) (i k : ℕ) (op : Operator) → take k (ops_of ns) ≡ take i (ops_of ns) ++ op ∷ [] → AreSound ns k
    → IsSoundAfter (take i (ops_of ns)) op (kinds (ops_of ns))
sound_last ns i k op e s =
    let before = take i (ops_of ns) in
    let fit = subst (AllByRecursion (λ o. IsFit o (kinds (ops_of ns)))) e s.fit in
    let once = subst (λ os. (n : ℕ) → uses_of os n ≤ 1) e s.once in
    record {
      fit = (fit_is_decided.complete op (kinds (ops_of ns)) (each_end (λ o. IsFit o (kinds (ops_of ns))) before op fit)).1;
      new = distinct_new (flat_map outs_of before) (outs_of op) (subst AreDistinct (outs_more before op) (subst (λ os. AreDistinct (flat_map outs_of os)) e s.distinct));
      once = each_of (λ i. used_more (uses_of before) (inputs_of op) i ≤ 1) (λ n. subst (λ (m : ℕ). m ≤ 1) (uses_more before op n) (once n)) (inputs_of op);
    }

module _ (ds : List Draft) (k : ℕ) (d : Draft) (inside : k < length ds) (is : d ≡ get_or ds k d) where
  -- the operators that were read, without their numbers
  abbrev ops : List Operator
  ops = ops_of (all_numbered ds)

  -- the operators up to and with the next one are those before it and that one
  pub taken : take (suc k) ops ≡ take k ops ++ op_of d.op ∷ []
  taken =
      let l = many_ops ds in
      let there : k < length ops = omega (arith, l, inside) in
      ap (λ (n : ℕ). take n ops) (next k) ∙ take_more ops k (op_of d.op) there ∙ ap (λ o. take k ops ++ o ∷ []) (draft_here ds k d (op_of d.op) inside is)

  -- the first operators and the next one have smaller inputs
  pub small_here : AreNumbered (all_numbered ds) (length ds) → HaveSmallerInputs 0 (take k ops ++ op_of d.op ∷ [])
  small_here numbered = subst (HaveSmallerInputs 0) taken (smaller_fewer 0 ops (suc k) (length ds) inside numbered.smaller)

  -- the kinds of the next operator, by those of its inputs
  pub kinds_here : AreNumbered (all_numbered ds) (length ds) → kinds ops (length (take k ops)) ≡ op_kinds (op_of d.op) (kinds ops)
  kinds_here numbered =
      let l = many_ops ds in
      let there : k < length ops = omega (arith, l, inside) in
      let less : k ≤ length ops = omega (arith, there) in
      let same = draft_here ds k d (source 0 0) inside is in
      let small = smaller_at ops k (length ds) (source 0 0) there inside numbered.smaller in
      ap (kinds ops) (length-take-le k ops less) ∙ kinds-of ops k (op_of d.op) same (subst (λ (o : Operator). AllByRecursion (λ i. i < k) (inputs_of o)) same small)

  -- the path of the next operator is short
  pub short_here : AreShort (all_numbered ds) (length ds) → IsShort (shape_of (op_of d.op))
  short_here short =
      let l = many_ops ds in
      let there : k < length ops = omega (arith, l, inside) in
      subst (λ (o : Operator). IsShort (shape_of o)) (draft_here ds k d (source 0 0) inside is)
      (each_last (λ (o : Operator). IsShort (shape_of o)) ops k (source 0 0) there (each_fewer (λ (o : Operator). IsShort (shape_of o)) ops (suc k) (length ds) inside short))
