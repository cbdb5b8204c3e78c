-- One operator more is kept.
use Rattle.std.proofs.Common.{◌≡◌, ◌<◌, ◌≤◌, ◌+◌, ◌∙◌, ◌==◌, ◌++◌, inl, inr, ℕ, zero, suc, true, List, [], ◌∷◌, Option, Some, None, refl, sym, ap, subst, arith, length, drop, drop-cons, slice_get, slice_set}
use Rattle.std.specs.List.{AllByRecursion, flat_map}
use Rattle.std.proofs.lemmas.Bool.{eq-eqb, cases_lt}
use Rattle.std.proofs.lemmas.List.{get_or_append_left, get_or_at, length-set, length_push}
use Rattle.plan_core.specs.ByNumber.{op_at}
use Rattle.plan_core.specs.Fronts.{front}
use Rattle.plan_core.specs.FrontsKept.{Fronts, front_in, AreKept}
use Rattle.plan_core.specs.Plans.{Operator, source, PlanValue}
use Rattle.plan_core.specs.Shapes.{shape_of}
use Rattle.plan_core.specs.Trees.{times}
use Rattle.plan_core.specs.Typed.{IsTyped}
use Rattle.plan_core.specs.Valid.{AreDistinct, inputs_of, uses_of, IsValid}
use Rattle.plan_core.proofs.Chained.{count-append}
use Rattle.plan_core.proofs.KeptFronts.{inputs_kept, tree_distinct}
use Rattle.plan_core.proofs.ValidTrees.{valid_tree}
use Rattle.browse_visit.specs.declared.shape.Shape.{Shape as SourceShape}
use Rattle.plan_class.specs.Agree.{AreKnown, known_below}
use Rattle.plan_class.specs.Known.{Known, no_known, known_at, domain_of, shape_known, op_known}
use Rattle.plan_class.specs.Slots.{slot_known, kept_at, emptied, IsSoFar, IsPushed}
use Rattle.plan_class.specs.VarDomains.{domain_in, AreDomains}
use Rattle.plan_class.specs.declared.domain.Domain.{Domain}
use Rattle.plan_class.specs.declared.so_far.SoFar.{SoFar}
use Rattle.plan_class.proofs.ClassIs.{are_known}
use Rattle.plan_class.proofs.KnownSteps.{shape_known-reads}
use Rattle.plan_class.proofs.VarDomains.{domains_are}

-- slots, each with what is known of an operator or without it
abbrev Slots : Type 0
Slots = List (Option Known)

-- a slot stays where another one is emptied
emptied_other : (slots : Slots) (i j : ℕ) → (j ≡ i → ⊥) → slice_get (slice_set slots i None) j ≡ slice_get slots j
emptied_other [] i j n = refl
emptied_other (s ∷ slots) zero zero n = absurd (n refl)
emptied_other (s ∷ slots) zero (suc j) n = refl
emptied_other (s ∷ slots) (suc i) zero n = refl
emptied_other (s ∷ slots) (suc i) (suc j) n = emptied_other slots i j (λ e. n (ap suc e))

-- the slot of the right side of a join stays where the left side's is emptied
pub right_kept : (slots : Slots) (l r : ℕ) → AreDistinct (l ∷ r ∷ []) → kept_at (slice_set slots l None) r ≡ kept_at slots r
right_kept slots l r h = ap slot_known (emptied_other slots l r differs)
  where
    differs : r ≡ l → ⊥
    differs e = let t = eq-eqb r l e in let f = rw t at h.0 in cc

-- a slot stays where another is added after it
added_before : (slots : Slots) (s : Option Known) (i : ℕ) → i < length slots → slice_get (slots ++ s ∷ []) i ≡ slice_get slots i
added_before [] s i h = absurd (omega arith)
added_before (t ∷ slots) s zero h = refl
added_before (t ∷ slots) s (suc i) h = added_before slots s i (omega arith)

-- the slot that was added stands after the others
added_here : (slots : Slots) (s : Option Known) (i : ℕ) → i ≡ length slots → slice_get (slots ++ s ∷ []) i ≡ Some s
added_here [] s zero e = refl
added_here [] s (suc i) e = absurd (omega arith)
added_here (t ∷ slots) s zero e = absurd (omega arith)
added_here (t ∷ slots) s (suc i) e = added_here slots s i (omega arith)

-- emptying slots leaves as many of them
length_emptied : (slots : Slots) (is : List ℕ) → length (emptied slots is) ≡ length slots
length_emptied slots [] = refl
length_emptied slots (i ∷ is) = length_emptied (slice_set slots i None) is ∙ length-set slots i None

-- a number is counted as itself
times_here : (i : ℕ) → times (i ∷ []) i ≡ 1
times_here i = let e : (i == i) ≡ true = eq-eqb i i refl in rw e refl

-- a slot whose number isn't among those that are emptied stays
emptied_none : (slots : Slots) (is : List ℕ) (j : ℕ) → times is j ≡ 0 → slice_get (emptied slots is) j ≡ slice_get slots j
emptied_none slots [] j h = refl
emptied_none slots (i ∷ is) j h =
    let both = count-append j (i ∷ []) is in
    emptied_none (slice_set slots i None) is j (omega (arith, both, h)) ∙ emptied_other slots i j differs
  where
    differs : j ≡ i → ⊥
    differs e =
        let both = count-append j (i ∷ []) is in
        let one : times (i ∷ []) j ≡ 1 = ap (times (i ∷ [])) e ∙ times_here i in
        omega (arith, both, h, one)

-- what holds of each number below n that stands in a list holds of all in it
each_counted : (P : ℕ → Type 0) (n : ℕ) (is : List ℕ) → AllByRecursion (λ i. i < n) is → ((i : ℕ) → i < n → 1 ≤ times is i → P i) → AllByRecursion P is
each_counted P n [] s f = tt
each_counted P n (i ∷ is) s f = (
  f i s.0 (let both = count-append i (i ∷ []) is in let one = times_here i in omega (arith, both, one)),
  each_counted P n is s.1 (λ j l c. f j l (let both = count-append j (i ∷ []) is in omega (arith, both, c))),
)

-- later operators use an operator at most as often as all
later_fewer : (ops : List Operator) (n i : ℕ) → uses_of (drop n ops) i ≤ uses_of ops i
later_fewer [] zero i = omega arith
later_fewer [] (suc n) i = omega arith
later_fewer (op ∷ ops) zero i = omega arith
later_fewer (op ∷ ops) (suc n) i = let fewer = later_fewer ops n i in let both = count-append i (inputs_of op) (flat_map inputs_of ops) in omega (arith, fewer, both)

module _ (shapes : List SourceShape) (p : PlanValue) (valid : IsValid p) (typed : IsTyped p.ops) (n : ℕ) (b : n < length p.ops) where
  -- the operator of number n
  abbrev op : Operator
  op = op_at p.ops n

  -- what is known of the operators before number n
  abbrev known : List Known
  known = known_below shapes p.ops n

  -- what is known of operator n
  abbrev one : Known
  one = op_known shapes (front p.ops) known op

  -- the operators before number n are known
  are : AreKnown shapes p.ops known n
  are = are_known shapes p valid typed n (omega (arith, b))

  -- operators from number n on use another as often as operator n and the later ones do
  used_from : (i : ℕ) → uses_of (drop n p.ops) i ≡ times (inputs_of op) i + uses_of (drop (suc n) p.ops) i
  used_from i =
      let here : drop n p.ops ≡ op ∷ drop (suc n) p.ops = drop-cons p.ops n (source 0 0) b in
      ap (λ (os : List Operator). uses_of os i) here ∙ count-append i (inputs_of op) (flat_map inputs_of (drop (suc n) p.ops))

  -- operator n and the later ones use an operator before them once at most
  used_once : (i : ℕ) → i < n → times (inputs_of op) i + uses_of (drop (suc n) p.ops) i ≤ 1
  used_once i l =
      let all = valid.used_once i (omega (arith, l, b)) in
      let fewer = later_fewer p.ops n i in
      let from = used_from i in
      omega (arith, all, fewer, from)

  -- the inputs of operator n are distinct
  pub inputs_apart : AreDistinct (inputs_of op)
  inputs_apart = tree_distinct p.ops (valid_tree p valid typed) n b

  module _ (fronts : Fronts) (frs : AreKept p.ops n fronts) (old new : SoFar) (h : IsSoFar shapes p.ops n old) (more : IsPushed shapes (front_in fronts) old op new) where
    -- what is kept of the inputs of operator n is what is known of them
    kept : AllByRecursion (λ i. kept_at old.slots.items i ≡ known_at known i) (inputs_of op)
    kept =
        each_counted (λ i. kept_at old.slots.items i ≡ known_at known i) n (inputs_of op) (typed.inputs n b)
        (λ i l c. ap slot_known (h.waiting i l (let from = used_from i in omega (arith, from, c))))

    -- what is pushed is what is known of operator n
    pub one_is : shape_known shapes (front_in fronts) (domain_in old.domains) (kept_at old.slots.items) (shape_of op) ≡ one
    one_is =
        ap (λ (of : ℕ → Domain). shape_known shapes (front_in fronts) of (kept_at old.slots.items) (shape_of op)) (domains_are old.domains known h.domains)
        ∙ shape_known-reads shapes (front_in fronts) (front p.ops) (domain_of known) (kept_at old.slots.items) (known_at known) (shape_of op)
        (inputs_kept p.ops n fronts b frs (typed.inputs n b))
        kept

    -- the slots after operator n are those before it without its inputs, and its own
    slots_are : new.slots.items ≡ emptied old.slots.items (inputs_of op) ++ Some one ∷ []
    slots_are = more.slots ∙ ap (λ (k : Known). emptied old.slots.items (inputs_of op) ++ Some k ∷ []) one_is

    -- as many slots are left as operators stand before number n
    left_many : length (emptied old.slots.items (inputs_of op)) ≡ n
    left_many = length_emptied old.slots.items (inputs_of op) ∙ h.count

    -- an operator before number n that is still to be an input keeps its slot
    waits_before : (i : ℕ) → i < n → 1 ≤ uses_of (drop (suc n) p.ops) i → slice_get new.slots.items i ≡ Some (Some (known_at (known ++ one ∷ []) i))
    waits_before i l u =
        let once = used_once i l in
        let none : times (inputs_of op) i ≡ 0 = omega (arith, once, u) in
        let from = used_from i in
        let many = left_many in
        let count = are.count in
        ap (λ (ss : Slots). slice_get ss i) slots_are
        ∙ added_before (emptied old.slots.items (inputs_of op)) (Some one) i (omega (arith, many, l))
        ∙ emptied_none old.slots.items (inputs_of op) i none
        ∙ h.waiting i l (omega (arith, from, u))
        ∙ ap (λ (k : Known). Some (Some k)) (sym (get_or_append_left known (one ∷ []) no_known i (omega (arith, count, l))))

    -- operator n has its slot
    waits_here : slice_get new.slots.items n ≡ Some (Some (known_at (known ++ one ∷ []) n))
    waits_here =
        ap (λ (ss : Slots). slice_get ss n) slots_are
        ∙ added_here (emptied old.slots.items (inputs_of op)) (Some one) n (sym left_many)
        ∙ ap (λ (k : Known). Some (Some k)) (sym (get_or_at known one [] no_known n are.count))

    -- after operator n what is kept is that of the first n + 1 operators
    pub so_far_more : IsSoFar shapes p.ops (suc n) new
    so_far_more = record {
      domains = subst (λ (k : Known). AreDomains new.domains (known ++ k ∷ [])) one_is (more.domains known h.domains);
      count = (let a = length_push (emptied old.slots.items (inputs_of op)) (Some one) in let many = left_many in ap length slots_are ∙ omega (arith, a, many));
      waiting = λ i l u.
          elim (cases_lt i n) as (λ z. slice_get new.slots.items i ≡ Some (Some (known_at (known ++ one ∷ []) i))) [
            | inl c ↦ waits_before i c u
            | inr r ↦
                (let q : i ≡ n = omega (arith, l, r) in
                subst (λ (m : ℕ). slice_get new.slots.items m ≡ Some (Some (known_at (known ++ one ∷ []) m))) (sym q) waits_here)
          ];
    }
