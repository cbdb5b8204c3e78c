-- Going on by one operator.
use Rattle.std.proofs.Common.{◌≡◌, inl, inr, ◌<◌, ◌≤◌, ◌+◌, ◌∙◌, ◌==◌, ◌++◌, ℕ, suc, Bool, true, false, List, [], ◌∷◌, Option, Some, None, refl, sym, ap, subst, arith, length, slice_get, option_to_list}
use mathlib.Core.Path.{fun_ext}
use Rattle.std.specs.List.{AllByRecursion, count_by, flat_map, list_any}
use Rattle.std.proofs.lemmas.Bool.{cases_lt, cases_eq}
use Rattle.std.proofs.lemmas.List.{length_push, flat_map_more}
use Rattle.plan_core.specs.Plans.{Operator}
use Rattle.plan_core.specs.Shapes.{Shape, one_source, visits_below, pairs_up, passes_on, no_events, shape_of}
use Rattle.plan_core.specs.Valid.{Kinds, op_kinds, shape_kinds, shape_inputs, HaveSmallerInputs, inputs_of, outs_of, uses_of}
use Rattle.plan_core.proofs.Chained.{count-append}
use Rattle.plan_read.specs.Scopes.{kinds_in, shape_fits, kinds_below, kinds_above, IsSlot, AreSlots, AreOuts, AreScopes, used_more, IsBelow, IsSoundAfter}
use Rattle.plan_read.specs.declared.scope.Scope.{Scope}
use Rattle.plan_read.specs.declared.scopes.Scopes.{Scopes}
use Rattle.plan_read.proofs.Slotted.{Slots, added_before, added_here, added_after}
use Rattle.plan_read.proofs.Whole.{none_used}

-- with one operator more, its inputs are used as often as before and once more
pub uses_more : (before : List Operator) (op : Operator) (n : ℕ) → uses_of (before ++ op ∷ []) n ≡ used_more (uses_of before) (inputs_of op) n
uses_more before op n =
    ap (count_by (λ i. i == n)) (sym (flat_map_more inputs_of [] before op)) ∙ count-append n (flat_map inputs_of before) (inputs_of op)

-- the inputs of the last operator are smaller
pub last_smaller : (k : ℕ) (before : List Operator) (op : Operator) → HaveSmallerInputs k (before ++ op ∷ []) → AllByRecursion (λ i. i < k + length before) (inputs_of op)
last_smaller k [] op s = let z : k ≡ k + 0 = omega arith in subst (λ (m : ℕ). AllByRecursion (λ i. i < m) (inputs_of op)) z s.0
last_smaller k (b ∷ before) op s =
    let z : suc k + length before ≡ k + length (b ∷ before) = omega arith in
    subst (λ (m : ℕ). AllByRecursion (λ i. i < m) (inputs_of op)) z (last_smaller (suc k) before op s.1)

-- the inputs of the last operator are smaller than how many operators stand before it
pub inputs_below : (before : List Operator) (op : Operator) → HaveSmallerInputs 0 (before ++ op ∷ []) → AllByRecursion (λ i. i < length before) (inputs_of op)
inputs_below before op s =
    let z : 0 + length before ≡ length before = omega arith in
    subst (λ (m : ℕ). AllByRecursion (λ i. i < m) (inputs_of op)) z (last_smaller 0 before op s)

-- the last operator is no input
last_unused : (before : List Operator) (op : Operator) → HaveSmallerInputs 0 (before ++ op ∷ []) → uses_of (before ++ op ∷ []) (length before) ≡ 0
last_unused before op s =
    let l = length_push before op in
    none_used (before ++ op ∷ []) 0 (length before) (omega (arith, l)) s

-- what an operator binds, by what its inputs bind together
shape_above : (s : Shape) (of : ℕ → Kinds) → shape_kinds s of ≡ kinds_above s (kinds_below (shape_inputs s) of)
shape_above (one_source s out) of = refl
shape_above (visits_below input start path out) of = refl
shape_above (pairs_up left right tests) of = refl
shape_above (passes_on input stage) of = refl
shape_above (no_events input made) of = refl

-- the kinds of a scope as one function
scope_kinds : (s : Scope) (kinds : Kinds) → ((v : ℕ) → kinds_in s v ≡ kinds v) → kinds_in s ≡ kinds
scope_kinds s kinds h = fun_ext h

-- whether an operator fits, by the scope of its inputs
pub fits_below : (op : Operator) (of : ℕ → Kinds) (s : Scope) → ((v : ℕ) → kinds_in s v ≡ kinds_below (inputs_of op) of v)
    → shape_fits (shape_of op) (kinds_in s) ≡ shape_fits (shape_of op) (kinds_below (inputs_of op) of)
fits_below op of s h = ap (shape_fits (shape_of op)) (scope_kinds s (kinds_below (inputs_of op) of) h)

-- the scope of an operator, made of that of its inputs, has the kinds that it binds
pub kinds_pushed : (op : Operator) (of : ℕ → Kinds) (below above : Scope) (n : ℕ) → ((v : ℕ) → kinds_in below v ≡ kinds_below (inputs_of op) of v)
    → ((v : ℕ) → kinds_in above v ≡ kinds_above (shape_of op) (kinds_in below) v) → of n ≡ op_kinds op of → (v : ℕ) → kinds_in above v ≡ of n v
kinds_pushed op of below above n h k e v =
    k v ∙ ap (λ (ks : Kinds). kinds_above (shape_of op) ks v) (scope_kinds below (kinds_below (inputs_of op) of) h)
    ∙ ap (λ (ks : Kinds). ks v) (sym (shape_above (shape_of op) of)) ∙ ap (λ (ks : Kinds). ks v) (sym e)

-- with the scope of one operator more, what is kept is so of all operators up to it
slots_pushed : (slots : Slots) (before : List Operator) (op : Operator) (of : ℕ → Kinds) (s : Scope) → AreSlots slots (length before) (used_more (uses_of before) (inputs_of op)) of
    → HaveSmallerInputs 0 (before ++ op ∷ []) → ((v : ℕ) → kinds_in s v ≡ of (length before) v)
    → AreSlots (slots ++ Some s ∷ []) (length (before ++ op ∷ [])) (uses_of (before ++ op ∷ [])) of
slots_pushed slots before op of s h small k = record { many = many; each = each }
  where
    many : length (slots ++ Some s ∷ []) ≡ length (before ++ op ∷ [])
    many = let a = length_push slots (Some s) in let b = length_push before op in omega (arith, a, b, h.many)

    each : (i : ℕ) → IsSlot (slice_get (slots ++ Some s ∷ []) i) (uses_of (before ++ op ∷ []) i) (of i)
    each i = elim (cases_eq i (length before)) [
      | inl e ↦
          (let here : slice_get (slots ++ Some s ∷ []) i ≡ Some (Some s) = added_here slots (Some s) i (omega (arith, e, h.many)) in
          let none : uses_of (before ++ op ∷ []) i ≡ 0 = ap (uses_of (before ++ op ∷ [])) e ∙ last_unused before op small in
          subst (λ o. IsSlot o (uses_of (before ++ op ∷ []) i) (of i)) (sym here)
          (none, λ v. k v ∙ ap (λ (m : ℕ). of m v) (sym e)))
      | inr n ↦ elim (cases_lt i (length before)) [
        | inl l ↦
            (let inside : i < length slots = omega (arith, h.many, l) in
            subst (λ o. IsSlot o (uses_of (before ++ op ∷ []) i) (of i)) (sym (added_before slots (Some s) i inside))
            (subst (λ (m : ℕ). IsSlot (slice_get slots i) m (of i)) (sym (uses_more before op i)) (h.each i)))
        | inr g ↦
            (let past : length slots < i = beyond i (length before) (length slots) n g h.many in
            subst (λ o. IsSlot o (uses_of (before ++ op ∷ []) i) (of i)) (sym (added_after slots (Some s) i past)) tt)
      ]
    ]
      where
        beyond : (i n m : ℕ) → (i ≡ n → ⊥) → n ≤ i → m ≡ n → m < i
        beyond i n m h g e = elim (cases_lt n i) [ inl l ↦ omega (arith, l, e) | inr l ↦ absurd (h (omega (arith, g, l))) ]

-- going on by a sound operator
pub pushed : (new : Scopes) (left : Slots) (before : List Operator) (op : Operator) (of : ℕ → Kinds) (below above : Scope) (out : Option ℕ)
    → IsBelow left (length before) (uses_of before) of (inputs_of op) (Some below) → HaveSmallerInputs 0 (before ++ op ∷ [])
    → ((v : ℕ) → kinds_in above v ≡ kinds_above (shape_of op) (kinds_in below) v) → of (length before) ≡ op_kinds op of
    → option_to_list out ≡ outs_of op → AreOuts new.outs (flat_map outs_of before ++ option_to_list out) → new.slots.items ≡ left ++ Some above ∷ []
    → AreScopes new (before ++ op ∷ []) of
pushed new left before op of below above out b small k e o outs items = record {
  slots = subst (λ ss. AreSlots ss (length (before ++ op ∷ [])) (uses_of (before ++ op ∷ [])) of) (sym items)
      (slots_pushed left before op of above b.2 small (kinds_pushed op of below above (length before) b.1 k e));
  outs = λ v. outs v ∙ ap (list_any (λ w. w == v)) (ap (λ vs. flat_map outs_of before ++ vs) o ∙ flat_map_more outs_of [] before op);
}

-- an operator that fits, binds what is new and uses each input once is sound
pub sound_after : (left : Slots) (before : List Operator) (op : Operator) (of : ℕ → Kinds) (below : Scope) (out : Option ℕ)
    → IsBelow left (length before) (uses_of before) of (inputs_of op) (Some below) → shape_fits (shape_of op) (kinds_in below) ≡ true
    → option_to_list out ≡ outs_of op → AllByRecursion (λ v. list_any (λ w. w == v) (flat_map outs_of before) ≡ false) (option_to_list out)
    → IsSoundAfter before op of
sound_after left before op of below out b fits o new = record {
  fit = sym (fits_below op of below b.1) ∙ fits;
  new = subst (AllByRecursion (λ v. list_any (λ w. w == v) (flat_map outs_of before) ≡ false)) o new;
  once = b.0;
}

-- an operator that doesn't fit isn't sound
pub unfit : (left : Slots) (before : List Operator) (op : Operator) (of : ℕ → Kinds) (below : Scope) (fits : Bool)
    → IsBelow left (length before) (uses_of before) of (inputs_of op) (Some below) → fits ≡ shape_fits (shape_of op) (kinds_in below) → fits ≡ false → IsSoundAfter before op of → ⊥
unfit left before op of below fits b e f s = true_false (sym s.fit ∙ sym (fits_below op of below b.1) ∙ sym e ∙ f)
  where
    true_false : ◌≡◌ {A = Bool} true false → ⊥
    true_false h = cc

-- an operator that uses an input a second time isn't sound
pub unused_twice : (left : Slots) (before : List Operator) (op : Operator) (of : ℕ → Kinds) → IsBelow left (length before) (uses_of before) of (inputs_of op) None → IsSoundAfter before op of → ⊥
unused_twice left before op of b s = b s.once
