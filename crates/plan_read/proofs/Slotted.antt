-- What is kept of operators, as the scopes of inputs are taken.
use Rattle.std.proofs.Common.{◌≡◌, inl, inr, ◌<◌, ◌≤◌, ◌∙◌, ◌==◌, ◌++◌, ℕ, zero, suc, Bool, true, false, List, [], ◌∷◌, Option, Some, None, refl, sym, ap, subst, arith, length, slice_get, slice_set}
use Rattle.std.specs.List.{count_by}
use Rattle.std.proofs.lemmas.Bool.{eq-eqb, ne_eqb, cases_eq}
use Rattle.std.proofs.lemmas.List.{length-set}
use Rattle.plan_core.specs.Valid.{Kinds, either_kind}
use Rattle.plan_core.proofs.Chained.{count-append}
use Rattle.plan_read.specs.Scopes.{kinds_in, scope_in, is_open, IsSlot, AreSlots, used_more, AreOnce, IsBelow}
use Rattle.plan_read.specs.declared.scope.Scope.{Scope}

-- slots, each with a scope or without one
abbrev pub Slots : Type 0
Slots = List (Option Scope)

-- a slot that is emptied has no scope
emptied_here : (slots : Slots) (i : ℕ) → i < length slots → slice_get (slice_set slots i None) i ≡ Some None
emptied_here [] i h = absurd (omega arith)
emptied_here (s ∷ slots) zero h = refl
emptied_here (s ∷ slots) (suc i) h = emptied_here slots i (omega arith)

-- a slot stays where another one is emptied
emptied_other : (slots : Slots) (i j : ℕ) → (j ≡ i → ⊥) → slice_get (slice_set slots i None) j ≡ slice_get slots j
emptied_other [] i j n = refl
emptied_other (s ∷ slots) zero zero n = absurd (n refl)
emptied_other (s ∷ slots) zero (suc j) n = refl
emptied_other (s ∷ slots) (suc i) zero n = refl
emptied_other (s ∷ slots) (suc i) (suc j) n = emptied_other slots i j (λ e. n (ap suc e))

-- there is a slot at each number below how many there are
pub slot_there : (slots : Slots) (i : ℕ) → i < length slots → slice_get slots i ≡ None → ⊥
slot_there [] i h e = absurd (omega arith)
slot_there (s ∷ slots) zero h e = cc
slot_there (s ∷ slots) (suc i) h e = slot_there slots i (omega arith) e

-- a slot before one that was added
pub added_before : (slots : Slots) (s : Option Scope) (i : ℕ) → i < length slots → slice_get (slots ++ s ∷ []) i ≡ slice_get slots i
added_before [] s i h = absurd (omega arith)
added_before (t ∷ slots) s zero h = refl
added_before (t ∷ slots) s (suc i) h = added_before slots s i (omega arith)

-- after others, the slot that was added has the scope that was added
pub added_here : (slots : Slots) (s : Option Scope) (i : ℕ) → i ≡ length slots → slice_get (slots ++ s ∷ []) i ≡ Some s
added_here [] s zero e = refl
added_here [] s (suc i) e = absurd (omega arith)
added_here (t ∷ slots) s zero e = absurd (omega arith)
added_here (t ∷ slots) s (suc i) e = added_here slots s i (omega arith)

-- no slot stands after one that was added
pub added_after : (slots : Slots) (s : Option Scope) (i : ℕ) → length slots < i → slice_get (slots ++ s ∷ []) i ≡ None
added_after [] s zero h = absurd (omega arith)
added_after [] s (suc i) h = refl
added_after (t ∷ slots) s zero h = absurd (omega arith)
added_after (t ∷ slots) s (suc i) h = added_after slots s i (omega arith)

-- an input is counted once as itself
count_here : (i : ℕ) → count_by (λ m. m == i) (i ∷ []) ≡ 1
count_here i = let e : (i == i) ≡ true = eq-eqb i i refl in rw e refl

-- an input isn't counted as another one
count_other : (i n : ℕ) → (n ≡ i → ⊥) → count_by (λ m. m == n) (i ∷ []) ≡ 0
count_other i n h = let e : (i == n) ≡ false = ne_eqb i n (λ p. h (sym p)) in rw e refl

-- what is kept at a slot of an operator is so where its uses are as many
slot_same : (s : Option (Option Scope)) (m n : ℕ) (kinds : Kinds) → m ≡ n → IsSlot s m kinds → IsSlot s n kinds
slot_same s m n kinds e h = subst (λ k. IsSlot s k kinds) e h

-- what is kept at all slots is so where the uses of each operator are as many
pub slots_same : (slots : Slots) (count : ℕ) (u w : ℕ → ℕ) (of : ℕ → Kinds) → ((n : ℕ) → u n ≡ w n) → AreSlots slots count u of → AreSlots slots count w of
slots_same slots count u w of e h = record { many = h.many; each = λ i. slot_same (slice_get slots i) (u i) (w i) (of i) (e i) (h.each i) }

-- the slot of an input that is taken is empty, and it is used once more
slots_emptied : (slots : Slots) (count : ℕ) (uses : ℕ → ℕ) (of : ℕ → Kinds) (i : ℕ) → AreSlots slots count uses of → i < count → uses i ≡ 0
    → AreSlots (slice_set slots i None) count (used_more uses (i ∷ [])) of
slots_emptied slots count uses of i h l u = record { many = length-set slots i None ∙ h.many; each = each }
  where
    each : (j : ℕ) → IsSlot (slice_get (slice_set slots i None) j) (used_more uses (i ∷ []) j) (of j)
    each j = elim (cases_eq j i) [
      | inl e ↦
          (let inside : i < length slots = omega (arith, h.many, l) in
          let here : slice_get (slice_set slots i None) j ≡ Some None = ap (slice_get (slice_set slots i None)) e ∙ emptied_here slots i inside in
          let one : count_by (λ m. m == j) (i ∷ []) ≡ 1 = ap (λ (k : ℕ). count_by (λ m. m == k) (i ∷ [])) e ∙ count_here i in
          let none : uses j ≡ 0 = ap uses e ∙ u in
          let both : used_more uses (i ∷ []) j ≡ 1 = omega (arith, one, none) in
          subst (λ s. IsSlot s (used_more uses (i ∷ []) j) (of j)) (sym here) both)
      | inr n ↦
          (let zero_more : count_by (λ m. m == j) (i ∷ []) ≡ 0 = count_other i j n in
          let same : uses j ≡ used_more uses (i ∷ []) j = omega (arith, zero_more) in
          subst (λ s. IsSlot s (used_more uses (i ∷ []) j) (of j)) (sym (emptied_other slots i j n))
          (slot_same (slice_get slots j) (uses j) (used_more uses (i ∷ []) j) (of j) same (h.each j)))
    ]

-- taking the scope of one input gives it where the input was unused, and leaves its slot empty
pub below_one : (slots left : Slots) (count : ℕ) (uses : ℕ → ℕ) (of : ℕ → Kinds) (i : ℕ) (r : Option Scope) → AreSlots slots count uses of → i < count
    → r ≡ scope_in (slice_get slots i) → left ≡ slice_set slots i None → IsBelow left count uses of (i ∷ []) r
below_one slots left count uses of i r h l e g =
    subst (λ o. IsBelow left count uses of (i ∷ []) o) (sym e)
    (subst (λ ss. IsBelow ss count uses of (i ∷ []) (scope_in (slice_get slots i))) (sym g) (by_slot (slice_get slots i) refl (h.each i)))
  where
    inside : i < length slots
    inside = omega (arith, h.many, l)

    by_slot : (s : Option (Option Scope)) → slice_get slots i ≡ s → IsSlot s (uses i) (of i) → IsBelow (slice_set slots i None) count uses of (i ∷ []) (scope_in s)
    by_slot None p k = absurd (slot_there slots i inside p)
    by_slot (Some None) p k = λ once. (let two : used_more uses (i ∷ []) i ≤ 1 = once.0 in let one = count_here i in omega (arith, two, one, k))
    by_slot (Some (Some s)) p k = (
      ((let one = count_here i in let none : uses i ≡ 0 = k.0 in omega (arith, one, none)), tt),
      k.1,
      slots_emptied slots count uses of i h l k.0,
    )

-- two inputs one after the other are used as both together
pub used_both : (uses : ℕ → ℕ) (i j n : ℕ) → used_more (used_more uses (i ∷ [])) (j ∷ []) n ≡ used_more uses (i ∷ j ∷ []) n
used_both uses i j n = let e = count-append n (i ∷ []) (j ∷ []) in omega (arith, e)

-- two inputs aren't used once each where the first was used before
pub first_used : (uses : ℕ → ℕ) (i j : ℕ) → (AreOnce uses (i ∷ []) → ⊥) → AreOnce uses (i ∷ j ∷ []) → ⊥
first_used uses i j fails once =
    let e = count-append i (i ∷ []) (j ∷ []) in
    let both : used_more uses (i ∷ j ∷ []) i ≤ 1 = once.0 in
    fails (omega (arith, e, both), tt)

-- two inputs aren't used once each where the second was used before, or is the first
pub second_used : (uses : ℕ → ℕ) (i j : ℕ) → (AreOnce (used_more uses (i ∷ [])) (j ∷ []) → ⊥) → AreOnce uses (i ∷ j ∷ []) → ⊥
second_used uses i j fails once =
    let e = used_both uses i j j in
    let both : used_more uses (i ∷ j ∷ []) j ≤ 1 = once.1.0 in
    fails (omega (arith, e, both), tt)

-- two inputs are used once each where each was unused when it was taken
both_once : (uses : ℕ → ℕ) (i j : ℕ) → AreOnce uses (i ∷ []) → AreOnce (used_more uses (i ∷ [])) (j ∷ []) → AreOnce uses (i ∷ j ∷ [])
both_once uses i j a b =
    let e = used_both uses i j j in
    let f = count-append i (i ∷ []) (j ∷ []) in
    let one : used_more uses (i ∷ []) i ≤ 1 = a.0 in
    let two : used_more (used_more uses (i ∷ [])) (j ∷ []) j ≤ 1 = b.0 in
    let here = count_here i in
    let there = count_here j in
    let apart : i ≡ j → ⊥ = λ p.
    (let same : count_by (λ m. m == j) (i ∷ []) ≡ 1 = ap (λ (k : ℕ). count_by (λ m. m == k) (i ∷ [])) (sym p) ∙ here in omega (arith, same, there, two)) in
    let none : count_by (λ m. m == i) (j ∷ []) ≡ 0 = count_other j i apart in
    (omega (arith, f, none, one), (omega (arith, e, two), tt))

-- taking the scopes of two inputs gives the scope of both together, and leaves their slots empty
pub below_both : (slots left : Slots) (count : ℕ) (uses : ℕ → ℕ) (of : ℕ → Kinds) (i j : ℕ) (first second both : Scope)
    → IsBelow slots count uses of (i ∷ []) (Some first) → IsBelow left count (used_more uses (i ∷ [])) of (j ∷ []) (Some second)
    → ((v : ℕ) → kinds_in both v ≡ either_kind (kinds_in first v) (kinds_in second v)) → IsBelow left count uses of (i ∷ j ∷ []) (Some both)
below_both slots left count uses of i j first second both a b k = (
  both_once uses i j a.0 b.0,
  λ v. k v ∙ ap (λ o. either_kind o (kinds_in second v)) (a.1 v) ∙ ap (either_kind (of i v)) (b.1 v),
  slots_same left count (used_more (used_more uses (i ∷ [])) (j ∷ [])) (used_more uses (i ∷ j ∷ [])) of (used_both uses i j) b.2,
)

-- the operator of a slot with a scope isn't used
pub open_unused : (s : Option (Option Scope)) (n : ℕ) (kinds : Kinds) → is_open s ≡ true → IsSlot s n kinds → n ≡ 0
open_unused None n kinds e h = absurd (false_true e)
  where
    false_true : ◌≡◌ {A = Bool} false true → ⊥
    false_true h = cc
open_unused (Some None) n kinds e h = absurd (false_true e)
  where
    false_true : ◌≡◌ {A = Bool} false true → ⊥
    false_true h = cc
open_unused (Some (Some s)) n kinds e h = h.0

-- the operator of a slot without a scope is used once
pub closed_used : (s : Option (Option Scope)) (n : ℕ) (kinds : Kinds) → is_open s ≡ false → (s ≡ None → ⊥) → IsSlot s n kinds → n ≡ 1
closed_used None n kinds e f h = absurd (f refl)
closed_used (Some None) n kinds e f h = h
closed_used (Some (Some s)) n kinds e f h = absurd (true_false e)
  where
    true_false : ◌≡◌ {A = Bool} true false → ⊥
    true_false h = cc
