-- Outcomes of checks that follow one another: each such chain of checks has one outcome.
use Rattle.std.proofs.Common.{◌≡◌, ◌⊎◌, inl, inr, ◌≤◌, ◌∙◌, ℕ, suc, List, Result, Err, sym, ap, arith, length, slice_index}
use Rattle.std.proofs.lemmas.Bool.{cases_lt}
use Rattle.plan_core.specs.Plans.{PlanValue}
use Rattle.plan_read.specs.Stops.{StopsAt}
use Rattle.plan_read.specs.declared.fault.PlanFault.{PlanFault}

-- what a text can come to
abbrev pub Outcome : Type 0
Outcome = Result PlanValue PlanFault

-- at most one outcome is so
abbrev pub IsOne : (Outcome → Type 0) → Type 0
IsOne R = (a b : Outcome) → R a → R b → a ≡ b

-- what holds of so many holds of fewer
abbrev pub IsClosed : (ℕ → Type 0) → Type 0
IsClosed P = (j k : ℕ) → j ≤ k → P k → P j

-- the outcome is that P stops to hold at a line, or P holds of all lines and the outcome is one of what follows
abbrev pub Each : (ℕ → Type 0) → List ℕ → (ℕ → PlanFault) → (Outcome → Type 0) → Outcome → Type 0
Each P numbers fault R a = ((n : ℕ) × StopsAt P numbers n × (a ≡ Err (fault n))) ⊎ (P (length numbers) × R a)

-- the outcome is that A doesn't hold, or A holds and the outcome is one of what follows
abbrev pub Whole : Type 0 → PlanFault → (Outcome → Type 0) → Outcome → Type 0
Whole A fault R a = ((A → ⊥) × (a ≡ Err fault)) ⊎ (A × R a)

-- what stops to hold does so at one line
one_line : (P : ℕ → Type 0) (numbers : List ℕ) (m n : ℕ) → IsClosed P → StopsAt P numbers m → StopsAt P numbers n → m ≡ n
one_line P numbers m n closed s t = elim (cases_lt s.place t.place) [
  | inl l ↦ absurd (s.stops (closed (suc s.place) t.place (omega (arith, l)) t.before))
  | inr g ↦ elim (cases_lt t.place s.place) [
    | inl l ↦ absurd (t.stops (closed (suc t.place) s.place (omega (arith, l)) s.before))
    | inr h ↦ (let same : s.place ≡ t.place = omega (arith, g, h) in sym s.number ∙ ap (λ i. slice_index numbers i) same ∙ t.number)
  ]
]

-- what holds of all lines doesn't stop to hold
no_stop : (P : ℕ → Type 0) (numbers : List ℕ) (n : ℕ) → IsClosed P → P (length numbers) → StopsAt P numbers n → ⊥
no_stop P numbers n closed all s = (let inside = s.inside in s.stops (closed (suc s.place) (length numbers) (omega (arith, inside)) all))

-- a check of lines, and then what has one outcome, has one outcome
pub one_each : (P : ℕ → Type 0) (numbers : List ℕ) (fault : ℕ → PlanFault) (R : Outcome → Type 0) → IsClosed P → IsOne R → IsOne (Each P numbers fault R)
one_each P numbers fault R closed one a b (inl s) (inl t) = s.2 ∙ ap (λ n. Err (fault n)) (one_line P numbers s.0 t.0 closed s.1 t.1) ∙ sym t.2
one_each P numbers fault R closed one a b (inl s) (inr t) = absurd (no_stop P numbers s.0 closed t.0 s.1)
one_each P numbers fault R closed one a b (inr s) (inl t) = absurd (no_stop P numbers t.0 closed s.0 t.1)
one_each P numbers fault R closed one a b (inr s) (inr t) = one a b s.1 t.1

-- a check of the whole, and then what has one outcome, has one outcome
pub one_whole : (A : Type 0) (fault : PlanFault) (R : Outcome → Type 0) → IsOne R → IsOne (Whole A fault R)
one_whole A fault R one a b (inl s) (inl t) = s.1 ∙ sym t.1
one_whole A fault R one a b (inl s) (inr t) = absurd (s.0 t.0)
one_whole A fault R one a b (inr s) (inl t) = absurd (t.0 s.0)
one_whole A fault R one a b (inr s) (inr t) = one a b s.1 t.1
