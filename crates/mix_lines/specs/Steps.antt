-- The steps of a script, asked for one after another.
use Rattle.std.proofs.Common.{◌≡◌, ◌∙◌, ◌+◌, ◌-◌, ◌<◌, ◌≤◌, ℕ, zero, suc, Bool, true, false, List, [], ◌∷◌, ◌++◌, Option, Some, None, Result, Ok, Err, map, take, length, slice_get, refl, ap, sym, arith, append_assoc}
use Rattle.mix_base.proofs.Lists.{append_nil}
use Rattle.mix_io.specs.declared.input.TakeFault.{TakeFault}
use Rattle.mix_script.specs.declared.step.Step.{Step}
use Rattle.mix_lines.specs.Heard.{Heard, step}
use Rattle.mix_lines.specs.declared.steps.Steps.{Steps}

-- no more steps were asked for than there are
abbrev pub IsWithin : Steps → Type 0
IsWithin r = r.asked ≤ length r.steps.now

-- the steps that were asked for between two states
abbrev pub AreAsked : Steps → Steps → List Heard → Type 0
AreAsked r r' heard = (r'.steps ≡ r.steps) × (map step (take r.asked r.steps.now) ++ heard ≡ map step (take r'.asked r'.steps.now))

-- one step more was asked for, or there is none; no call fails
abbrev pub IsNext : Steps → Steps → Result Bool TakeFault → Type 0
IsNext r r' (Ok true) = (r'.steps ≡ r.steps) × (r'.asked ≡ r.asked + 1) × (r.asked < length r.steps.now)
IsNext r r' (Ok false) = (r'.steps ≡ r.steps) × (r.asked ≡ length r.steps.now)
IsNext r r' (Err fault) = ⊥

-- what a step asks for, where there is one
abbrev pub step_asks : Option Step → List Heard
step_asks None = []
step_asks (Some s) = step s ∷ []

-- what the last of so many steps asks for
abbrev pub last_asks : ℕ → List Step → List Heard
last_asks zero steps = []
last_asks (suc n) steps = step_asks (slice_get steps n)

-- what the step asks for that came last
abbrev pub asked_by : Steps → List Heard
asked_by r = last_asks r.asked r.steps.now

-- how many steps are left
abbrev pub steps_left : Steps → ℕ
steps_left r = length r.steps.now - r.asked

-- from a state to itself no step was asked for
pub next_same : (r : Steps) → AreAsked r r []
next_same r = (refl, append_nil (map step (take r.asked r.steps.now)))

-- the first steps with one more are the first ones and that one
first_more : (steps : List Step) (n : ℕ) → map step (take n steps) ++ step_asks (slice_get steps n) ≡ map step (take (suc n) steps)
first_more [] zero = refl
first_more [] (suc n) = refl
first_more (s ∷ steps) zero = refl
first_more (s ∷ steps) (suc n) = ap (λ xs. step s ∷ xs) (first_more steps n)

-- the step that comes next is asked for after those before it
pub next_after : (r r1 r2 : Steps) (heard : List Heard) → AreAsked r r1 heard → IsNext r1 r2 (Ok true) → AreAsked r r2 (heard ++ asked_by r2)
next_after r r1 r2 heard come moved =
    let n : r2.asked ≡ suc r1.asked = let h = moved.1 in omega (arith, h) in
    let asks : asked_by r2 ≡ step_asks (slice_get r1.steps.now r1.asked) = ap (λ k. last_asks k r2.steps.now) n ∙ ap (λ s. step_asks (slice_get s.now r1.asked)) moved.0 in (
      moved.0 ∙ come.0,
      sym (append_assoc (map step (take r.asked r.steps.now)) heard (asked_by r2)) ∙ ap (λ xs. xs ++ asked_by r2) come.1 ∙ ap (λ xs. map step (take r1.asked r1.steps.now) ++ xs) asks
          ∙ first_more r1.steps.now r1.asked ∙ ap (λ s. map step (take (suc r1.asked) s.now)) (sym moved.0) ∙ ap (λ k. map step (take k r2.steps.now)) (sym n),
    )
