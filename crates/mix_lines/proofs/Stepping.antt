-- What is asked for steps, one after another.
use Rattle.std.proofs.Common.{◌≡◌, ℕ, ◌+◌, ◌≤◌, List, [], ◌∷◌, ◌++◌, ap, sym, subst, arith, append_assoc}
use Rattle.mix_base.proofs.Lists.{append_nil}
use Rattle.mix_script.specs.Names.{NamesOf, no_names}
use Rattle.mix_script.specs.Allowed.{begun}
use Rattle.mix_script.specs.Holding.{HoldBoth}
use Rattle.mix_script.specs.declared.step.Act.{Act}
use Rattle.mix_script.specs.declared.step.Step.{Step}
use Rattle.mix_script.specs.declared.answer.Answer.{Answer}
use Rattle.mix_script.proofs.Holding.{hold_none}
use Rattle.mix_lines.specs.Written.{IsSpent}

-- before any step nothing is asked
pub spent_start : {V W : Type 0} (With : V → W → Type 0) (cost : NamesOf W → List ℕ → Act → ℕ) (after : NamesOf W → List ℕ → Act → Answer → NamesOf W) (asked : ℕ) (values : NamesOf V) (steps : List Step) → values ≡ no_names
    → IsSpent With cost after asked asked values steps steps []
spent_start {V} With cost after asked values steps none = record {
  names = no_names;
  hold = subst (λ (s : NamesOf V). HoldBoth With s no_names) (sym none) (hold_none With);
  spent = λ more. omega arith;
}

-- answers with one more at their end before others are the answers before that one and the others
pushed : (answers : List Answer) (a : Answer) (more : List Answer) → (answers ++ a ∷ []) ++ more ≡ answers ++ a ∷ more
pushed answers a more = append_assoc answers (a ∷ []) more

-- where one step more was paid for, no more was asked than the tolls of all
pub spent_step : {V W : Type 0} (With With' : V → W → Type 0) (cost : NamesOf W → List ℕ → Act → ℕ) (after : NamesOf W → List ℕ → Act → Answer → NamesOf W) (first asked asked' : ℕ) (values values' : NamesOf V)
    (steps : List Step) (step : Step) (later : List Step) (answers : List Answer) (a : Answer) (so : IsSpent With cost after first asked values steps (step ∷ later) answers)
    → asked' ≤ asked + cost so.names step.client step.act → HoldBoth With' values' (after so.names step.client step.act a) → IsSpent With' cost after first asked' values' steps later (answers ++ a ∷ [])
spent_step With With' cost after first asked asked' values values' steps step later answers a so paid hold = record {
  names = after so.names step.client step.act a;
  hold = hold;
  spent = λ more. let h = so.spent (a ∷ more) in let e = ap (λ xs. begun cost after no_names xs steps) (pushed answers a more) in omega (arith, h, paid, e);
}

-- what was asked up to a step that was begun is no more than the tolls of the begun steps
pub spent_begun : {V W : Type 0} (With : V → W → Type 0) (cost : NamesOf W → List ℕ → Act → ℕ) (after : NamesOf W → List ℕ → Act → Answer → NamesOf W) (first asked asked' : ℕ) (values : NamesOf V)
    (steps : List Step) (step : Step) (later : List Step) (answers : List Answer) (so : IsSpent With cost after first asked values steps (step ∷ later) answers)
    → asked' ≤ asked + cost so.names step.client step.act → asked' ≤ first + begun cost after no_names answers steps
spent_begun With cost after first asked asked' values steps step later answers so paid =
    let h = so.spent [] in let e = ap (λ xs. begun cost after no_names xs steps) (append_nil answers) in omega (arith, h, paid, e)

-- what was asked for all steps is no more than their tolls
pub spent_whole : {V W : Type 0} (With : V → W → Type 0) (cost : NamesOf W → List ℕ → Act → ℕ) (after : NamesOf W → List ℕ → Act → Answer → NamesOf W) (first asked : ℕ) (values : NamesOf V)
    (steps later : List Step) (answers : List Answer) → IsSpent With cost after first asked values steps later answers → asked ≤ first + begun cost after no_names answers steps
spent_whole With cost after first asked values steps later answers so =
    let h = so.spent [] in let e = ap (λ xs. begun cost after no_names xs steps) (append_nil answers) in omega (arith, h, e)
