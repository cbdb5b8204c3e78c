-- The courses of the commands that differ in the form of what is written alone, and of those without fault lines.
use Rattle.std.proofs.Common.{◌≡◌, ◌≤◌, inl, inr, ℕ, true, List, Result, OnOk, IfOk, IfErr, refl, subst, Ok, Err}
use Rattle.mix_io.specs.Views.{FilesView, SinkView}
use Rattle.mix_top.specs.Commands.{Command, asks_stores}
use Rattle.mix_top.specs.Course.{IsCourse, Plans}
use Rattle.mix_run.specs.Runs.{Runs}
use Rattle.mix_top.specs.FilesRead.{MayRead, PlanMayRead}
use Rattle.mix_run.specs.FilesRead.{RunMayRead}
use Rattle.mix_run.specs.Outside.{Outside}
use Rattle.mix_run.specs.Running.{given_by, run_lines}
use Rattle.mix_run.specs.Stops.{IsDone, IsDoneAs, IsStop, IsStopFrom}
use Rattle.mix_top.specs.Stops.{IsTold, unmarked_end}
use Rattle.mix_run.specs.Ends.{EndsFrom}
use Rattle.mix_top.specs.Words.{plan_command, run_command}
use Rattle.mix_place.specs.declared.refusal.Stop.{Stop}
use Rattle.mix_run.specs.declared.running.RunForm.{RunForm}
use Rattle.mix_run.specs.declared.running.RunForm.TheVariants.{Answers, Counts, Executed, Looped}
use Rattle.mix_place.specs.declared.refusal.Stop.TheVariants.{Refused, SinkFailed, OutOfMemory}
use Rattle.mix_top.proofs.Telling.{told_ends}

module _ (Course : ℕ → List ℕ → Type 0) (before after : SinkView) where
  -- where a command without fault lines ended well, it was done
  pub unmarked_done : (r : Result (Unit {0}) Stop) → OnOk r (IsDone Course before after) → IfOk (unmarked_end r) (IsDoneAs Course before after)
  unmarked_done (Ok done) h = h
  unmarked_done (Err stop) h = tt

  module _ (Unbegun : Type 0) (unbegun : Unbegun) where
    -- where a command was stopped that asks nothing of stores, what is so in any case was so before any line
    stop_from : (stop : Stop) → IsStop Course before after stop → IsStopFrom Unbegun Course before after stop
    stop_from (Refused r) h = h
    stop_from SinkFailed h = h
    stop_from OutOfMemory (inl h) = inl (unbegun, h.1)
    stop_from OutOfMemory (inr h) = inr h

    -- where a command without fault lines was stopped, its end is a stop of its course
    pub unmarked_stopped : (r : Result (Unit {0}) Stop) → IfErr r (IsStop Course before after) → IfErr (unmarked_end r) (IsStopFrom Unbegun Course before after)
    unmarked_stopped (Ok done) h = tt
    unmarked_stopped (Err stop) h = stop_from stop h

-- what is so of the course of a run is so of its command's, in each form
pub run_course : (P : (ℕ → List ℕ → Type 0) → Type 0) (before after : Outside) (s0 s1 : SinkView) (form : RunForm) (file catalog script : List ℕ)
    → P (Runs (given_by form) (run_lines form) before after file catalog script s0 s1) → P (IsCourse before after (run_command form file catalog script) s0 s1)
run_course P before after s0 s1 Answers file catalog script h = h
run_course P before after s0 s1 Counts file catalog script h = h
run_course P before after s0 s1 Executed file catalog script h = h
run_course P before after s0 s1 Looped file catalog script h = h

-- what is so of what a run may read is so of its command's, in each form
pub run_may_read : (P : (List ℕ → Type 0) → Type 0) (files : FilesView) (form : RunForm) (file catalog script : List ℕ) → P (RunMayRead (given_by form) files file catalog script)
    → P (MayRead files (run_command form file catalog script))
run_may_read P files Answers file catalog script h = h
run_may_read P files Counts file catalog script h = h
run_may_read P files Executed file catalog script h = h
run_may_read P files Looped file catalog script h = h

-- a run asks tables in each form
pub run_asks : (form : RunForm) (file catalog script : List ℕ) → asks_stores (run_command form file catalog script) ≡ true
run_asks Answers file catalog script = refl
run_asks Counts file catalog script = refl
run_asks Executed file catalog script = refl
run_asks Looped file catalog script = refl

-- what is so of what the writing of a plan comes to is so of its command's, in each form
pub plan_course : (P : (ℕ → List ℕ → Type 0) → Type 0) (before after : Outside) (s0 s1 : SinkView) (form : RunForm) (file catalog : List ℕ)
    → P (Plans (given_by form) before.files after.files file catalog) → P (IsCourse before after (plan_command form file catalog) s0 s1)
plan_course P before after s0 s1 Answers file catalog h = h
plan_course P before after s0 s1 Counts file catalog h = h
plan_course P before after s0 s1 Executed file catalog h = h
plan_course P before after s0 s1 Looped file catalog h = h

-- what is so of what the writing of a plan may read is so of its command's, in each form
pub plan_may_read : (P : (List ℕ → Type 0) → Type 0) (files : FilesView) (form : RunForm) (file catalog : List ℕ) → P (PlanMayRead (given_by form) files file catalog) → P (MayRead files (plan_command form file catalog))
plan_may_read P files Answers file catalog h = h
plan_may_read P files Counts file catalog h = h
plan_may_read P files Executed file catalog h = h
plan_may_read P files Looped file catalog h = h

-- a command without fault lines, which the words are, whose end was told ends as its course says; it asked nothing of stores
pub words_told : (before after : Outside) (s0 s1 s2 : SinkView) (command words : Command) → command ≡ words → (r : Result (Unit {0}) Stop) (status : ℕ) → after.stores ≡ before.stores
    → OnOk r (IsDone (IsCourse before after command s0 s1) s0 s1) → IfErr r (IsStop (IsCourse before after command s0 s1) s0 s1) → s0.faults ≤ s1.faults → IsTold (unmarked_end r) s1 s2 status
    → EndsFrom (after.stores ≡ before.stores) (IsCourse before after words s0 s2) s0 s2 status
words_told before after s0 s1 s2 command words is r status same done stop steady told =
    let Course = IsCourse before after command s0 s1 in
    let Unbegun : Type 0 = after.stores ≡ before.stores in
    subst (λ (c : Command). EndsFrom Unbegun (IsCourse before after c s0 s2) s0 s2 status) is
    (told_ends before after command s0 s1 s2 (unmarked_end r) status steady (unmarked_done Course s0 s1 r done) (unmarked_stopped Course s0 s1 Unbegun same r stop) told)
