-- How a command is done or stopped, and how its lines end.
use Rattle.std.specs.Prelude.{◌≡◌, ℕ, Bool, true, false, List, Result, Ok, Err, string_bytes}
use Rattle.mix_base.specs.Counts.{HasRisen}
use Rattle.mix_io.specs.Views.{SinkView}
use Rattle.mix_io.specs.Contents.{Appends, AppendsPrefix}
use Rattle.mix_lines.specs.declared.fault.LinesFault.{LinesFault}
use Rattle.mix_lines.specs.declared.fault.LinesFault.TheVariants as lines
use Rattle.mix_run.specs.declared.outcome.Outcome.{Outcome}
use Rattle.mix_run.specs.declared.outcome.Outcome.TheVariants.{Answers, Faults}
use Rattle.mix_place.specs.declared.refusal.Stop.{Stop}
use Rattle.mix_place.specs.declared.refusal.Stop.TheVariants.{Refused, SinkFailed, OutOfMemory}
use Rattle.mix_run.specs.Ends.{TookPrefix, TookAtMost}

-- given lines were written whole
abbrev pub Wrote : SinkView → SinkView → List ℕ → Type 0
Wrote before after lines = Appends before.written after.written lines

-- given lines were cut short: a prefix of them was written, and the sink failed or memory ran out
abbrev pub IsCut : SinkView → SinkView → List ℕ → Stop → Type 0
IsCut before after lines (Refused r) = ⊥
IsCut before after lines SinkFailed = HasRisen before.faults after.faults × AppendsPrefix before.written after.written lines
IsCut before after lines OutOfMemory = AppendsPrefix before.written after.written lines

-- the exit status of a command that was done: 1 where a line of it is a fault line
abbrev pub outcome_status : Outcome → ℕ
outcome_status Answers = 0
outcome_status Faults = 1

-- a command was done with a given status: all lines of its course were written
abbrev pub IsDoneWith : (ℕ → List ℕ → Type 0) → ℕ → SinkView → SinkView → Type 0
IsDoneWith Course status before after = (lines : List ℕ) × Course status lines × Wrote before after lines

-- a command was done with the status of its outcome: all lines of its course were written
abbrev pub IsDoneAs : (ℕ → List ℕ → Type 0) → SinkView → SinkView → Outcome → Type 0
IsDoneAs Course before after outcome = IsDoneWith Course (outcome_status outcome) before after

-- a command was done whose course says what is written from one state of the sink to another: all lines of that course were written
abbrev pub IsDoneAlong : (SinkView → SinkView → ℕ → List ℕ → Type 0) → SinkView → SinkView → Outcome → Type 0
IsDoneAlong Course before after outcome = IsDoneAs (Course before after) before after outcome

-- a command was done, and no line of it is a fault line
abbrev pub IsDone : (ℕ → List ℕ → Type 0) → SinkView → SinkView → Type 0
IsDone Course before after = IsDoneWith Course 0 before after

-- the outcome of a run whose lines came to their end, by whether one of them is a fault line
abbrev pub outcome_of : Bool → Outcome
outcome_of true = Faults
outcome_of false = Answers

-- what a run comes to whose lines ended so: its outcome, or the stop that a fault of them is; its lines need no input
abbrev pub IsEndOf : Result Bool LinesFault → Result Outcome Stop → Type 0
IsEndOf (Ok marked) end = end ≡ Ok (outcome_of marked)
IsEndOf (Err lines.InputFailed) end = ⊥
IsEndOf (Err lines.SinkFailed) end = end ≡ Err SinkFailed
IsEndOf (Err lines.OutOfMemory) end = end ≡ Err OutOfMemory

-- a command was stopped: it was refused as its course says and nothing was written, or its lines were cut short; what is given is so where memory ran
-- out before any line
abbrev pub IsStopFrom : Type 0 → (ℕ → List ℕ → Type 0) → SinkView → SinkView → Stop → Type 0
IsStopFrom Unbegun Course before after (Refused r) = Course r.status (string_bytes r.line) × (after.written ≡ before.written)
IsStopFrom Unbegun Course before after SinkFailed = HasRisen before.faults after.faults × TookPrefix Course before after
IsStopFrom Unbegun Course before after OutOfMemory = TookAtMost Unbegun Course before after

-- a command was stopped that asks nothing of stores
abbrev pub IsStop : (ℕ → List ℕ → Type 0) → SinkView → SinkView → Stop → Type 0
IsStop Course = IsStopFrom (Unit {0}) Course

-- a command was stopped whose course says what is written from one state of the sink to another: by a refusal, or its lines were cut short; what is
-- given is so where memory ran out before any line
abbrev pub IsStopAlong : Type 0 → (SinkView → SinkView → ℕ → List ℕ → Type 0) → SinkView → SinkView → Stop → Type 0
IsStopAlong Unbegun Course before after stop = IsStopFrom Unbegun (Course before after) before after stop

-- the lines of a command were cut short: a prefix of them was written, and the sink failed or memory ran out
abbrev pub IsCutShort : (ℕ → List ℕ → Type 0) → SinkView → SinkView → Stop → Type 0
IsCutShort Course before after (Refused r) = ⊥
IsCutShort Course before after SinkFailed = HasRisen before.faults after.faults × TookPrefix Course before after
IsCutShort Course before after OutOfMemory = TookPrefix Course before after

-- how lines of a given course end: all were written, where the input failed too; or the sink failed or memory ran out, after a prefix of them
abbrev pub EndsAsHeard : (ℕ → List ℕ → Type 0) → SinkView → SinkView → Result Bool LinesFault → Type 0
EndsAsHeard Course before after (Ok marked) = IsDoneAs Course before after (outcome_of marked)
EndsAsHeard Course before after (Err lines.InputFailed) = (status : ℕ) × IsDoneWith Course status before after
EndsAsHeard Course before after (Err lines.SinkFailed) = HasRisen before.faults after.faults × TookPrefix Course before after
EndsAsHeard Course before after (Err lines.OutOfMemory) = TookPrefix Course before after
