-- What one request writes, and which fault of lines a fault below it is.
use Rattle.std.specs.Prelude.{◌≡◌, ◌⊎◌, ℕ, Bool, List}
use Rattle.mix_base.specs.Counts.{HasRisen}
use Rattle.mix_io.specs.Views.{SinkView}
use Rattle.mix_io.specs.Contents.{Appends, AppendsPrefix}
use Rattle.mix_io.specs.declared.input.TakeFault.{TakeFault}
use Rattle.mix_io.specs.declared.input.TakeFault.TheVariants as take
use Rattle.mix_io.specs.declared.sink.SinkFault.{SinkFault}
use Rattle.mix_io.specs.declared.sink.SinkFault.TheVariants as sink
use Rattle.mix_script.specs.Answers.{line_of}
use Rattle.mix_script.specs.declared.answer.Answer.{Answer}
use Rattle.mix_lines.specs.declared.fault.LinesFault.{LinesFault}
use Rattle.mix_lines.specs.declared.fault.LinesFault.TheVariants.{InputFailed, SinkFailed, OutOfMemory}
use Rattle.mix_lines.specs.Lines.{no_form_line}
use Rattle.mix_script.specs.Allowed.{is_fault}

-- the fault of lines that a fault of the sink becomes
abbrev pub of_sink : SinkFault → LinesFault
of_sink sink.Failed = SinkFailed
of_sink sink.OutOfMemory = OutOfMemory

-- the fault of lines that a fault of the input becomes
abbrev pub of_take : TakeFault → LinesFault
of_take take.Failed = InputFailed
of_take take.OutOfMemory = OutOfMemory

-- the whole line of an answer with a given property was written; the mark says whether the answer is a fault
pub record WroteLine (IsAnswer : Answer → Type 0) (names : List (List ℕ)) (client : List ℕ) (before after : SinkView) (marked : Bool) : Type 0 where
  pub a : Answer
  pub answer : IsAnswer a
  pub marks : marked ≡ is_fault a
  pub written : Appends before.written after.written (line_of names client a)

-- a prefix of the line of an answer with a given property was written
pub record WrotePrefix (IsAnswer : Answer → Type 0) (names : List (List ℕ)) (client : List ℕ) (before after : SinkView) : Type 0 where
  pub a : Answer
  pub answer : IsAnswer a
  pub written : AppendsPrefix before.written after.written (line_of names client a)

-- a step's line was cut short: the sink failed in the line, or memory ran out before the line or in it
abbrev pub IsStepCut : (Answer → Type 0) → List (List ℕ) → List ℕ → SinkView → SinkView → LinesFault → Type 0
IsStepCut IsAnswer names client before after InputFailed = ⊥
IsStepCut IsAnswer names client before after SinkFailed = HasRisen before.faults after.faults × WrotePrefix IsAnswer names client before after
IsStepCut IsAnswer names client before after OutOfMemory = (after ≡ before) ⊎ WrotePrefix IsAnswer names client before after

-- the line that answers a line of no form was cut short: a prefix of it was written, and the sink failed or memory ran out
abbrev pub IsNoFormCut : SinkView → SinkView → LinesFault → Type 0
IsNoFormCut before after InputFailed = ⊥
IsNoFormCut before after SinkFailed = HasRisen before.faults after.faults × AppendsPrefix before.written after.written no_form_line
IsNoFormCut before after OutOfMemory = AppendsPrefix before.written after.written no_form_line
