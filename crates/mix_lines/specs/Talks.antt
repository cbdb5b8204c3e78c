-- How a talk ends.
use Rattle.std.specs.Prelude.{◌≡◌, ◌≤◌, ℕ, Bool, List, ◌++◌, length, Option, Result, Ok, Err}
use Rattle.mix_base.specs.Counts.{HasRisen}
use Rattle.mix_io.specs.Contents.{Appends}
use Rattle.mix_io.specs.Input.{InputView, IsAtEnd, Took}
use Rattle.mix_io.specs.Views.{SinkView}
use Rattle.lxp_core.specs.View.{View}
use Rattle.mix_script.specs.Transcript.{Finished, IsRight}
use Rattle.mix_script.specs.declared.answer.Answer.{Answer}
use Rattle.mix_session.specs.Meaning.{Course}
use Rattle.mix_lines.specs.Ends.{Ends}
use Rattle.mix_lines.specs.Heard.{Heard, heard, steps_in, whole_lines}
use Rattle.mix_lines.specs.Lines.{spoken}
use Rattle.mix_lines.specs.Told.{EndsOn}
use Rattle.mix_lines.specs.declared.fault.LinesFault.{LinesFault}
use Rattle.mix_lines.specs.declared.fault.LinesFault.TheVariants.{InputFailed, SinkFailed, OutOfMemory}

-- what a talk is answerable for that has taken these bytes and ends so: all that their lines ask for; where the input failed, what their
-- whole lines ask for
abbrev pub heard_by : List ℕ → Result Bool LinesFault → List Heard
heard_by bytes (Ok marked) = heard bytes
heard_by bytes (Err InputFailed) = heard (whole_lines bytes)
heard_by bytes (Err SinkFailed) = heard bytes
heard_by bytes (Err OutOfMemory) = heard bytes

-- where a talk leaves its input that ends so: at its end, or failed where the talk ends by that
abbrev pub IsInputLeft : InputView → InputView → Result Bool LinesFault → Type 0
IsInputLeft input input' (Ok marked) = IsAtEnd input'
IsInputLeft input input' (Err InputFailed) = HasRisen input.faults input'.faults
IsInputLeft input input' (Err SinkFailed) = Unit {0}
IsInputLeft input input' (Err OutOfMemory) = Unit {0}

-- bytes were taken in time: but for the last of them, at most 4,096, the lines that answer all their whole lines were written
pub record IsTakenInTime (names : List (List ℕ)) (bytes : List ℕ) (before after : Option (List ℕ)) : Type 0 where
  pub earlier : List ℕ
  pub last : List ℕ
  pub parts : bytes ≡ earlier ++ last
  pub short : length last ≤ 4096
  pub answers : List Answer
  pub all : length answers ≡ length (steps_in (heard (whole_lines earlier)))
  pub rest : List ℕ
  pub written : Appends before after (spoken names (heard (whole_lines earlier)) answers ++ rest)

-- how a talk on a course ends, over sources that meant the first view before and mean the second after: bytes were taken in time, and the
-- lines end so that answer what they ask for
pub record HeardEnds {W : Type 0} (c : Course W) (old new : View) (names : List (List ℕ)) (input input' : InputView) (before after : SinkView) (r : Result Bool LinesFault) : Type 0 where
  pub bytes : List ℕ
  pub took : Took input input' bytes
  pub timely : IsTakenInTime names bytes before.written after.written
  pub input_ends : IsInputLeft input input' r
  pub ends : Ends c old new names (heard_by bytes r) before after r
  pub told : (f : Finished) → c.IsDocument f.tree → IsRight c.NamesAt f (steps_in (heard_by bytes r)) → EndsOn c.roots c.NamesAt f names (heard_by bytes r) before.written after.written r
