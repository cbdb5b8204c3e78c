-- How lines end over a document that is told.
use Rattle.std.specs.Prelude.{◌≡◌, ℕ, Bool, false, List, [], ◌++◌, Option, Result, Ok, Err}
use Rattle.mix_tree.specs.Forest.{LabelledTree}
use Rattle.mix_io.specs.Contents.{Appends, AppendsPrefix}
use Rattle.mix_script.specs.Names.{no_names}
use Rattle.mix_script.specs.Transcript.{AreNotes, Finished, Naming, Note, transcript, unnamed}
use Rattle.mix_script.specs.declared.step.Step.{Step}
use Rattle.mix_lines.specs.Heard.{Heard, steps_in}
use Rattle.mix_lines.specs.Lines.{heard_transcript}
use Rattle.mix_lines.specs.declared.fault.LinesFault.{LinesFault}
use Rattle.mix_lines.specs.declared.fault.LinesFault.TheVariants.{InputFailed, SinkFailed, OutOfMemory}

-- given lines are the transcript of what was heard on a finished document, under notes that stand only where they may
pub record AreLinesOn (roots : Bool) (NamesAt : Naming) (f : Finished) (names : List (List ℕ)) (heard : List Heard) (lines : List ℕ) : Type 0 where
  pub notes : List Note
  pub allowed : AreNotes roots NamesAt f no_names notes (steps_in heard)
  pub are : lines ≡ heard_transcript f names notes heard

-- given lines are the transcript of the first part of what was heard, so that the lines of all begin with them
pub record AreFirstLinesOn (roots : Bool) (NamesAt : Naming) (f : Finished) (names : List (List ℕ)) (heard : List Heard) (lines : List ℕ) : Type 0 where
  pub first : List Heard
  pub later : List Heard
  pub parts : heard ≡ first ++ later
  pub on : AreLinesOn roots NamesAt f names first lines

-- a transcript of what was heard on a finished document, under allowed notes, was written; where the sink failed or memory ran out, a prefix of one of
-- its first part
abbrev pub EndsOn : Bool → Naming → Finished → List (List ℕ) → List Heard → Option (List ℕ) → Option (List ℕ) → Result Bool LinesFault → Type 0
EndsOn roots NamesAt f names heard before after (Ok marked) = (lines : List ℕ) × AreLinesOn roots NamesAt f names heard lines × Appends before after lines
EndsOn roots NamesAt f names heard before after (Err InputFailed) = (lines : List ℕ) × AreLinesOn roots NamesAt f names heard lines × Appends before after lines
EndsOn roots NamesAt f names heard before after (Err SinkFailed) = (lines : List ℕ) × AreFirstLinesOn roots NamesAt f names heard lines × AppendsPrefix before after lines
EndsOn roots NamesAt f names heard before after (Err OutOfMemory) = (lines : List ℕ) × AreFirstLinesOn roots NamesAt f names heard lines × AppendsPrefix before after lines

-- the transcript of steps on a tree without notes was written, or after an error a prefix of it
abbrev pub EndsUnmarked : LabelledTree → List Step → Option (List ℕ) → Option (List ℕ) → Result Bool LinesFault → Type 0
EndsUnmarked t steps before after (Ok marked) = (marked ≡ false) × Appends before after (transcript (unnamed t) [] [] steps)
EndsUnmarked t steps before after (Err fault) = AppendsPrefix before after (transcript (unnamed t) [] [] steps)
