-- How a talk ends.
use Rattle.std.specs.Prelude.{◌≡◌, ◌⊎◌, ℕ, Bool, List, Result, Ok, Err}
use Rattle.mix_io.specs.Input.{InputView, Took}
use Rattle.mix_io.specs.Views.{SinkView}
use Rattle.mix_catalog.specs.declared.source.SourceSpec.{SourceSpec}
use Rattle.mix_lines.specs.Talks.{IsInputLeft, IsTakenInTime, heard_by}
use Rattle.mix_lines.specs.Heard.{Heard}
use Rattle.mix_lines.specs.declared.fault.LinesFault.{LinesFault}
use Rattle.mix_lines.specs.declared.fault.LinesFault.TheVariants.{InputFailed, SinkFailed, OutOfMemory}
use Rattle.xmas_read.specs.Results.{names_of_sources}
use Rattle.mix_place.specs.Files.{IsCatalogFile}
use Rattle.mix_run.specs.Ends.{Ends}
use Rattle.mix_run.specs.Outside.{Outside}
use Rattle.mix_run.specs.Stops.{EndsAsHeard, outcome_of, outcome_status}
use Rattle.mix_run.specs.Talks.{IsTalkRefused, Talks}

-- bytes were taken of an input in time, and the lines end whose course is given by what these bytes ask for; sources have given names
pub record TalkedAlong (names : List (List ℕ)) (Course : List Heard → SinkView → SinkView → ℕ → List ℕ → Type 0) (input input' : InputView) (sink sink' : SinkView) (end : Result Bool LinesFault) : Type 0 where
  pub bytes : List ℕ
  pub took : Took input input' bytes
  pub timely : IsTakenInTime names bytes sink.written sink'.written
  pub input_ends : IsInputLeft input input' end
  pub ends : EndsAsHeard (Course (heard_by bytes end) sink sink') sink sink' end

-- the status of a talk, by how it ended
abbrev pub talk_status : Result Bool LinesFault → ℕ
talk_status (Ok marked) = outcome_status (outcome_of marked)
talk_status (Err SinkFailed) = 5
talk_status (Err OutOfMemory) = 6
talk_status (Err InputFailed) = 10

-- a talk whose files were all accepted was held over the sources of its catalog, and its status says how it ended
abbrev pub IsHeld : Outside → Outside → List ℕ → List ℕ → InputView → InputView → SinkView → SinkView → ℕ → Type 0
IsHeld before after view catalog input input' sink sink' status =
    (sources : List SourceSpec) × IsCatalogFile before.files catalog sources × (end : Result Bool LinesFault) × (status ≡ talk_status end)
    × TalkedAlong (names_of_sources sources) (Talks before after view catalog) input input' sink sink' end

-- a talk ends: a file is refused, and nothing is taken of the input or asked of stores; or it was held
abbrev pub TalkEnds : Outside → Outside → List ℕ → List ℕ → InputView → InputView → SinkView → SinkView → ℕ → Type 0
TalkEnds before after view catalog input input' sink sink' status =
    ((input' ≡ input) × (after.stores ≡ before.stores) × Ends (IsTalkRefused before.files after.files view catalog) sink sink' status)
    ⊎ IsHeld before after view catalog input input' sink sink' status
