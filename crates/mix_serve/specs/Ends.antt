-- How serving a stream of requests ends.
use Rattle.std.specs.Prelude.{◌≡◌, ◌⊎◌, ℕ, ◌+◌, ◌<◌, ◌≤◌, List, [], ◌++◌, length, Result, Ok, Err}
use Rattle.mix_base.specs.Counts.{HasRisen}
use Rattle.mix_io.specs.Contents.{Appends}
use Rattle.mix_io.specs.Input.{InputView, IsAtEnd, Took}
use Rattle.mix_io.specs.Views.{SinkView}
use Rattle.lxp_core.specs.View.{View, Keeps}
use Rattle.lxp_wire.specs.Answer.{fills_in}
use Rattle.lxp_wire.specs.Stream.{IsBadTag, Splits}
use Rattle.wire_text.specs.declared.request.Request.{Request}
use Rattle.wire_text.specs.Request.{IsPrefixOfRequest}
use Rattle.mix_serve.specs.Replied.{HasNoBadTag, RepliesAreBegun, RepliesAreWritten}
use Rattle.mix_serve.specs.declared.fault.ServeFault.{ServeFault}
use Rattle.mix_serve.specs.declared.fault.ServeFault.TheVariants.{InputFailed, SinkFailed, OutOfMemory}
use Rattle.mix_serve.specs.declared.serving.Served.{Served}
use Rattle.mix_serve.specs.declared.serving.Served.TheVariants.{Whole, Broken, TooLong}

-- the most bytes of a stream after which more is taken
abbrev pub most_taken : ℕ
most_taken = 1073741824

-- all replies to bytes were written, and maybe more after them
pub record AreWrittenFirst (old : View) (bytes : List ℕ) (sink sink' : SinkView) : Type 0 where
  pub mid : View
  pub rest : List ℕ
  pub between : SinkView
  pub replies : RepliesAreWritten old mid bytes rest sink between
  pub more : List ℕ
  pub later : Appends between.written sink'.written more

-- when more was taken last, at most so many bytes had been taken, without a bad tag among them, and all replies to them were written; then at most 4,096 more
pub record IsTakenInTime (old : View) (bytes : List ℕ) (sink sink' : SinkView) : Type 0 where
  pub earlier : List ℕ
  pub last : List ℕ
  pub parts : bytes ≡ earlier ++ last
  pub few : length earlier ≤ most_taken
  pub good : HasNoBadTag earlier
  pub answered : AreWrittenFirst old earlier sink sink'
  pub short : length last ≤ 4096

-- the bytes that were taken of an input are few enough, and the input is at its end
abbrev pub IsOver : InputView → List ℕ → Type 0
IsOver input bytes = (length bytes ≤ most_taken) × IsAtEnd input

-- how a stream ends, by the bytes that were taken of the input and what their whole requests leave of them: after whole requests alone; with
-- a bad tag, or inside a request; or after too many bytes without a bad tag
abbrev pub IsEnd : InputView → List ℕ → List ℕ → Served → Type 0
IsEnd input bytes rest Whole = (rest ≡ []) × IsOver input bytes
IsEnd input bytes rest Broken = IsBadTag rest ⊎ ((0 < length rest) × IsPrefixOfRequest rest × IsOver input bytes)
IsEnd input bytes rest TooLong = IsPrefixOfRequest rest × (most_taken < length bytes)

-- no stream has two ends
abbrev pub EndsAreApart : Type 0
EndsAreApart = (input : InputView) (bytes : List ℕ) (requests others : List Request) (rest left : List ℕ) (end other : Served) → Splits bytes requests rest → Splits bytes others left
    → IsEnd input bytes rest end → IsEnd input bytes left other → end ≡ other

-- the replies to the first of the bytes that were taken were begun, and no others when memory ran out; the sources keep what they were
pub record IsOutOfMemory (old new : View) (bytes : List ℕ) (sink sink' : SinkView) : Type 0 where
  pub done : List ℕ
  pub later : List ℕ
  pub parts : bytes ≡ done ++ later
  pub rest : List ℕ
  pub between : View
  pub begun : RepliesAreBegun old between done rest sink sink'
  pub keeps : Keeps between new

-- so serving ends that has taken these bytes: at an end of the stream, or where the input failed between two pieces, all replies were written;
-- where the sink failed or memory ran out, a prefix of them
abbrev pub ServingEndsSo : View → View → List ℕ → InputView → InputView → SinkView → SinkView → Result Served ServeFault → Type 0
ServingEndsSo old new bytes input input' sink sink' (Ok end) = (rest : List ℕ) × RepliesAreWritten old new bytes rest sink sink' × IsEnd input' bytes rest end
ServingEndsSo old new bytes input input' sink sink' (Err InputFailed) =
    HasRisen input.faults input'.faults × (rest : List ℕ) × RepliesAreWritten old new bytes rest sink sink' × IsPrefixOfRequest rest × (length bytes ≤ most_taken)
ServingEndsSo old new bytes input input' sink sink' (Err SinkFailed) = HasRisen sink.faults sink'.faults × (rest : List ℕ) × RepliesAreBegun old new bytes rest sink sink'
ServingEndsSo old new bytes input input' sink sink' (Err OutOfMemory) = IsOutOfMemory old new bytes sink sink'

-- how serving ends over sources that meant the first view before and mean the second after: bytes were taken in time, no more fills were asked
-- than their requests ask for, and serving ends so that has taken them
pub record ServingEnds (old new : View) (input input' : InputView) (sink sink' : SinkView) (end : Result Served ServeFault) : Type 0 where
  pub bytes : List ℕ
  pub took : Took input input' bytes
  pub taken : IsTakenInTime old bytes sink sink'
  pub fills : (requests : List Request) (rest : List ℕ) → Splits bytes requests rest → new.fills ≤ old.fills + fills_in requests
  pub ends : ServingEndsSo old new bytes input input' sink sink' end
