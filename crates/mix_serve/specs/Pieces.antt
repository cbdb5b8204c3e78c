-- What answering one piece of a stream of requests comes to.
use Rattle.std.specs.Prelude.{◌≡◌, ◌⊎◌, ℕ, Bool, List, Result, Ok, Err, is_some}
use Rattle.mix_base.specs.Counts.{HasRisen}
use Rattle.mix_io.specs.Contents.{Appends, AppendsPrefix}
use Rattle.mix_io.specs.Views.{SinkView}
use Rattle.lxp_core.specs.View.{View}
use Rattle.lxp_wire.specs.Stream.{Stream, IsFed}
use Rattle.mix_serve.specs.declared.fault.ServeFault.{ServeFault}
use Rattle.mix_serve.specs.declared.fault.ServeFault.TheVariants.{InputFailed, SinkFailed, OutOfMemory}

-- a piece was answered, and all replies to it were written
pub record PieceIsWritten (old new : View) (stream : Stream) (piece : List ℕ) (stream' : Stream) (sink sink' : SinkView) : Type 0 where
  pub replies : List ℕ
  pub fed : IsFed old new stream piece stream' replies
  pub written : Appends sink.written sink'.written replies

-- a piece was answered, and a prefix of the replies to it was written
pub record PieceIsBegun (old new : View) (stream : Stream) (piece : List ℕ) (stream' : Stream) (sink sink' : SinkView) : Type 0 where
  pub replies : List ℕ
  pub fed : IsFed old new stream piece stream' replies
  pub written : AppendsPrefix sink.written sink'.written replies

-- how answering a piece ends: it was answered, and whether a bad tag has come is told; or the sink failed; or memory ran out, before anything
-- was written or after a prefix of the replies
abbrev pub PieceEnds : View → View → Stream → List ℕ → Stream → SinkView → SinkView → Result Bool ServeFault → Type 0
PieceEnds old new stream piece stream' sink sink' (Ok bad) = PieceIsWritten old new stream piece stream' sink sink' × (bad ≡ is_some stream'.bad)
PieceEnds old new stream piece stream' sink sink' (Err InputFailed) = ⊥
PieceEnds old new stream piece stream' sink sink' (Err SinkFailed) = HasRisen sink.faults sink'.faults × PieceIsBegun old new stream piece stream' sink sink'
PieceEnds old new stream piece stream' sink sink' (Err OutOfMemory) = (sink' ≡ sink) ⊎ PieceIsBegun old new stream piece stream' sink sink'
