-- What is replied to the bytes of a stream of requests.
use Rattle.std.specs.Prelude.{◌≡◌, ℕ, List, ◌++◌}
use Rattle.std.specs.List.{flat_map}
use Rattle.mix_base.specs.Counts.{HasRisenBy}
use Rattle.mix_io.specs.Contents.{Appends, AppendsPrefix}
use Rattle.mix_io.specs.Views.{SinkView}
use Rattle.lxp_core.specs.View.{View}
use Rattle.lxp_wire.specs.Answer.{AreAnswers}
use Rattle.lxp_wire.specs.Stream.{Splits}
use Rattle.wire_text.specs.declared.request.Request.{Request}
use Rattle.wire_text.specs.Reply.{Said, reply_bytes}
use Rattle.wire_text.specs.Request.{IsPrefixOfRequest}
use Rattle.mix_serve.specs.Failures.{failures}

-- the bytes of a stream are whole requests and a rest, a part of a further request or a bad tag with what comes after it, and the replies
-- are those that sources gave to these requests, in order, which meant the first view before them and mean the second after them; of each
-- source at most as many of them say that it failed as its count of faults rose
pub record IsReplied (old new : View) (bytes rest replies : List ℕ) : Type 0 where
  pub requests : List Request
  pub said : List Said
  pub cut : Splits bytes requests rest
  pub answers : AreAnswers old new requests said
  pub written : replies ≡ flat_map reply_bytes said
  pub counted : (s : ℕ) → HasRisenBy (failures s requests said) (old.faults s) (new.faults s)

-- all replies to the bytes of a stream were written
pub record RepliesAreWritten (old new : View) (bytes rest : List ℕ) (before after : SinkView) : Type 0 where
  pub replies : List ℕ
  pub replied : IsReplied old new bytes rest replies
  pub written : Appends before.written after.written replies

-- a prefix of the replies to the bytes of a stream was written
pub record RepliesAreBegun (old new : View) (bytes rest : List ℕ) (before after : SinkView) : Type 0 where
  pub replies : List ℕ
  pub replied : IsReplied old new bytes rest replies
  pub written : AppendsPrefix before.written after.written replies

-- there is no bad tag in the bytes of a stream: they are whole requests, and a part of a further one
abbrev pub HasNoBadTag : List ℕ → Type 0
HasNoBadTag bytes = (requests : List Request) × (rest : List ℕ) × Splits bytes requests rest × IsPrefixOfRequest rest

-- where the bytes of a stream were answered, and then those of its next piece after what they left, all of them were answered as one
abbrev pub PiecesAreAnsweredAsOne : Type 0
PiecesAreAnsweredAsOne = (old mid new : View) (bytes begun piece rest replies more : List ℕ) → IsReplied old mid bytes begun replies → IsReplied mid new (begun ++ piece) rest more
    → IsReplied old new (bytes ++ piece) rest (replies ++ more)
