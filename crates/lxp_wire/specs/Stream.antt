-- The stream of requests that a server is fed, in whatever pieces it comes.
use Rattle.std.specs.Prelude.{◌≡◌, ◌⊎◌, ℕ, ◌+◌, ◌-◌, ◌<◌, ◌^◌, min, List, [], ◌++◌, length, slice_index, drop, Bool, true, false, Option, Some, None}
use Rattle.std.specs.List.{flat_map, AllByRecursion}
use Rattle.lxp_core.specs.View.{View}
use Rattle.wire_text.specs.declared.request.Request.{Request}
use Rattle.lxp_wire.specs.declared.server.Server.{Server}
use Rattle.wire_text.specs.Request.{request_bytes, IsRequest, IsPrefixOfRequest}
use Rattle.wire_text.specs.Reply.{Said, reply_bytes}
use Rattle.lxp_wire.specs.Answer.{AreAnswers}

-- what a server keeps of its stream: where the request begins that is not whole, its bytes so far, and where the first bad tag stands
pub record Stream : Type 0 where
  pub at : ℕ
  pub begun : List ℕ
  pub bad : Option ℕ

-- no request begins with the first byte
abbrev pub IsBadTag : List ℕ → Type 0
IsBadTag x = (0 < length x) × (2 < slice_index x 0)

-- the text is these requests, and then a proper prefix of a further one, or a bad tag
pub record Splits (x : List ℕ) (requests : List Request) (rest : List ℕ) : Type 0 where
  pub whole : x ≡ flat_map request_bytes requests ++ rest
  pub each : AllByRecursion IsRequest requests
  pub partial : IsPrefixOfRequest rest ⊎ IsBadTag rest

-- a place in a stream, which is counted up to the end of 64 bits
abbrev pub place_after : ℕ → List Request → ℕ
place_after at requests = min (at + length (flat_map request_bytes requests)) (2 ^ 64 - 1)

-- what is kept of a stream after whole requests
pub record IsAfter (at : ℕ) (requests : List Request) (rest : List ℕ) (new : Stream) : Type 0 where
  pub place : new.at ≡ place_after at requests
  pub goes_on : IsPrefixOfRequest rest → (new.begun ≡ rest) × (new.bad ≡ None)
  pub stops : IsBadTag rest → new.bad ≡ Some new.at

-- a piece of a stream was answered: each request that it completes, in order; nothing after a bad tag
pub record IsFed (old new : View) (before : Stream) (piece : List ℕ) (after : Stream) (replies : List ℕ) : Type 0 where
  pub requests : List Request
  pub said : List Said
  pub answers : AreAnswers old new requests said
  pub written : replies ≡ flat_map reply_bytes said
  pub going : before.bad ≡ None → (rest : List ℕ) × Splits (before.begun ++ piece) requests rest × IsAfter before.at requests rest after
  pub stopped : (at : ℕ) → before.bad ≡ Some at → (requests ≡ []) × (after ≡ before)

-- a text was served: the requests that it is cut into, in order, up to a place; after it stands a bad tag or a proper prefix of a request
pub record IsServed (old new : View) (text before after : List ℕ) (at : ℕ) (bad : Bool) : Type 0 where
  pub requests : List Request
  pub said : List Said
  pub answers : AreAnswers old new requests said
  pub written : after ≡ before ++ flat_map reply_bytes said
  pub whole : text ≡ flat_map request_bytes requests ++ drop at text
  pub each : AllByRecursion IsRequest requests
  pub place : length (flat_map request_bytes requests) ≡ at
  pub stops : bad ≡ true → IsBadTag (drop at text)
  pub goes_on : bad ≡ false → IsPrefixOfRequest (drop at text)

-- what a server keeps of its stream
abbrev pub stream_of : {S : Type 0} → Server S → Stream
stream_of server = record { at = server.at; begun = server.begun; bad = server.bad }

-- a stream of which nothing has come
abbrev pub fresh : Stream
fresh = record { at = 0; begun = []; bad = None }

-- the sources that are served
abbrev pub sources_of : {S : Type 0} → Server S → S
sources_of server = server.sources

-- two pieces of a stream one after another are cut into the requests of the first, and those of what it left with the second
abbrev pub PiecesAreOne : Type 0
PiecesAreOne = (x y : List ℕ) (requests later : List Request) (rest end : List ℕ) → Splits x requests rest → Splits (rest ++ y) later end → Splits (x ++ y) (requests ++ later) end

-- no text is cut into requests and a rest in two ways
abbrev pub SplitsAreOne : Type 0
SplitsAreOne = (x : List ℕ) (requests others : List Request) (rest end : List ℕ) → Splits x requests rest → Splits x others end → (requests ≡ others) × (rest ≡ end)
