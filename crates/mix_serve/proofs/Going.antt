-- A stream of requests that is served piece by piece.
use Rattle.std.proofs.Common.{◌≡◌, ◌⊎◌, ◌∙◌, inl, inr, ◌+◌, ◌<◌, ◌≤◌, ℕ, true, false, List, [], ◌∷◌, ◌++◌, None, Result, Ok, Err, refl, ap, sym, subst, arith, length, take, length-append}
use Rattle.std.specs.Prelude.{is_some}
use Rattle.std.proofs.lemmas.List.{length-take}
use Rattle.mix_base.proofs.Lists.{append_nil, take_whole}
use Rattle.mix_base.specs.Counts.{HasRisen}
use Rattle.mix_io.specs.Contents.{Appends}
use Rattle.mix_io.specs.Input.{InputView, Gives, IsAtEnd, Took}
use Rattle.mix_io.specs.Views.{SinkView}
use Rattle.mix_io.specs.declared.input.TakeFault.{TakeFault}
use Rattle.mix_io.specs.declared.input.TakeFault.TheVariants as take_fault
use Rattle.mix_io.proofs.Written.{one_more}
use Rattle.lxp_core.specs.View.{View, Keeps}
use Rattle.lxp_core.proofs.Views.{keeps_same}
use Rattle.lxp_wire.specs.Answer.{fills_in}
use Rattle.lxp_wire.specs.Stream.{Stream, IsAfter, IsBadTag, IsFed, Splits, fresh}
use Rattle.wire_text.specs.declared.request.Request.{Request}
use Rattle.wire_text.specs.Request.{IsPrefixOfRequest}
use Rattle.wire_text.proofs.Asked.{nothing_more}
use Rattle.mix_serve.specs.Ends.{ServingEndsSo, IsTakenInTime, ServingEnds, most_taken}
use Rattle.mix_serve.specs.Faults.{of_take}
use Rattle.mix_serve.specs.Pieces.{PieceEnds, PieceIsBegun, PieceIsWritten}
use Rattle.mix_serve.specs.Replied.{RepliesAreBegun, IsReplied, RepliesAreWritten}
use Rattle.mix_serve.specs.declared.fault.ServeFault.{ServeFault}
use Rattle.mix_serve.specs.declared.fault.ServeFault.TheVariants.{InputFailed, SinkFailed, OutOfMemory}
use Rattle.mix_serve.specs.declared.serving.Served.{Served}
use Rattle.mix_serve.specs.declared.serving.Served.TheVariants.{Whole, Broken, TooLong}
use Rattle.mix_serve.proofs.Joined.{fills_join, replied_fills, replied_join}
use Rattle.mix_io.proofs.Taken.{took_more, took_none}
use Rattle.mix_serve.proofs.Appended.{appends_none, appends_prefix, appends_some, appends_whole}
use Rattle.mix_serve.proofs.Counted.{failures_counted}

-- serving has come so far: these bytes were taken, none of them is a bad tag, and all replies to them were written
pub record IsServing (old now : View) (input input' : InputView) (sink sink' : SinkView) (stream : Stream) (taken : ℕ) : Type 0 where
  pub bytes : List ℕ
  pub took : Took input input' bytes
  pub in_time : IsTakenInTime old bytes sink sink'
  pub count : taken ≡ length bytes
  pub written : RepliesAreWritten old now bytes stream.begun sink sink'
  pub going : IsPrefixOfRequest stream.begun
  pub good : stream.bad ≡ None
  pub inputs : input.faults ≤ input'.faults
  pub sinks : sink.faults ≤ sink'.faults

-- no bytes are no requests
no_requests : Splits [] [] []
no_requests = record { whole = refl; each = tt; partial = inl nothing_more }

-- where nothing was taken, all replies were written: none
none_written : (v : View) (sink : SinkView) → RepliesAreWritten v v [] [] sink sink
none_written v sink = record {
  replies = [];
  replied = record { requests = []; said = []; cut = no_requests; answers = refl; written = refl; counted = failures_counted v v [] [] refl };
  written = appends_none sink.written;
}

-- serving begins with nothing taken
pub serving_start : (v : View) (input : InputView) (sink : SinkView) → IsServing v v input input sink sink fresh 0
serving_start v input sink = record {
  bytes = [];
  took = took_none input;
  in_time = record {
    earlier = [];
    last = [];
    parts = refl;
    few = omega arith;
    good = ([], [], no_requests, nothing_more);
    answered = record { mid = v; rest = []; between = sink; replies = none_written v sink; more = []; later = appends_none sink.written };
    short = omega arith;
  };
  count = refl;
  written = none_written v sink;
  going = nothing_more;
  good = refl;
  inputs = omega arith;
  sinks = omega arith;
}

-- a take that gives nothing into room has met the end
pub gives_none : (old new : InputView) (count : ℕ) (room : List ℕ) → Gives old new count room → length room ≡ 4096 → count ≡ 0 → Took old new [] × IsAtEnd new
gives_none old new count room gives long none =
    (subst (λ n. Took old new (take n room)) none gives.took, elim (gives.end none) [ inl e ↦ absurd (omega (arith, e, long)) | inr end ↦ end ])

-- a piece was taken of an input: so many bytes, and not too many
pub record IsPiece (old new : InputView) (count : ℕ) (piece : List ℕ) : Type 0 where
  pub took : Took old new piece
  pub counted : length piece ≡ count
  pub short : length piece ≤ 4096

-- what a take put into the first places of room is a piece
pub gives_some : (old new : InputView) (count long : ℕ) (room more now : List ℕ) → Gives old new count room → now ≡ take long (room ++ more) → length room ≡ long → long ≡ 4096 → IsPiece old new count (take count now)
gives_some old new count long room more now gives is whole few =
    let same : room ≡ now = sym (is ∙ take_whole room more long whole) in
    let counted : length (take count now) ≡ count = omega (arith, length-take count now, gives.within, ap length same) in
    record { took = subst (λ r. Took old new (take count r)) same gives.took; counted = counted; short = omega (arith, counted, gives.within, whole, few) }

module _ {old now : View} {input mid : InputView} {sink between : SinkView} {stream : Stream} {taken : ℕ} (far : IsServing old now input mid sink between stream taken) where
  -- so far no more fills were asked than the requests ask for
  fills_far : (requests : List Request) (rest : List ℕ) → Splits far.bytes requests rest → now.fills ≤ old.fills + fills_in requests
  fills_far = replied_fills old now far.bytes stream.begun far.written.replies far.written.replied

  -- the replies were begun where they were written
  begun_far : RepliesAreBegun old now far.bytes stream.begun sink between
  begun_far = record { replies = far.written.replies; replied = far.written.replied; written = appends_whole sink.written between.written far.written.replies far.written.written }

  -- where nothing was taken further, serving ends so that has taken what it had
  ends_still : (new : InputView) (end : Result Served ServeFault) → Took mid new [] → ServingEndsSo old now far.bytes input new sink between end → ServingEnds old now input new sink between end
  ends_still new end none ends = record {
    bytes = far.bytes;
    took = subst (Took input new) (append_nil far.bytes) (took_more input mid new far.bytes [] far.took none);
    taken = far.in_time;
    fills = fills_far;
    ends = ends;
  }

  -- where memory ran out between two pieces, serving ends
  ends_memory : (new : InputView) → Took mid new [] → ServingEnds old now input new sink between (Err OutOfMemory)
  ends_memory new none =
      ends_still new (Err OutOfMemory) none
      record { done = far.bytes; later = []; parts = sym (append_nil far.bytes); rest = stream.begun; between = now; begun = begun_far; keeps = keeps_same now }

  -- where a take failed, serving ends
  pub ends_untaken : (new : InputView) (fault : TakeFault) → taken ≤ most_taken → Took mid new [] → (fault ≡ take_fault.Failed → HasRisen mid.faults new.faults)
      → ServingEnds old now input new sink between (Err (of_take fault))
  ends_untaken new take_fault.Failed few none cause =
      let risen = cause refl in
      ends_still new (Err InputFailed) none (omega (arith, risen, far.inputs), stream.begun, far.written, far.going, omega (arith, far.count, few))
  ends_untaken new take_fault.OutOfMemory few none cause = ends_memory new none

  -- at the end of the input after whole requests serving ends
  pub ends_whole : (new : InputView) → taken ≤ most_taken → Took mid new [] → IsAtEnd new → stream.begun ≡ [] → ServingEnds old now input new sink between (Ok Whole)
  ends_whole new few none end empty = ends_still new (Ok Whole) none (stream.begun, far.written, (empty, (omega (arith, far.count, few), end)))

  -- at the end of the input inside a request serving ends
  pub ends_inside : (new : InputView) → taken ≤ most_taken → Took mid new [] → IsAtEnd new → (stream.begun ≡ [] → ⊥) → ServingEnds old now input new sink between (Ok Broken)
  ends_inside new few none end some =
      ends_still new (Ok Broken) none (stream.begun, far.written, inr (some_length stream.begun some, far.going, (omega (arith, far.count, few), end)))
    where
      some_length : (xs : List ℕ) → (xs ≡ [] → ⊥) → 0 < length xs
      some_length [] h = absurd (h refl)
      some_length (x ∷ xs) h = omega arith

  -- after too many bytes serving ends
  pub ends_long : most_taken < taken → ServingEnds old now input mid sink between (Ok TooLong)
  ends_long many = record {
    bytes = far.bytes;
    took = far.took;
    taken = far.in_time;
    fills = fills_far;
    ends = (stream.begun, far.written, (far.going, omega (arith, far.count, many)));
  }

  module _ (new : View) {after : InputView} {piece : List ℕ} (stream' : Stream) (sink' : SinkView) {count : ℕ} (is : IsPiece mid after count piece) (few : taken ≤ most_taken) where
    -- what was taken with the piece was taken in time, whatever was written of the replies to the piece
    in_time_more : (some : List ℕ) → Appends between.written sink'.written some → IsTakenInTime old (far.bytes ++ piece) sink sink'
    in_time_more some appended = record {
      earlier = far.bytes;
      last = piece;
      parts = refl;
      few = omega (arith, far.count, few);
      good = (far.written.replied.requests, stream.begun, far.written.replied.cut, far.going);
      answered = record { mid = now; rest = stream.begun; between = between; replies = far.written; more = some; later = appended };
      short = is.short;
    }

    -- what was taken with the piece
    took_piece : Took input after (far.bytes ++ piece)
    took_piece = took_more input mid after far.bytes piece far.took is.took

    -- the piece was answered, so all that was taken was
    pub record IsJoined (replies : List ℕ) : Type 0 where
      pub requests : List Request
      pub rest : List ℕ
      pub replied : IsReplied old new (far.bytes ++ piece) rest (far.written.replies ++ replies)
      pub partial : IsPrefixOfRequest rest ⊎ IsBadTag rest
      pub kept : IsAfter stream.at requests rest stream'

    joined : (replies : List ℕ) → IsFed now new stream piece stream' replies → IsJoined replies
    joined replies fed =
        let cut = fed.going far.good in
        record {
          requests = fed.requests;
          rest = cut.0;
          replied = replied_join old now new far.bytes stream.begun piece cut.0 far.written.replies replies far.written.replied
              record {
                requests = fed.requests;
                said = fed.said;
                cut = cut.1;
                answers = fed.answers;
                written = fed.written;
                counted = failures_counted now new fed.requests fed.said fed.answers;
              };
          partial = cut.1.partial;
          kept = cut.2;
        }

    -- all replies were written
    written_more : (rest : List ℕ) (w : PieceIsWritten now new stream piece stream' between sink') → IsReplied old new (far.bytes ++ piece) rest (far.written.replies ++ w.replies)
        → RepliesAreWritten old new (far.bytes ++ piece) rest sink sink'
    written_more rest w replied = record {
      replies = far.written.replies ++ w.replies;
      replied = replied;
      written = one_more sink.written between.written sink'.written far.written.replies w.replies far.written.written w.written;
    }

    -- a prefix of the replies was written
    begun_more : (b : PieceIsBegun now new stream piece stream' between sink') → (rest : List ℕ) × RepliesAreBegun old new (far.bytes ++ piece) rest sink sink'
    begun_more b =
        let all = joined b.replies b.fed in (
          all.rest,
          record {
            replies = far.written.replies ++ b.replies;
            replied = all.replied;
            written = appends_prefix sink.written between.written sink'.written far.written.replies b.replies far.written.written b.written;
          },
        )

    -- a piece without a bad tag was answered: serving goes on
    pub serving_more : PieceEnds now new stream piece stream' between sink' (Ok false) → mid.faults ≤ after.faults → between.faults ≤ sink'.faults
        → IsServing old new input after sink sink' stream' (taken + count)
    serving_more ends inputs sinks =
        let all = joined ends.0.replies ends.0.fed in
        let more = goes_on all.partial all.kept (sym ends.1) in
        record {
          bytes = far.bytes ++ piece;
          took = took_piece;
          in_time = in_time_more ends.0.replies ends.0.written;
          count = omega (arith, far.count, is.counted, length-append far.bytes piece);
          written = subst (λ begun. RepliesAreWritten old new (far.bytes ++ piece) begun sink sink') (sym more.1) (written_more all.rest ends.0 all.replied);
          going = subst IsPrefixOfRequest (sym more.1) more.0;
          good = more.2;
          inputs = omega (arith, far.inputs, inputs);
          sinks = omega (arith, far.sinks, sinks);
        }
      where
        goes_on : {requests : List Request} {rest : List ℕ} → IsPrefixOfRequest rest ⊎ IsBadTag rest → IsAfter stream.at requests rest stream' → is_some stream'.bad ≡ false
            → IsPrefixOfRequest rest × (stream'.begun ≡ rest) × (stream'.bad ≡ None)
        goes_on (inl p) kept none = let k = kept.goes_on p in (p, k.0, k.1)
        goes_on (inr b) kept none = absurd (let k = kept.stops b in cc)

    module _ (asked : (requests : List Request) (rest : List ℕ) → Splits (stream.begun ++ piece) requests rest → new.fills ≤ now.fills + fills_in requests) where
      -- where a piece was taken last, serving ends so that has taken it
      ends_piece : (some : List ℕ) → Appends between.written sink'.written some → (end : Result Served ServeFault) → ServingEndsSo old new (far.bytes ++ piece) input after sink sink' end
          → ServingEnds old new input after sink sink' end
      ends_piece some appended end ends = record {
        bytes = far.bytes ++ piece;
        took = took_piece;
        taken = in_time_more some appended;
        fills = fills_join old now new far.bytes stream.begun piece far.written.replies far.written.replied asked;
        ends = ends;
      }

      -- a piece with a bad tag was answered: serving ends
      pub ends_bad : PieceEnds now new stream piece stream' between sink' (Ok true) → ServingEnds old new input after sink sink' (Ok Broken)
      ends_bad ends =
          let all = joined ends.0.replies ends.0.fed in
          ends_piece ends.0.replies ends.0.written (Ok Broken) (all.rest, written_more all.rest ends.0 all.replied, inl (stops all.partial all.kept (sym ends.1)))
        where
          stops : {requests : List Request} {rest : List ℕ} → IsPrefixOfRequest rest ⊎ IsBadTag rest → IsAfter stream.at requests rest stream' → is_some stream'.bad ≡ true → IsBadTag rest
          stops (inl p) kept some = absurd (let k = (kept.goes_on p).1 in cc)
          stops (inr b) kept some = b

      -- the sink failed or memory ran out in a piece: serving ends
      pub ends_cut : (fault : ServeFault) → PieceEnds now new stream piece stream' between sink' (Err fault) → Keeps now new → ServingEnds old new input after sink sink' (Err fault)
      ends_cut InputFailed ends keeps = absurd ends
      ends_cut SinkFailed ends keeps =
          let risen = ends.0 in
          let begun = begun_more ends.1 in
          let some = appends_some between.written sink'.written ends.1.replies ends.1.written in
          ends_piece some.0 some.1 (Err SinkFailed) (omega (arith, risen, far.sinks), begun.0, begun.1)
      ends_cut OutOfMemory (inl same) keeps =
          ends_piece [] (subst (λ (k : SinkView). Appends between.written k.written []) (sym same) (appends_none between.written)) (Err OutOfMemory)
          record {
            done = far.bytes;
            later = piece;
            parts = refl;
            rest = stream.begun;
            between = now;
            begun = subst (RepliesAreBegun old now far.bytes stream.begun sink) (sym same) begun_far;
            keeps = keeps;
          }
      ends_cut OutOfMemory (inr b) keeps =
          let begun = begun_more b in
          let some = appends_some between.written sink'.written b.replies b.written in
          ends_piece some.0 some.1 (Err OutOfMemory)
          record { done = far.bytes ++ piece; later = []; parts = sym (append_nil (far.bytes ++ piece)); rest = begun.0; between = new; begun = begun.1; keeps = keeps_same new }

-- where memory ran out before anything was taken, serving ends
pub ends_unbegun : (v : View) (input : InputView) (sink : SinkView) → ServingEnds v v input input sink sink (Err OutOfMemory)
ends_unbegun v input sink = ends_memory (serving_start v input sink) input (took_none input)
