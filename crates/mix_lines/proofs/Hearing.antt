-- A talk ends as the lines of its input were answered.
use Rattle.std.proofs.Common.{◌≡◌, ◌∙◌, ◌≤◌, ℕ, Bool, true, false, List, [], ◌++◌, Option, Some, None, Result, Ok, Err, refl, ap, sym, subst, arith, length, take, drop, append_assoc, length-append, take-append-drop}
use Rattle.std.proofs.lemmas.List.{length-take-le}
use Rattle.mix_base.proofs.Lists.{append_nil}
use Rattle.mix_base.specs.Counts.{HasRisen}
use Rattle.mix_io.specs.Contents.{Appends}
use Rattle.mix_io.specs.Input.{InputView, Took}
use Rattle.mix_io.specs.Views.{SinkView}
use Rattle.mix_io.specs.declared.input.TakeFault.{TakeFault}
use Rattle.mix_io.specs.declared.input.TakeFault.TheVariants as take
use Rattle.mix_io.proofs.Taken.{took_none, took_more}
use Rattle.lxp_core.specs.View.{View}
use Rattle.mix_script.specs.declared.answer.Answer.{Answer}
use Rattle.mix_script.specs.declared.step.LineRead.{LineRead}
use Rattle.mix_script.specs.declared.step.Step.{Step}
use Rattle.mix_session.specs.Meaning.{Course}
use Rattle.mix_lines.specs.Answered.{AreAnswered, EndsAfter, IsCutByAnswer, IsLater}
use Rattle.mix_lines.specs.Cuts.{of_take}
use Rattle.mix_lines.specs.Ends.{Ends}
use Rattle.mix_lines.specs.Heard.{Heard, heard, next_asks, steps_in, whole_lines}
use Rattle.mix_lines.specs.Lines.{spoken}
use Rattle.mix_lines.specs.Reading.{AreAskedInTime, ArePieces, AreRead, IsMoved, IsReaderOf, Reads, TookSome, read_asks}
use Rattle.mix_lines.specs.ReadingLaws.{passed_asks, timely_more}
use Rattle.mix_lines.specs.Requests.{coming}
use Rattle.mix_lines.specs.Talks.{HeardEnds, IsInputLeft, IsTakenInTime, heard_by}
use Rattle.mix_lines.specs.declared.fault.LinesFault.{LinesFault}
use Rattle.mix_lines.specs.declared.fault.LinesFault.TheVariants.{InputFailed, SinkFailed, OutOfMemory}
use Rattle.mix_lines.specs.declared.input_lines.InputLines.{InputLines}
use Rattle.mix_lines.specs.declared.reader.LineReader.{LineReader}
use Rattle.mix_lines.proofs.Ended.{unbegun_ends}
use Rattle.mix_lines.proofs.Telling.{ends_told, spoken_append, steps_append}
use Rattle.mix_lines.proofs.Timely.{timely_start}
use Rattle.mix_lines.proofs.Whole.{whole_of}

module _ {W : Type 0} (c : Course W) (old new : View) (names : List (List ℕ)) (input input' : InputView) (sink sink' : SinkView) where
  -- a talk that has taken these bytes in time, and whose lines end so, ends so over a document that is told too
  talk_ends : (r : Result Bool LinesFault) (bytes : List ℕ) → Took input input' bytes → IsTakenInTime names bytes sink.written sink'.written → IsInputLeft input input' r → Ends c old new names (heard_by bytes r) sink sink' r
      → HeardEnds c old new names input input' sink sink' r
  talk_ends r bytes took timely left ends = record { bytes = bytes; took = took; timely = timely; input_ends = left; ends = ends; told = ends_told c old new names (heard_by bytes r) sink sink' r ends }

-- where memory ran out before anything was taken, a talk ends
pub talk_unbegun : {W : Type 0} (c : Course W) (v : View) (names : List (List ℕ)) (input : InputView) (sink : SinkView) → HeardEnds c v v names input input sink sink (Err OutOfMemory)
talk_unbegun c v names input sink =
    talk_ends c v v names input input sink sink (Err OutOfMemory) [] (took_none input) (timely_start names sink.written) tt (unbegun_ends c v names (heard []) sink)

-- bytes that were asked for in time were taken in time, where the lines of all that was asked for are there
in_time : (names : List (List ℕ)) (bytes : List ℕ) (done : List Heard) (before after : Option (List ℕ)) (answers : List Answer) (rest : List ℕ) → AreAskedInTime bytes done → length answers ≡ length (steps_in done)
    → Appends before after (spoken names done answers ++ rest) → IsTakenInTime names bytes before after
in_time names bytes done before after answers rest t all written = record {
  earlier = t.earlier;
  last = t.last;
  parts = t.parts;
  short = t.short;
  answers = first;
  all = length-take-le count answers enough ∙ ap (λ h. length (steps_in h)) (sym same);
  rest = spoken names t.later more ++ rest;
  written = subst (λ h. Appends before after (spoken names h first ++ (spoken names t.later more ++ rest))) (sym same) (subst (Appends before after) lines written);
}
  where
    count : ℕ
    count = length (steps_in t.first)

    first : List Answer
    first = take count answers

    more : List Answer
    more = drop count answers

    enough : count ≤ length answers
    enough = let both = ap (λ h. length (steps_in h)) t.are ∙ ap (λ (xs : List Step). length xs) (steps_append t.first t.later) ∙ length-append (steps_in t.first) (steps_in t.later) in omega (arith, all, both)

    same : heard (whole_lines t.earlier) ≡ t.first
    same = ap (λ b. heard (whole_lines b)) t.cut ∙ ap heard (whole_of t.passed t.part t.whole t.free) ∙ t.same

    lines : spoken names done answers ++ rest ≡ spoken names t.first first ++ (spoken names t.later more ++ rest)
    lines =
        ap (λ h. spoken names h answers ++ rest) t.are ∙ ap (λ xs. spoken names (t.first ++ t.later) xs ++ rest) (sym (take-append-drop count answers))
        ∙ ap (λ l. l ++ rest) (spoken_append names t.first t.later first more (length-take-le count answers enough)) ∙ append_assoc (spoken names t.first first) (spoken names t.later more) rest

-- lines were read of an input by a reader that had nothing, and all that they ask for was answered
module _ {W : Type 0} (c : Course W) (old new : View) (names : List (List ℕ)) (input mid input' : InputView) (sink sink' : SinkView) (start r1 : LineReader) (page : start.page ≡ []) (done : List Heard)
    (far : AreRead input mid start r1 done) (reader : IsReaderOf mid r1) (answers : List Answer) (all : length answers ≡ length (steps_in done)) (rest : List ℕ)
    (written : Appends sink.written sink'.written (spoken names done answers ++ rest)) where
  -- what was taken is the lines with their ends and what the reader has
  cut : far.bytes ≡ far.passed ++ r1.page
  cut = ap (λ p. p ++ far.bytes) (sym page) ∙ far.cut

  -- what was taken with more for the next line was taken in time
  timely_next : (more : List ℕ) → ArePieces r1.page more → (r1.ended ≡ true → more ≡ []) → IsTakenInTime names (far.bytes ++ more) sink.written sink'.written
  timely_next more pieces still = in_time names (far.bytes ++ more) done sink.written sink'.written answers rest (timely_more input mid start r1 done far page more pieces still) all written

  -- how a talk ends
  abbrev Talked : Result Bool LinesFault → Type 0
  Talked r = HeardEnds c old new names input input' sink sink' r

  -- how lines end that answer what was heard and what is asked for after it
  abbrev Ended : List Heard → Result Bool LinesFault → Type 0
  Ended later r = Ends c old new names (done ++ later) sink sink' r

  -- where a line was read last, or the input has ended, the bytes that were taken ask for what was answered, that line, and what the reader has
  all_asks : (r2 : LineReader) (read : Option LineRead) (reads : Reads mid input' r1 r2 read) → heard (far.bytes ++ reads.bytes) ≡ done ++ (next_asks read ++ heard r2.page)
  all_asks r2 read reads =
      ap heard (ap (λ b. b ++ reads.bytes) cut ∙ append_assoc far.passed r1.page reads.bytes ∙ ap (λ b. far.passed ++ b) reads.cut)
      ∙ far.ask (reads.line ++ r2.page) (λ ended. sym reads.cut ∙ ap (λ b. r1.page ++ b) (reads.still ended).0 ∙ append_nil r1.page ∙ (reader ended).0)
      ∙ ap (λ h. done ++ h) (reads.ask r2.page (λ ended. (reads.reader ended).0))

  -- the talk has ended where its lines did, after the line that was read last or at the end of the input
  ends_at : (r : Result Bool LinesFault) (r2 : LineReader) (read : Option LineRead) (reads : Reads mid input' r1 r2 read) → ((bytes : List ℕ) → heard_by bytes r ≡ heard bytes) → IsInputLeft input input' r
      → Ended (next_asks read ++ heard r2.page) r → Talked r
  ends_at r r2 read reads by left ends =
      let bytes = far.bytes ++ reads.bytes in
      talk_ends c old new names input input' sink sink' r bytes (took_more input mid input' far.bytes reads.bytes far.took reads.took) (timely_next reads.bytes reads.pieces (λ ended. (reads.still ended).0)) left
      (subst (λ h. Ends c old new names h sink sink' r) (sym (by bytes ∙ all_asks r2 read reads)) ends)

  -- where a line's answer was cut short, the talk ends
  by_cut : (r : Result Bool LinesFault) → IsCutByAnswer r → (r2 : InputLines) → IsMoved mid input' r1 r2 (Ok true) → ((later : List Heard) → IsLater r later → Ended (read_asks r2.read ++ later) r) → Talked r
  by_cut (Ok marked) short r2 moved ends = absurd short
  by_cut (Err InputFailed) short r2 moved ends = absurd short
  by_cut (Err SinkFailed) short r2 moved ends = ends_at (Err SinkFailed) r2.reader (Some r2.read) moved.0 (λ bytes. refl) tt (ends (heard r2.reader.page) tt)
  by_cut (Err OutOfMemory) short r2 moved ends = ends_at (Err OutOfMemory) r2.reader (Some r2.read) moved.0 (λ bytes. refl) tt (ends (heard r2.reader.page) tt)

  -- where the input has ended, the talk ends
  by_end : (marked : Bool) (r2 : LineReader) → Reads mid input' r1 r2 None → ((later : List Heard) → IsLater (Ok marked) later → Ended later (Ok marked)) → Talked (Ok marked)
  by_end marked r2 reads ends =
      let at_end = reads.reader (reads.last refl) in
      ends_at (Ok marked) r2 None reads (λ bytes. refl) at_end.1 (ends (heard r2.page) (ap heard at_end.0))

  -- where no more could be taken of the input, the talk ends
  by_fault : (fault : TakeFault) → TookSome mid input' r1 fault → (fault ≡ take.Failed → HasRisen mid.faults input'.faults) → ((later : List Heard) → IsLater (Err (of_take fault)) later → Ended later (Err (of_take fault)))
      → Talked (Err (of_take fault))
  by_fault fault took cause ends = by_kind fault took cause ends
    where
      bytes : List ℕ → List ℕ
      bytes more = far.bytes ++ more

      parts : (more : List ℕ) → bytes more ≡ far.passed ++ (r1.page ++ more)
      parts more = ap (λ b. b ++ more) cut ∙ append_assoc far.passed r1.page more

      by_kind : (fault : TakeFault) → TookSome mid input' r1 fault → (fault ≡ take.Failed → HasRisen mid.faults input'.faults) → ((later : List Heard) → IsLater (Err (of_take fault)) later → Ended later (Err (of_take fault)))
          → Talked (Err (of_take fault))
      by_kind take.Failed took cause ends =
          let same : heard (whole_lines (bytes took.bytes)) ≡ done ++ [] =
          ap (λ b. heard (whole_lines b)) (parts took.bytes) ∙ ap heard (whole_of far.passed (r1.page ++ took.bytes) (far.end (took.going refl)) (took.part refl))
          ∙ passed_asks input mid start r1 done far ∙ sym (append_nil done) in
          let h = cause refl in
          let rises = far.rises in
          talk_ends c old new names input input' sink sink' (Err InputFailed) (bytes took.bytes) (took_more input mid input' far.bytes took.bytes far.took took.took) (timely_next took.bytes took.pieces took.still)
          (omega (arith, h, rises)) (subst (λ h. Ends c old new names h sink sink' (Err InputFailed)) (sym same) (ends [] refl))
      by_kind take.OutOfMemory took cause ends =
          let later = heard (r1.page ++ took.bytes) in
          let same : heard (bytes took.bytes) ≡ done ++ later =
          ap heard (parts took.bytes) ∙ far.ask (r1.page ++ took.bytes) (λ ended. ap (λ p. p ++ took.bytes) (reader ended).0 ∙ took.still ended) in
          talk_ends c old new names input input' sink sink' (Err OutOfMemory) (bytes took.bytes) (took_more input mid input' far.bytes took.bytes far.took took.took) (timely_next took.bytes took.pieces took.still)
          tt (subst (λ h. Ends c old new names h sink sink' (Err OutOfMemory)) (sym same) (ends later tt))

  -- however the last call for a line ended, the talk ends
  pub talk_by : (r : Result Bool LinesFault) (call : Result Bool TakeFault) (r2 : InputLines) → IsMoved mid input' r1 r2 call → EndsAfter call r
      → ((later : List Heard) → IsLater r later → Ended (coming (read_asks r2.read) call ++ later) r) → Talked r
  talk_by r (Ok true) r2 moved after ends = by_cut r after r2 moved ends
  talk_by r (Ok false) r2 moved after ends =
      subst (λ r. Talked r) (sym after.1) (by_end after.0 r2.reader moved.0 (subst (λ r. (later : List Heard) → IsLater r later → Ended later r) after.1 ends))
  talk_by r (Err fault) r2 moved after ends =
      subst (λ r. Talked r) (sym after) (by_fault fault moved.0 moved.1 (subst (λ r. (later : List Heard) → IsLater r later → Ended later r) after ends))

-- the faults of an input have not become fewer where a call for a line was made
pub moved_rises : (old new : InputView) (r : LineReader) (r' : InputLines) (call : Result Bool TakeFault) → IsMoved old new r r' call → old.faults ≤ new.faults
moved_rises old new r r' (Ok true) moved = moved.1
moved_rises old new r r' (Ok false) moved = moved.1
moved_rises old new r r' (Err fault) moved = moved.2

module _ {I W : Type 0} (view : I → InputView) (c : Course W) (old new : View) (names : List (List ℕ)) (x x' : I) (sink sink' : SinkView) (start : InputLines) (r : Result Bool LinesFault)
    (is : AreAnswered (λ q y heard. AreRead (view x) (view y) start.reader q.reader heard) (λ q y q' y' call. IsMoved (view y) (view y') q.reader q' call) (λ q y. IsReaderOf (view y) q.reader) (λ q. read_asks q.read)
    c old new names x' sink sink' r) where
  -- where the lines of an input were answered, a talk ends
  pub heard_ends : start.reader.page ≡ [] → HeardEnds c old new names (view x) (view x') sink sink' r
  heard_ends page =
      talk_by c old new names (view x) (view is.given) (view x') sink sink' start.reader is.requests.reader page is.done is.come is.ready is.answers is.all is.rest is.written r is.call is.last is.moved is.ends_after is.ends

  -- the faults of the input have not become fewer
  pub heard_rises : (view x).faults ≤ (view x').faults
  heard_rises = let h = is.come.rises in let k = moved_rises (view is.given) (view x') is.requests.reader is.last is.call is.moved in omega (arith, h, k)
