-- Lines are read one after another.
use Rattle.std.proofs.Common.{◌≡◌, ◌∙◌, ◌≤◌, inl, inr, ℕ, Bool, true, false, Ok, Option, Some, List, [], ◌∷◌, ◌++◌, refl, ap, sym, subst, arith, append_assoc}
use Rattle.mix_base.proofs.Lists.{append_nil}
use Rattle.mix_io.specs.Input.{InputView}
use Rattle.mix_io.proofs.Taken.{took_none, took_more}
use Rattle.mix_script.specs.declared.step.LineRead.{LineRead}
use Rattle.mix_lines.specs.Heard.{Heard, heard, next_asks}
use Rattle.mix_lines.specs.Reading.{AreAskedInTime, ArePieces, AreRead, AreWhole, EndsInLf, IsMoved, IsReaderOf, Reads, read_asks}
use Rattle.mix_lines.specs.declared.input_lines.InputLines.{InputLines}
use Rattle.mix_lines.specs.declared.reader.LineReader.{LineReader}

-- from a state to itself no line was read
pub read_same : (input : InputView) (r : LineReader) → AreRead input input r r []
read_same input r = record {
  bytes = [];
  took = took_none input;
  passed = [];
  cut = append_nil r.page;
  end = λ goes. inl refl;
  ask = λ more end. refl;
  timely = λ none. record { earlier = []; last = []; parts = refl; short = omega arith; passed = []; part = []; cut = refl; whole = inl refl; free = tt; first = []; later = []; are = refl; same = refl };
  rises = omega arith;
}

-- a list is empty where it is with another after it
first_none : (xs ys : List ℕ) → xs ++ ys ≡ [] → xs ≡ []
first_none [] ys e = refl
first_none (x ∷ xs) ys e = cc

-- a text is whole with a whole line after it
whole_more : (text line : List ℕ) → EndsInLf line → AreWhole (text ++ line)
whole_more text line end = inr (text ++ end.0, ap (λ l. text ++ l) end.1 ∙ sym (append_assoc text end.0 (10 ∷ [])))

-- the lines that were read ask for what they asked for
pub passed_asks : (old mid : InputView) (r r1 : LineReader) (asks : List Heard) (far : AreRead old mid r r1 asks) → heard far.passed ≡ asks
passed_asks old mid r r1 asks far = ap heard (sym (append_nil far.passed)) ∙ far.ask [] (λ ended. refl) ∙ append_nil asks

-- what is taken for the next line after what was asked for in time was asked for in time
pub timely_more : (old mid : InputView) (r r1 : LineReader) (asks : List Heard) (far : AreRead old mid r r1 asks) → r.page ≡ [] → (more : List ℕ) → ArePieces r1.page more → (r1.ended ≡ true → more ≡ [])
    → AreAskedInTime (far.bytes ++ more) asks
timely_more old mid r r1 asks far page more (inl none) still =
    subst (λ (b : List ℕ). AreAskedInTime b asks) (sym (ap (λ m. far.bytes ++ m) none ∙ append_nil far.bytes)) (far.timely page)
timely_more old mid r r1 asks far page more (inr pieces) still = by_end r1.ended refl
  where
    by_end : (ended : Bool) → r1.ended ≡ ended → AreAskedInTime (far.bytes ++ more) asks
    by_end true ended = subst (λ (b : List ℕ). AreAskedInTime b asks) (sym (ap (λ m. far.bytes ++ m) (still ended) ∙ append_nil far.bytes)) (far.timely page)
    by_end false goes = record {
      earlier = far.bytes ++ pieces.0;
      last = pieces.1;
      parts = ap (λ m. far.bytes ++ m) pieces.2 ∙ sym (append_assoc far.bytes pieces.0 pieces.1);
      short = pieces.4;
      passed = far.passed;
      part = r1.page ++ pieces.0;
      cut = ap (λ b. b ++ pieces.0) (ap (λ p. p ++ far.bytes) (sym page) ∙ far.cut) ∙ append_assoc far.passed r1.page pieces.0;
      whole = far.end goes;
      free = pieces.3;
      first = asks;
      later = [];
      are = sym (append_nil asks);
      same = passed_asks old mid r r1 asks far;
    }

-- what was asked for in time was so where more is asked for after it
timely_on : (bytes : List ℕ) (asks next : List Heard) → AreAskedInTime bytes asks → AreAskedInTime bytes (asks ++ next)
timely_on bytes asks next t = record {
  earlier = t.earlier;
  last = t.last;
  parts = t.parts;
  short = t.short;
  passed = t.passed;
  part = t.part;
  cut = t.cut;
  whole = t.whole;
  free = t.free;
  first = t.first;
  later = t.later ++ next;
  are = ap (λ a. a ++ next) t.are ∙ append_assoc t.first t.later next;
  same = t.same;
}

-- what the next line came to, or the end of the input, is read after the lines before it
pub read_more : (old mid new : InputView) (r r1 r2 : LineReader) (asks : List Heard) (read : Option LineRead) → AreRead old mid r r1 asks → IsReaderOf mid r1 → Reads mid new r1 r2 read → mid.faults ≤ new.faults
    → AreRead old new r r2 (asks ++ next_asks read)
read_more old mid new r r1 r2 asks read far reader reads rises = record {
  bytes = far.bytes ++ reads.bytes;
  took = took_more old mid new far.bytes reads.bytes far.took reads.took;
  passed = far.passed ++ reads.line;
  cut =
      sym (append_assoc r.page far.bytes reads.bytes) ∙ ap (λ b. b ++ reads.bytes) far.cut ∙ append_assoc far.passed r1.page reads.bytes
      ∙ ap (λ b. far.passed ++ b) reads.cut ∙ sym (append_assoc far.passed reads.line r2.page);
  end = λ goes. whole_more far.passed reads.line (reads.end goes);
  ask = λ more end.
      ap heard (append_assoc far.passed reads.line more)
      ∙ far.ask (reads.line ++ more) (λ ended.
      let still = reads.still ended in
      let none : reads.line ++ r2.page ≡ [] = sym reads.cut ∙ ap (λ b. r1.page ++ b) still.0 ∙ append_nil r1.page ∙ (reader ended).0 in
      ap (λ l. l ++ more) (first_none reads.line r2.page none) ∙ end still.1)
      ∙ ap (λ h. asks ++ h) (reads.ask more end) ∙ sym (append_assoc asks (next_asks read) (heard more));
  timely = λ page. timely_on (far.bytes ++ reads.bytes) asks (next_asks read) (timely_more old mid r r1 asks far page reads.bytes reads.pieces (λ ended. (reads.still ended).0));
  rises = let h = far.rises in omega (arith, h, rises);
}

-- the line that comes next is read after those before it
pub read_after : (old mid new : InputView) (r r1 : LineReader) (r2 : InputLines) (asks : List Heard) → AreRead old mid r r1 asks → IsReaderOf mid r1 → IsMoved mid new r1 r2 (Ok true)
    → AreRead old new r r2.reader (asks ++ read_asks r2.read)
read_after old mid new r r1 r2 asks far reader moved = read_more old mid new r r1 r2.reader asks (Some r2.read) far reader moved.0 moved.1
