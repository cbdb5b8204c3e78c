-- A line that is read page by page.
use Rattle.std.proofs.Common.{◌≡◌, ◌<◌, ◌≤◌, ◌+◌, ◌-◌, ◌^◌, ◌∙◌, inl, inr, ℕ, zero, suc, Bool, true, false, List, [], ◌∷◌, ◌++◌, Option, Some, None, IsTrue, cond, is_some, refl, ap, sym, subst, arith, length, take, append_assoc, length-append, length-take}
use Rattle.mix_base.proofs.Lists.{append_nil}
use Rattle.mix_io.specs.Input.{InputView, Took}
use Rattle.mix_io.specs.declared.input.TakeFault.{TakeFault}
use Rattle.mix_io.specs.declared.input.TakeFault.TheVariants.{Failed, OutOfMemory}
use Rattle.mix_script.specs.declared.step.LineRead.{LineRead}
use Rattle.mix_lines.specs.Heard.{heard, next_asks}
use Rattle.mix_lines.specs.Pages.{Refilled}
use Rattle.mix_lines.specs.Reading.{ArePieces, HasNoLf, IsLine, IsReaderOf, Moved, TookSome, Reads, to_read}
use Rattle.mix_lines.specs.declared.reader.LineReader.{LineReader}
use Rattle.mix_lines.proofs.Long.{no_lf_append, no_lf_take, kept_asks, kept_line, lines_without}
use Rattle.mix_io.proofs.Taken.{took_none, took_more}

-- the part of a line that was read so far: bytes without LF were moved, no more of them kept than a line may have with its end, and the pages taken
-- for them were taken of the input
pub record IsCutting (old now : InputView) (r r' : LineReader) (line : List ℕ) : Type 0 where
  pub bytes : List ℕ
  pub took : Took old now bytes
  pub body : List ℕ
  pub free : HasNoLf body
  pub kept : line ≡ take 1048578 body
  pub cut : r.page ++ bytes ≡ body ++ r'.page
  pub reader : IsReaderOf now r'
  pub still : r.ended ≡ true → (bytes ≡ []) × (r'.ended ≡ true)
  pub pieces : ArePieces r.page bytes
  pub less : to_read now r' + length body ≤ to_read old r

-- how many pages can still be taken
abbrev pub pages_left : InputView → LineReader → ℕ
pages_left input r = cond r.ended 0 (2 ^ 64 - input.taken + 1)

-- fewer pages can still be taken where one more was taken
pub pages_fewer : (now new : InputView) (r r' : LineReader) → r.ended ≡ false → Refilled now new r'.page → (r'.page ≡ [] → r'.ended ≡ true) → pages_left new r' < pages_left now r
pages_fewer now new r r' more filled end = rw more (by_end r'.ended refl)
  where
    by_page : (page : List ℕ) → r'.page ≡ page → r'.ended ≡ false → 0 < length r'.page
    by_page [] e k = absurd (no (sym k ∙ end e))
      where
        no : false ≡ true → ⊥
        no h = cc
    by_page (b ∷ bs) e k = let l = ap (λ (xs : List ℕ). length xs) e in omega (arith, l)

    by_end : (b : Bool) → r'.ended ≡ b → cond b 0 (2 ^ 64 - new.taken + 1) < 2 ^ 64 - now.taken + 1
    by_end true e = omega arith
    by_end false e = let some = by_page r'.page refl e in omega (arith, some, filled.took.counted, filled.few)

-- less is left to read where a part of a page was read that has bytes
fewer : (room page line part rest old : ℕ) → room + page + line ≤ old → page ≡ part + rest → 0 < part → room + rest < old
fewer room page line part rest old less e some = omega (arith, less, e, some)

-- a part with an LF has bytes
some_part : (part body : List ℕ) → part ≡ body ++ 10 ∷ [] → 0 < length part
some_part part body e = let long = ap (λ (xs : List ℕ). length xs) e ∙ length-append body (10 ∷ []) in omega (arith, long)

-- a reader has met the end, or it has not
not_both : {b : Bool} → b ≡ false → b ≡ true → ⊥
not_both h k = let e : false ≡ true = sym h ∙ k in cc

-- a prefix of a prefix and some bytes after it is a prefix of the whole and these bytes
prefix_again : (n : ℕ) (xs ys : List ℕ) → take n (take n xs ++ ys) ≡ take n (xs ++ ys)
prefix_again zero xs ys = refl
prefix_again (suc n) [] ys = refl
prefix_again (suc n) (x ∷ xs) ys = ap (λ r. x ∷ r) (prefix_again n xs ys)

-- a reader begins with no part of a line read
pub cutting_start : (input : InputView) (r : LineReader) → IsReaderOf input r → IsCutting input input r r []
cutting_start input r reader = record {
  bytes = [];
  took = took_none input;
  body = [];
  free = tt;
  kept = refl;
  cut = append_nil r.page;
  reader = reader;
  still = λ ended. (refl, ended);
  pieces = inl refl;
  less = omega arith;
}

module _ (old now : InputView) (r r' : LineReader) (line : List ℕ) (cut : IsCutting old now r r' line) where
  -- no more of a line is kept than a line may have with its end
  pub kept_length : length line ≤ 1048578
  kept_length = let long = ap (λ (xs : List ℕ). length xs) cut.kept ∙ length-take 1048578 cut.body in omega (arith, long)

  -- what is kept of a line with a part more is a prefix of the body and the part
  kept_more : (page line' : List ℕ) (whole : Bool) → (moved : Moved r'.page page line line' whole) → line' ≡ take 1048578 (cut.body ++ moved.part)
  kept_more page line' whole moved =
      moved.kept ∙ ap (λ l. take 1048578 (l ++ moved.part)) cut.kept ∙ prefix_again 1048578 cut.body moved.part

  -- what was taken of the input is the body, the part after it, and what is left of the page
  cut_more : (page line' : List ℕ) (whole : Bool) → (moved : Moved r'.page page line line' whole) → r.page ++ cut.bytes ≡ (cut.body ++ moved.part) ++ page
  cut_more page line' whole moved = cut.cut ∙ ap (λ p. cut.body ++ p) moved.cut ∙ sym (append_assoc cut.body moved.part page)

  -- a part without LF leaves nothing of its page
  page_moved : (page line' : List ℕ) → (moved : Moved r'.page page line line' false) → r.page ++ cut.bytes ≡ cut.body ++ moved.part
  page_moved page line' moved = cut_more page line' false moved ∙ ap (λ p. (cut.body ++ moved.part) ++ p) moved.is.1 ∙ append_nil (cut.body ++ moved.part)

  -- where a part without LF was moved and another page was taken, the line is read on
  pub cutting_more : (new : InputView) (r'' : LineReader) (page line' : List ℕ) → Moved r'.page page line line' false → Refilled now new r''.page → (r''.ended ≡ true → r''.page ≡ []) → r'.ended ≡ false
      → length r''.page ≤ 4096 → IsCutting old new r r'' line'
  cutting_more new r'' page line' moved filled end goes short = record {
    bytes = cut.bytes ++ r''.page;
    took = took_more old now new cut.bytes r''.page cut.took filled.took;
    body = cut.body ++ moved.part;
    free = no_lf_append cut.body moved.part cut.free moved.is.0;
    kept = kept_more page line' false moved;
    cut = sym (append_assoc r.page cut.bytes r''.page) ∙ ap (λ xs. xs ++ r''.page) (page_moved page line' moved);
    reader = λ ended. let none = end ended in (none, filled.end none);
    still = λ ended. absurd (not_both goes (cut.still ended).1);
    pieces = inr (cut.bytes, r''.page, refl, subst HasNoLf (sym (page_moved page line' moved)) (no_lf_append cut.body moved.part cut.free moved.is.0), short);
    less =
        let long = ap (λ (xs : List ℕ). length xs) moved.cut ∙ length-append moved.part page in
        omega (arith, cut.less, filled.took.counted, filled.few, long, length-append cut.body moved.part);
  }

  -- where the input failed before the line's end came, some bytes were taken
  pub cutting_failed : (new : InputView) (page line' : List ℕ) → Moved r'.page page line line' false → Took now new [] → r'.ended ≡ false → (fault : TakeFault) → TookSome old new r fault
  cutting_failed new page line' moved took goes fault = record {
    bytes = cut.bytes ++ [];
    took = took_more old now new cut.bytes [] cut.took took;
    still = λ ended. absurd (not_both goes (cut.still ended).1);
    pieces = subst (ArePieces r.page) (sym (append_nil cut.bytes)) cut.pieces;
    going = λ failed. not_yet r.ended refl;
    part = λ failed.
        subst HasNoLf (sym (page_moved page line' moved) ∙ ap (λ b. r.page ++ b) (sym (append_nil cut.bytes))) (no_lf_append cut.body moved.part cut.free moved.is.0);
  }
    where
      not_yet : (b : Bool) → r.ended ≡ b → r.ended ≡ false
      not_yet true e = absurd (not_both goes (cut.still e).1)
      not_yet false e = e

  -- where memory ran out, some bytes were taken
  pub cutting_short : TookSome old now r OutOfMemory
  cutting_short = record {
    bytes = cut.bytes;
    took = cut.took;
    still = λ ended. (cut.still ended).0;
    pieces = cut.pieces;
    going = λ failed. absurd (other failed);
    part = λ failed. absurd (other failed);
  }
    where
      other : OutOfMemory ≡ Failed → ⊥
      other e = cc

  -- the line's part of a page was moved, with its end
  module _ (page line' : List ℕ) (moved : Moved r'.page page line line' true) where
    -- the bytes of the line without its end: those that were kept, and those of the page
    abbrev body : List ℕ
    body = cut.body ++ moved.is.0

    none_in : HasNoLf body
    none_in = no_lf_append cut.body moved.is.0 cut.free moved.is.1

    with_end : cut.body ++ moved.part ≡ body ++ 10 ∷ []
    with_end = ap (λ p. cut.body ++ p) moved.is.2 ∙ sym (append_assoc cut.body moved.is.0 (10 ∷ []))

    is_kept : line' ≡ take 1048578 (body ++ 10 ∷ [])
    is_kept = kept_more page line' true moved ∙ ap (take 1048578) with_end

    -- a part that was moved with its LF makes one line
    pub whole_line : IsLine line'
    whole_line = subst IsLine (sym is_kept) (kept_line body none_in).0

    -- a line whose end was moved was read
    pub reads_line : (r'' : LineReader) (read : Option LineRead) → r''.page ≡ page → r'.ended ≡ false → r''.ended ≡ false → heard line' ≡ next_asks read → (read ≡ None → line' ≡ []) → Reads old now r r'' read
    reads_line r'' read is open_before goes asks none = record {
      bytes = cut.bytes;
      took = cut.took;
      reader = λ ended. absurd (not_both goes ended);
      line = body ++ 10 ∷ [];
      cut = cut_more page line' true moved ∙ ap (λ l. l ++ page) with_end ∙ ap (λ p. (body ++ 10 ∷ []) ++ p) (sym is);
      end = λ goes. (body, refl);
      ask = λ more end.
          ap heard (append_assoc body (10 ∷ []) more) ∙ (kept_line body none_in).2 more ∙ ap (λ asked. asked ++ heard more) (ap heard (sym is_kept) ∙ asks);
      still = λ ended. absurd (not_both open_before (cut.still ended).1);
      pieces = cut.pieces;
      last = λ e. absurd (some (none e));
      less = λ h.
          subst (λ p. 2 ^ 64 - now.taken + length p < to_read old r) (sym is)
          (fewer (2 ^ 64 - now.taken) (length r'.page) (length cut.body) (length moved.part) (length page) (to_read old r) cut.less
          (ap (λ (xs : List ℕ). length xs) moved.cut ∙ length-append moved.part page) (some_part moved.part moved.is.0 moved.is.2));
    }
      where
        some : line' ≡ [] → ⊥
        some e =
            let long = (kept_line body none_in).1 in
            let same = ap (λ (xs : List ℕ). length xs) (sym is_kept ∙ e) in
            omega (arith, long, same)

  -- where the input has ended, what was moved is one line or nothing
  pub last_line : IsLine line
  last_line = by_line line (subst HasNoLf (sym cut.kept) (no_lf_take 1048578 cut.body cut.free))
    where
      by_line : (xs : List ℕ) → HasNoLf xs → IsLine xs
      by_line [] h = inl refl
      by_line (b ∷ bs) h = inr (ap (λ ls. length ls) (lines_without (b ∷ bs) h (omega arith)))

  -- where the input has ended, what was moved was read
  pub reads_last : (read : Option LineRead) → r'.ended ≡ true → heard line ≡ next_asks read → (line ≡ [] → read ≡ None) → Reads old now r r' read
  reads_last read ended asks none = record {
    bytes = cut.bytes;
    took = cut.took;
    reader = cut.reader;
    line = cut.body;
    cut = cut.cut;
    end = λ goes. absurd (not_both goes ended);
    ask = λ more end.
        let same : heard cut.body ≡ next_asks read =
        ap heard (sym (append_nil cut.body)) ∙ sym (kept_asks cut.body [] cut.free) ∙ ap heard (append_nil (take 1048578 cut.body) ∙ sym cut.kept) ∙ asks in
        ap (λ m. heard (cut.body ++ m)) (end ended) ∙ ap heard (append_nil cut.body) ∙ same ∙ sym (append_nil (next_asks read)) ∙ ap (λ m. next_asks read ++ heard m) (sym (end ended));
    still = λ e. ((cut.still e).0, ended);
    pieces = cut.pieces;
    last = λ e. ended;
    less = λ h.
        let long = some h cut.body refl in
        omega (arith, cut.less, long);
  }
    where
      some : IsTrue (is_some read) → (xs : List ℕ) → cut.body ≡ xs → 0 < length cut.body
      some h [] e = absurd (no read h (none (cut.kept ∙ ap (take 1048578) e)))
        where
          no : (o : Option LineRead) → IsTrue (is_some o) → o ≡ None → ⊥
          no None h e = let z : false ≡ true = h in cc
          no (Some x) h e = cc
      some h (b ∷ bs) e = let l = ap (λ (xs : List ℕ). length xs) e in omega (arith, l)
