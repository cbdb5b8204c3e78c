-- The lines that answer what was heard, over a document that is told.
use Rattle.std.proofs.Common.{◌≡◌, ◌∙◌, inl, inr, ◌+◌, ℕ, Bool, List, [], ◌∷◌, ◌++◌, Option, Some, None, Result, Ok, Err, refl, ap, sym, subst, arith, length, take, append_assoc, length-append}
use Rattle.mix_base.proofs.Lists.{append_nil, take_append, take_prefix}
use Rattle.mix_io.specs.Contents.{Appends, AppendsPrefix}
use Rattle.mix_io.specs.Views.{SinkView}
use Rattle.mix_script.specs.Names.{no_names}
use Rattle.mix_script.specs.Answers.{line_of}
use Rattle.mix_script.specs.Transcript.{AreNotes, Finished, IsRight, Names, Naming, answered}
use Rattle.mix_script.specs.Allowed.{AreAnswers, note_of, notes_of}
use Rattle.mix_script.specs.Finished.{AreOf}
use Rattle.mix_script.specs.declared.step.Step.{Step}
use Rattle.mix_script.specs.declared.answer.Answer.{Answer}
use Rattle.mix_script.proofs.Finished.{answers_show_notes, first_answers_show_notes}
use Rattle.mix_script.proofs.FirstSteps.{first_of}
use Rattle.mix_session.specs.Meaning.{Course}
use Rattle.lxp_core.specs.View.{View}
use Rattle.mix_lines.specs.Ends.{EndsBetween, EndsBy, EndsWithin, Ends, IsLazy, IsRun, IsWhole}
use Rattle.mix_lines.specs.Heard.{Heard, step, no_form, steps_in}
use Rattle.mix_lines.specs.Lines.{no_form_line, spoken, spoken_from, heard_transcript}
use Rattle.mix_lines.specs.Told.{AreFirstLinesOn, AreLinesOn, EndsOn}
use Rattle.mix_lines.specs.declared.fault.LinesFault.{LinesFault}
use Rattle.mix_lines.specs.declared.fault.LinesFault.TheVariants.{InputFailed, SinkFailed, OutOfMemory}

-- the steps among what was heard first and then are those of each, one after the other
pub steps_append : (done later : List Heard) → steps_in (done ++ later) ≡ steps_in done ++ steps_in later
steps_append [] later = refl
steps_append (step s ∷ done) later = ap (λ steps. s ∷ steps) (steps_append done later)
steps_append (no_form ∷ done) later = steps_append done later

-- the lines of what was heard first, all of it answered, and then are those of each, one after the other
pub spoken_append : (names : List (List ℕ)) (done later : List Heard) (answers more : List Answer) → length answers ≡ length (steps_in done)
    → spoken names (done ++ later) (answers ++ more) ≡ spoken names done answers ++ spoken names later more
spoken_append names [] later [] more all = refl
spoken_append names [] later (a ∷ answers) more all = absurd (omega (arith, all))
spoken_append names (no_form ∷ done) later answers more all =
    ap (λ r. no_form_line ++ r) (spoken_append names done later answers more all) ∙ sym (append_assoc no_form_line (spoken names done answers) (spoken names later more))
spoken_append names (step s ∷ done) later [] more all = absurd (omega (arith, all))
spoken_append names (step s ∷ done) later (a ∷ answers) more all =
    ap (λ r. line_of names s.client a ++ r) (spoken_append names done later answers more (omega (arith, all)))
    ∙ sym (append_assoc (line_of names s.client a) (spoken names done answers) (spoken names later more))

-- the lines of answers that are a document's are the first of those under the notes that they show, and all of them where all steps are answered
pub spoken_on : (NamesAt : Naming) (f : Finished) (sources : List (List ℕ)) (names : Names) (asked : List Heard) (answers : List Answer) → AreOf NamesAt f names answers (steps_in asked)
    → (rest : List ℕ) × (spoken sources asked answers ++ rest ≡ spoken_from f sources names (notes_of answers) asked) × (length answers ≡ length (steps_in asked) → rest ≡ [])
spoken_on NamesAt f sources names [] answers h = ([], refl, λ all. refl)
spoken_on NamesAt f sources names (no_form ∷ asked) answers h =
    let more = spoken_on NamesAt f sources names asked answers h in
    (more.0, append_assoc no_form_line (spoken sources asked answers) more.0 ∙ ap (λ r. no_form_line ++ r) more.1, more.2)
spoken_on NamesAt f sources names (step s ∷ asked) [] h = (spoken_from f sources names [] (step s ∷ asked), refl, λ all. absurd (omega (arith, all)))
spoken_on NamesAt f sources names (step s ∷ asked) (a ∷ answers) h =
    let more = spoken_on NamesAt f sources (answered f names (note_of a) s).1 asked answers h.2 in (
      more.0,
      append_assoc (line_of sources s.client a) (spoken sources asked answers) more.0
          ∙ ap (λ r. line_of sources s.client a ++ r) more.1
          ∙ ap (λ x. line_of sources s.client x ++ spoken_from f sources (answered f names (note_of a) s).1 (notes_of answers) asked) h.0,
      λ all. more.2 (omega (arith, all)),
    )

-- the lines of answers are the first of those of more answers
pub spoken_more : (sources : List (List ℕ)) (asked : List Heard) (answers more : List Answer) → (rest : List ℕ) × (spoken sources asked (answers ++ more) ≡ spoken sources asked answers ++ rest)
spoken_more sources [] answers more = ([], refl)
spoken_more sources (no_form ∷ asked) answers more =
    let rest = spoken_more sources asked answers more in
    (rest.0, ap (λ r. no_form_line ++ r) rest.1 ∙ sym (append_assoc no_form_line (spoken sources asked answers) rest.0))
spoken_more sources (step s ∷ asked) [] more = (spoken sources (step s ∷ asked) more, refl)
spoken_more sources (step s ∷ asked) (a ∷ answers) more =
    let rest = spoken_more sources asked answers more in
    (rest.0, ap (λ r. line_of sources s.client a ++ r) rest.1 ∙ sym (append_assoc (line_of sources s.client a) (spoken sources asked answers) rest.0))

-- a prefix of lines is a prefix of the lines that begin with them
pub prefix_of_more : (before after : Option (List ℕ)) (lines rest whole : List ℕ) (n : ℕ) → lines ++ rest ≡ whole → Appends before after (take n lines) → AppendsPrefix before after whole
prefix_of_more None after lines rest whole n e h = h
prefix_of_more (Some b) after lines rest whole n e h =
    let prefix = take_prefix n lines rest in
    (prefix.0, h ∙ ap (λ r. Some (b ++ r)) (prefix.1 ∙ ap (take prefix.0) e))

-- a whole list is a prefix of itself
pub whole_prefix : (lines : List ℕ) → lines ≡ take (length lines + 0) lines
whole_prefix lines = sym (append_nil lines) ∙ sym (take_append lines [] 0) ∙ ap (take (length lines + 0)) (append_nil lines)

-- as many steps as stand first are the first ones
first_steps : (xs ys : List Step) (n : ℕ) → n ≡ length xs → take n (xs ++ ys) ≡ xs
first_steps [] ys n e = ap (λ k. take k ys) e
first_steps (x ∷ xs) ys n e = ap (λ k. take k (x ∷ (xs ++ ys))) e ∙ ap (λ l. x ∷ l) (first_steps xs ys (length xs) refl)

module _ (Are Cost : List Answer → Type 0) (NamesAt : Naming) (f : Finished) (names : List (List ℕ)) (heard : List Heard) (before after : SinkView) (roots : Bool) (MayFail : ℕ → Type 0)
    (allowed : (answers : List Answer) → Are answers → AreAnswers roots MayFail no_names answers (steps_in heard))
    (of : (answers : List Answer) → Are answers → AreOf NamesAt f no_names answers (steps_in heard)) where
  -- answers to what was heard first
  module _ (answers : List Answer) (are : Are answers) (done later : List Heard) (parts : heard ≡ done ++ later) (all : length answers ≡ length (steps_in done)) where
    -- as many steps as there are answers are those that were heard first
    first_heard : take (length answers) (steps_in heard) ≡ steps_in done
    first_heard = ap (λ h. take (length answers) (steps_in h)) parts ∙ ap (take (length answers)) (steps_append done later) ∙ first_steps (steps_in done) (steps_in later) (length answers) all

    -- the answers are the document's to the steps that were heard first
    first_answers : AreOf NamesAt f no_names answers (steps_in done)
    first_answers = subst (λ steps. AreOf NamesAt f no_names answers steps) first_heard (first_of NamesAt f no_names answers (steps_in heard) (of answers are))

    -- the lines of answers that are the document's are the first lines on the document
    first_on : AreFirstLinesOn roots NamesAt f names heard (heard_transcript f names (notes_of answers) done)
    first_on = record {
      first = done;
      later = later;
      parts = parts;
      on = record {
        notes = notes_of answers;
        allowed = subst (λ steps. AreNotes roots NamesAt f no_names (notes_of answers) steps) first_heard
            (first_answers_show_notes roots MayFail NamesAt f answers (steps_in heard) (allowed answers are) (of answers are));
        are = refl;
      };
    }

    -- the lines of answers to what was heard first are those of the document
    first_lines : spoken names done answers ≡ heard_transcript f names (notes_of answers) done
    first_lines =
        let lines = spoken_on NamesAt f names no_names done answers first_answers in
        sym (append_nil (spoken names done answers)) ∙ ap (λ r. spoken names done answers ++ r) (sym (lines.2 all)) ∙ lines.1

    -- where a prefix of the lines of what was heard first was written, a prefix of the document's lines was
    prefix_on : (count : ℕ) → Appends before.written after.written (take count (spoken names done answers))
        → (lines : List ℕ) × AreFirstLinesOn roots NamesAt f names heard lines × AppendsPrefix before.written after.written lines
    prefix_on count written = (
      heard_transcript f names (notes_of answers) done,
      first_on,
      prefix_of_more before.written after.written (spoken names done answers) [] _ count (append_nil (spoken names done answers) ∙ first_lines) written,
    )

  -- a prefix of the first lines of a document was written
  abbrev PrefixOn : Type 0
  PrefixOn = (lines : List ℕ) × AreFirstLinesOn roots NamesAt f names heard lines × AppendsPrefix before.written after.written lines

  -- where the lines of what was heard first were written, a prefix of the document's lines was
  between : EndsBetween Are Cost names heard before after → PrefixOn
  between w =
      let lines = spoken names w.done w.answers in
      prefix_on w.answers w.are w.done w.later w.parts w.all (length lines + 0) (subst (Appends before.written after.written) (whole_prefix lines) w.written)

  -- where a prefix of the next line was written, a prefix of the document's lines was
  within : EndsWithin Are Cost names heard before after → PrefixOn
  within w =
      let answers = w.answers ++ w.last in
      let done = w.done ++ w.next ∷ [] in
      let all : length answers ≡ length (steps_in done) = two w.done w.next w.answers w.last w.all w.one in
      let parts : heard ≡ done ++ w.later = w.parts ∙ sym (append_assoc w.done (w.next ∷ []) w.later) in
      let lines = spoken names w.done w.answers in
      let line = spoken names (w.next ∷ []) w.last in
      let cut = sym (take_append lines line w.count) ∙ ap (take (length lines + w.count)) (sym (spoken_append names w.done (w.next ∷ []) w.answers w.last w.all)) in
      prefix_on answers w.are done w.later parts all (length lines + w.count) (subst (Appends before.written after.written) cut w.written)
    where
      two : (done : List Heard) (next : Heard) (answers last : List Answer) → length answers ≡ length (steps_in done) → length last ≡ length (steps_in (next ∷ [])) → length (answers ++ last) ≡ length (steps_in (done ++ next ∷ []))
      two done next answers last h k = length-append answers last ∙ ap (λ n. n + length last) h ∙ ap (λ n. length (steps_in done) + n) k ∙ sym (ap (λ (xs : List Step). length xs) (steps_append done (next ∷ [])) ∙ length-append (steps_in done) (steps_in (next ∷ [])))

  -- where the lines of all that was heard were written, the document's lines were
  whole : (marked : Bool) → IsWhole Are Cost names heard before after marked → (lines : List ℕ) × AreLinesOn roots NamesAt f names heard lines × Appends before.written after.written lines
  whole marked w =
      let begin = spoken_on NamesAt f names no_names heard w.answers (of w.answers w.are) in
      let lines : spoken names heard w.answers ≡ heard_transcript f names (notes_of w.answers) heard =
      sym (append_nil (spoken names heard w.answers)) ∙ ap (λ r. spoken names heard w.answers ++ r) (sym (begin.2 w.all)) ∙ begin.1 in (
        heard_transcript f names (notes_of w.answers) heard,
        record { notes = notes_of w.answers; allowed = answers_show_notes roots MayFail NamesAt f w.answers (steps_in heard) (allowed w.answers w.are) (of w.answers w.are) w.all; are = refl },
        subst (Appends before.written after.written) lines w.written,
      )

  -- lines over a document that is told end on the document's lines
  pub ends_on : (r : Result Bool LinesFault) → EndsBy Are Cost names heard before after r → EndsOn roots NamesAt f names heard before.written after.written r
  ends_on (Ok marked) e = whole marked e
  ends_on (Err InputFailed) e = whole e.0 e.1
  ends_on (Err SinkFailed) e = within e.1
  ends_on (Err OutOfMemory) (inl w) = between w
  ends_on (Err OutOfMemory) (inr w) = within w

-- lines on a course whose document is told end on the lines of a finished document that is right of their texts
pub ends_told : {W : Type 0} (c : Course W) (old new : View) (names : List (List ℕ)) (heard : List Heard) (before after : SinkView) (r : Result Bool LinesFault) → Ends c old new names heard before after r
    → (f : Finished) → c.IsDocument f.tree → IsRight c.NamesAt f (steps_in heard) → EndsOn c.roots c.NamesAt f names heard before.written after.written r
ends_told c old new names heard before after r ends f one right =
    let steps = steps_in heard in
    ends_on (IsRun c old.faults new.faults steps) (IsLazy c old.fills new.fills steps) c.NamesAt f names heard before after c.roots c.MayFail (λ answers are. are.allowed) (λ answers are. are.told f one right) r ends
