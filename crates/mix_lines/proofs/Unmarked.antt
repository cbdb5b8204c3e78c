-- Over sources that didn't fail, the lines of plain steps are the transcript without notes.
use Rattle.std.proofs.Common.{◌≡◌, ◌∙◌, inl, inr, ◌+◌, ◌^◌, ◌<◌, ℕ, Bool, false, List, [], ◌∷◌, ◌++◌, Result, Ok, Err, ap, sym, subst, arith, length, map, take, append_assoc}
use Rattle.mix_base.proofs.Lists.{append_nil, take_append}
use Rattle.mix_tree.specs.Forest.{LabelledTree}
use Rattle.mix_io.specs.Contents.{Appends, AppendsPrefix}
use Rattle.mix_io.specs.Views.{SinkView}
use Rattle.lxp_core.specs.View.{View}
use Rattle.mix_script.specs.Names.{no_names}
use Rattle.mix_script.specs.Steps.{ArePlain}
use Rattle.mix_script.specs.Transcript.{IsRight, transcript, unnamed}
use Rattle.mix_script.specs.Allowed.{has_fault, faults_of}
use Rattle.mix_script.specs.Finished.{AreOf}
use Rattle.mix_script.specs.declared.step.Step.{Step}
use Rattle.mix_script.specs.declared.answer.Answer.{Answer}
use Rattle.mix_script.proofs.Answering.{unmarked}
use Rattle.mix_script.proofs.Finished.{plain_lines}
use Rattle.mix_script.proofs.Namings.{plain_right}
use Rattle.mix_session.specs.Meaning.{Course}
use Rattle.mix_lines.specs.declared.fault.LinesFault.{LinesFault}
use Rattle.mix_lines.specs.declared.fault.LinesFault.TheVariants.{InputFailed, SinkFailed, OutOfMemory}
use Rattle.mix_lines.specs.Ends.{Ends, EndsBetween, EndsWithin, IsLazy, IsRun, IsWhole}
use Rattle.mix_lines.specs.Heard.{Heard, step, steps_in}
use Rattle.mix_lines.specs.Lines.{spoken}
use Rattle.mix_lines.specs.Told.{EndsUnmarked}
use Rattle.mix_lines.proofs.Script.{lines_of_script, steps_of_script}
use Rattle.mix_lines.proofs.Telling.{prefix_of_more, spoken_append, whole_prefix}

-- sources that may fail and did not: their counts are as they were, and not at their limit
module _ {W : Type 0} (c : Course W) (old new : View) (names : List (List ℕ)) (steps : List Step) (before after : SinkView) (steady : (s : ℕ) → c.MayFail s → new.faults s ≡ old.faults s)
    (room : (s : ℕ) → c.MayFail s → old.faults s + 1 < 2 ^ 64) where
  -- what is heard of the steps
  abbrev heard : List Heard
  heard = map step steps

  -- answers that a run on the course gives
  abbrev Are : List Answer → Type 0
  Are = IsRun c old.faults new.faults (steps_in heard)

  -- answers that cost no more than the course allows
  abbrev Cost : List Answer → Type 0
  Cost = IsLazy c old.fills new.fills (steps_in heard)

  -- where the sources' counts stand, no fault of a source is among the answers
  faultless_source : (answers : List Answer) → Are answers → (s : ℕ) → c.MayFail s → faults_of s answers ≡ 0
  faultless_source answers run s may = let h = run.counted s in let e = steady s may in let r = room s may in omega (arith, h, e, r)

  -- where the sources' counts stand, no fault is among the answers
  faultless : (answers : List Answer) → Are answers → has_fault answers ≡ false
  faultless answers run = unmarked c.roots c.MayFail no_names answers (steps_in heard) run.allowed (faultless_source answers run)

  module _ (plain : ArePlain steps) (t : LabelledTree) (one : c.IsDocument t) where
    -- the transcript without notes
    abbrev lines : List ℕ
    lines = transcript (unnamed t) [] [] steps

    -- the answers are the document's
    of : (answers : List Answer) → Are answers → AreOf c.NamesAt (unnamed t) no_names answers steps
    of answers run =
        let right : IsRight c.NamesAt (unnamed t) (steps_in heard) = subst (IsRight c.NamesAt (unnamed t)) (sym (steps_of_script steps)) (plain_right c.NamesAt (unnamed t) steps plain) in
        subst (AreOf c.NamesAt (unnamed t) no_names answers) (steps_of_script steps) (run.told (unnamed t) one right)

    -- the lines of answers are the first of the transcript, and all of it where all steps are answered
    first_lines : (answers : List Answer) → Are answers → (rest : List ℕ) × (spoken names heard answers ++ rest ≡ lines) × (length answers ≡ length steps → rest ≡ [])
    first_lines answers run =
        let first = plain_lines c.NamesAt (unnamed t) names [] no_names answers steps (of answers run) (faultless answers run) plain in
        (first.0, ap (λ l. l ++ first.0) (lines_of_script names answers steps) ∙ first.1, first.2)

    -- where a prefix was written of lines that the lines of answers begin with, a prefix of the transcript was
    prefix_unmarked : (answers : List Answer) → Are answers → (n : ℕ) (begin rest : List ℕ) → begin ++ rest ≡ spoken names heard answers → Appends before.written after.written (take n begin)
        → AppendsPrefix before.written after.written lines
    prefix_unmarked answers run n begin rest is written =
        let first = first_lines answers run in
        prefix_of_more before.written after.written begin (rest ++ first.0) lines n (sym (append_assoc begin rest first.0) ∙ ap (λ l. l ++ first.0) is ∙ first.1) written

    -- where the lines were written of what was heard first, a prefix of the transcript was
    between_unmarked : EndsBetween Are Cost names heard before after → AppendsPrefix before.written after.written lines
    between_unmarked w =
        let done = spoken names w.done w.answers in
        let all : done ++ spoken names w.later [] ≡ spoken names heard w.answers =
        sym (spoken_append names w.done w.later w.answers [] w.all) ∙ ap (λ h. spoken names h (w.answers ++ [])) (sym w.parts) ∙ ap (spoken names heard) (append_nil w.answers) in
        prefix_unmarked w.answers w.are (length done + 0) done (spoken names w.later []) all (subst (Appends before.written after.written) (whole_prefix done) w.written)

    -- where a prefix of the next line was written, a prefix of the transcript was
    within_unmarked : EndsWithin Are Cost names heard before after → AppendsPrefix before.written after.written lines
    within_unmarked w =
        let done = spoken names w.done w.answers in
        let line = spoken names (w.next ∷ []) w.last in
        let later = spoken names w.later [] in
        let next : spoken names (w.next ∷ w.later) w.last ≡ line ++ later =
        ap (spoken names (w.next ∷ w.later)) (sym (append_nil w.last)) ∙ spoken_append names (w.next ∷ []) w.later w.last [] w.one in
        let all : (done ++ line) ++ later ≡ spoken names heard (w.answers ++ w.last) =
        append_assoc done line later ∙ ap (λ l. done ++ l) (sym next) ∙ sym (spoken_append names w.done (w.next ∷ w.later) w.answers w.last w.all) ∙ ap (λ h. spoken names h (w.answers ++ w.last)) (sym w.parts) in
        prefix_unmarked (w.answers ++ w.last) w.are (length done + w.count) (done ++ line) later all (subst (Appends before.written after.written) (sym (take_append done line w.count)) w.written)

    -- where all lines were written, the transcript was, and no line is a fault line
    whole_unmarked : (marked : Bool) → IsWhole Are Cost names heard before after marked → (marked ≡ false) × Appends before.written after.written lines
    whole_unmarked marked w =
        let first = first_lines w.answers w.are in
        let all : spoken names heard w.answers ≡ lines =
        sym (append_nil (spoken names heard w.answers)) ∙ ap (λ r. spoken names heard w.answers ++ r) (sym (first.2 (w.all ∙ ap (λ xs. length xs) (steps_of_script steps)))) ∙ first.1 in
        (w.marks ∙ faultless w.answers w.are, subst (Appends before.written after.written) all w.written)

    -- where all lines were written, a prefix of the transcript was
    all_prefix : Appends before.written after.written lines → AppendsPrefix before.written after.written lines
    all_prefix written = prefix_of_more before.written after.written lines [] lines (length lines + 0) (append_nil lines) (subst (Appends before.written after.written) (whole_prefix lines) written)

    -- lines of plain steps over sources that didn't fail while they were written are the transcript without notes
    pub lines_unmarked : (r : Result Bool LinesFault) → Ends c old new names heard before after r → EndsUnmarked t steps before.written after.written r
    lines_unmarked (Ok marked) w = whole_unmarked marked w
    lines_unmarked (Err InputFailed) w = all_prefix (whole_unmarked w.0 w.1).1
    lines_unmarked (Err SinkFailed) w = within_unmarked w.1
    lines_unmarked (Err OutOfMemory) (inl w) = between_unmarked w
    lines_unmarked (Err OutOfMemory) (inr w) = within_unmarked w
