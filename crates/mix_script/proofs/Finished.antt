-- The lines of answers that a finished document gives are the transcript.
use Rattle.std.proofs.Common.{◌≡◌, ℕ, zero, suc, ◌||◌, Bool, true, false, List, [], ◌∷◌, ◌++◌, Option, Some, None, option_and_then, length, take, drop, refl, is_some, IsTrue}
use Rattle.std.proofs.Common.{ap, ◌∙◌, append_assoc, arith}
use Rattle.mix_tree.specs.Forest.{LabelledTree}
use Rattle.mix_tree.specs.Place.{tree_at}
use Rattle.mix_script.specs.Names.{no_names}
use Rattle.mix_script.specs.Answers.{line_of}
use Rattle.mix_script.specs.Transcript.{Finished, Names, Naming, Note, nothing, failed, spelled, label_answer, if_held, answer_of, names_after, answered, first_note, later_notes, lines_from, transcript}
use Rattle.mix_script.specs.Transcript.{may_fail, NeedsNoText, MayBeNoted, AreNotes, is_failed, NoneFailed}
use Rattle.mix_script.specs.Steps.{is_plain, ArePlain}
use Rattle.mix_script.specs.declared.step.Act.{Act}
use Rattle.mix_script.specs.declared.step.Act.TheVariants.{Root, Move, Select, Fetch, Print, Id, At}
use Rattle.mix_script.specs.declared.step.Step.{Step}
use Rattle.mix_script.specs.declared.answer.Answer.{Answer}
use Rattle.mix_script.specs.declared.answer.Answer.TheVariants as answer
use Rattle.mix_script.specs.Allowed.{Nodes, MayFindRoot, MayAnswer, nodes_after, AreAnswers, answer_lines, mark_of, note_of, notes_of, has_fault}
use Rattle.mix_script.specs.Finished.{IsTold, AreOf}
use Rattle.mix_script.proofs.FirstSteps.{first_allowed, first_of, first_count, first_lines}

-- LINES

module _ (NamesAt : Naming) (f : Finished) (sources : List (List ℕ)) where
  -- what is left of the lines of all steps, under the notes that the answers show
  lines_of_rest : (names : Names) (answers : List Answer) (steps : List Step) → AreOf NamesAt f names answers steps
      → (rest : List ℕ) × (answer_lines sources answers steps ++ rest ≡ lines_from f sources names (notes_of answers) steps)
  lines_of_rest names [] steps h = (lines_from f sources names [] steps, refl)
  lines_of_rest names (a ∷ answers) [] h = absurd h
  lines_of_rest names (a ∷ answers) (step ∷ steps) h =
      let later = lines_of_rest (answered f names (note_of a) step).1 answers steps h.2 in (
        later.0,
        append_assoc (line_of sources step.client a) (answer_lines sources answers steps) later.0
            ∙ ap (λ r. line_of sources step.client a ++ r) later.1
            ∙ ap (λ x. line_of sources step.client x ++ lines_from f sources (answered f names (note_of a) step).1 (notes_of answers) steps) h.0,
      )

  -- the lines of answers to the first steps are a prefix of the transcript of all steps, under the notes that the answers show
  pub lines_begin_transcript : (answers : List Answer) (steps : List Step) → AreOf NamesAt f no_names answers steps
      → (rest : List ℕ) × (answer_lines sources answers steps ++ rest ≡ transcript f sources (notes_of answers) steps)
  lines_begin_transcript answers steps h = lines_of_rest no_names answers steps h

  -- the lines of answers to all steps are those of the steps, from these names on
  pub lines_of_all : (names : Names) (answers : List Answer) (steps : List Step) → AreOf NamesAt f names answers steps → length answers ≡ length steps
      → answer_lines sources answers steps ≡ lines_from f sources names (notes_of answers) steps
  lines_of_all names [] [] h all = refl
  lines_of_all names [] (step ∷ steps) h all = absurd (omega arith)
  lines_of_all names (a ∷ answers) [] h all = absurd h
  lines_of_all names (a ∷ answers) (step ∷ steps) h all =
      ap (λ r. line_of sources step.client a ++ r) (lines_of_all (answered f names (note_of a) step).1 answers steps h.2 (omega (arith, all)))
      ∙ ap (λ x. line_of sources step.client x ++ lines_from f sources (answered f names (note_of a) step).1 (notes_of answers) steps) h.0

  -- the lines of answers to all steps are the transcript, under the notes that the answers show
  pub lines_are_transcript : (answers : List Answer) (steps : List Step) → AreOf NamesAt f no_names answers steps → length answers ≡ length steps
      → answer_lines sources answers steps ≡ transcript f sources (notes_of answers) steps
  lines_are_transcript answers steps h all = lines_of_all no_names answers steps h all

  -- the lines of answers to the first steps are the transcript of as many steps as they are, under the notes that the answers show
  pub lines_are_first : (answers : List Answer) (steps : List Step) → AreOf NamesAt f no_names answers steps
      → answer_lines sources answers steps ≡ transcript f sources (notes_of answers) (take (length answers) steps)
  lines_are_first answers steps h =
      first_lines sources answers steps
      ∙ lines_of_all no_names answers (take (length answers) steps) (first_of NamesAt f no_names answers steps h) (first_count NamesAt f no_names answers steps h)

-- WHICH NOTES STAND

-- a source may be said to have failed where a node is sought only where a name holds the node to begin at
held_failed : (o : Option (List ℕ)) (x : Answer) (s : ℕ) → answer.Fault s ≡ if_held o x → is_some o ≡ true
held_failed None x s e = cc
held_failed (Some place) x s e = refl

-- a source may be said to have failed at a root only where it is sought in a source
root_failed : (roots : Bool) (MayFail : ℕ → Type 0) (s : ℕ) → MayFindRoot roots MayFail (answer.Fault s) → roots ≡ true
root_failed true MayFail s h = refl
root_failed false MayFail s h = cc

-- where a label is read no source is said to have failed
label_never : {X : Type 0} (o : Option LabelledTree) (s : ℕ) → answer.Fault s ≡ label_answer o → X
label_never None s e = cc
label_never (Some t) s e = cc

-- where the text of an identifier is asked for no source is said to have failed
id_never : {X : Type 0} (o : Option (List ℕ)) (s : ℕ) → answer.Fault s ≡ if_held o (answer.Id []) → X
id_never None s e = cc
id_never (Some place) s e = cc

-- a note that says nothing is no text
nothing_spelled : {X : Type 0} (text : List ℕ) → nothing ≡ spelled text → X
nothing_spelled text e = cc

-- an act is answered without a text where its answer shows nothing
needs_none : (f : Finished) (names : Names) (client : List ℕ) (act : Act) (a : Answer) → nothing ≡ note_of a → a ≡ answer_of f names nothing client act → NeedsNoText names client act
needs_none f names client (Root name) a n e = tt
needs_none f names client (Move way name from) a n e = tt
needs_none f names client (Select name from label) a n e = tt
needs_none f names client (Fetch from) a n e = tt
needs_none f names client (Print from) a n e = tt
needs_none f names client (Id from) a n e = of (names client from) e
  where
    of : (o : Option (List ℕ)) → a ≡ if_held o (answer.Id []) → is_some o ≡ false
    of None k = refl
    of (Some place) k = nothing_spelled [] (n ∙ ap note_of k)
needs_none f names client (At name node) a n e = tt

-- a plain act is answered without a text
plain_needs_none : (names : Names) (client : List ℕ) (act : Act) → IsTrue (is_plain act) → NeedsNoText names client act
plain_needs_none names client (Root name) p = tt
plain_needs_none names client (Move way name from) p = tt
plain_needs_none names client (Select name from label) p = tt
plain_needs_none names client (Fetch from) p = tt
plain_needs_none names client (Print from) p = tt
plain_needs_none names client (Id from) p = cc
plain_needs_none names client (At name node) p = tt

module _ (roots : Bool) (MayFail : ℕ → Type 0) (NamesAt : Naming) (f : Finished) where
  -- that a source failed may be noted where an answer of the document says so
  failed_may : (nodes : Nodes) (names : Names) (client : List ℕ) (act : Act) (s : ℕ) → MayAnswer roots MayFail nodes client act (answer.Fault s)
      → answer.Fault s ≡ answer_of f names (failed s) client act → IsTrue (may_fail roots names client act)
  failed_may nodes names client (Root name) s m k = root_failed roots MayFail s m
  failed_may nodes names client (Move way name from) s m k = held_failed (names client from) _ s k
  failed_may nodes names client (Select name from label) s m k = held_failed (names client from) _ s k
  failed_may nodes names client (Fetch from) s m k = label_never (option_and_then (tree_at f.tree) (names client from)) s k
  failed_may nodes names client (Print from) s m k = held_failed (names client from) _ s k
  failed_may nodes names client (Id from) s m k = id_never (names client from) s k
  failed_may nodes names client (At name node) s m k = refl

  -- the note that an answer of the document shows may stand
  note_may : (nodes : Nodes) (names : Names) (a : Answer) (step : Step) → MayAnswer roots MayFail nodes step.client step.act a → a ≡ (answered f names (note_of a) step).0
      → IsTold NamesAt names step.client step.act a → MayBeNoted roots NamesAt names step (note_of a)
  note_may nodes names answer.Node step may e told = needs_none f names step.client step.act answer.Node refl e
  note_may nodes names answer.None step may e told = needs_none f names step.client step.act answer.None refl e
  note_may nodes names (answer.Label l) step may e told = needs_none f names step.client step.act (answer.Label l) refl e
  note_may nodes names (answer.Text x) step may e told = needs_none f names step.client step.act (answer.Text x) refl e
  note_may nodes names answer.NoNode step may e told = needs_none f names step.client step.act answer.NoNode refl e
  note_may nodes names (answer.Fault s) step may e told = failed_may nodes names step.client step.act s may e
  note_may nodes names (answer.Id x) step may e told = told
  note_may nodes names answer.Foreign step may e told = needs_none f names step.client step.act answer.Foreign refl e

  -- from these names on, the notes that answers show stand only where they may, where the steps after those that are answered are plain
  pub are_notes : (nodes : Nodes) (names : Names) (answers : List Answer) (steps : List Step) → AreAnswers roots MayFail nodes answers steps → AreOf NamesAt f names answers steps
      → ArePlain (drop (length answers) steps) → AreNotes roots NamesAt f names (notes_of answers) steps
  are_notes nodes names answers [] may h plain = tt
  are_notes nodes names [] (step ∷ steps) may h plain =
      (plain_needs_none names step.client step.act plain.0, are_notes nodes (answered f names nothing step).1 [] steps tt tt plain.1)
  are_notes nodes names (a ∷ answers) (step ∷ steps) may h plain =
      (note_may nodes names a step may.0 h.0 h.1, are_notes (nodes_after nodes step.client step.act a) (answered f names (note_of a) step).1 answers steps may.1 h.2 plain)

  -- the notes that answers to all steps show stand only where they may
  pub answers_show_notes : (answers : List Answer) (steps : List Step) → AreAnswers roots MayFail no_names answers steps → AreOf NamesAt f no_names answers steps → length answers ≡ length steps
      → AreNotes roots NamesAt f no_names (notes_of answers) steps
  answers_show_notes answers steps may h all = are_notes no_names no_names answers steps may h (none_left (length answers) steps all)
    where
      none_left : (n : ℕ) (xs : List Step) → n ≡ length xs → ArePlain (drop n xs)
      none_left zero [] e = tt
      none_left zero (x ∷ xs) e = absurd (omega arith)
      none_left (suc n) [] e = tt
      none_left (suc n) (x ∷ xs) e = none_left n xs (omega (arith, e))

  -- the notes that answers to the first steps show stand only where they may among as many steps as they are
  pub first_answers_show_notes : (answers : List Answer) (steps : List Step) → AreAnswers roots MayFail no_names answers steps → AreOf NamesAt f no_names answers steps
      → AreNotes roots NamesAt f no_names (notes_of answers) (take (length answers) steps)
  first_answers_show_notes answers steps may h =
      answers_show_notes answers (take (length answers) steps) (first_allowed roots MayFail no_names answers steps may) (first_of NamesAt f no_names answers steps h)
      (first_count NamesAt f no_names answers steps h)

  -- the notes that answers to the first of plain steps show stand only where they may
  pub plain_answers_show_notes : (answers : List Answer) (steps : List Step) → AreAnswers roots MayFail no_names answers steps → AreOf NamesAt f no_names answers steps → ArePlain steps
      → AreNotes roots NamesAt f no_names (notes_of answers) steps
  plain_answers_show_notes answers steps may h plain = are_notes no_names no_names answers steps may h (plain_left (length answers) steps plain)
    where
      plain_left : (n : ℕ) (xs : List Step) → ArePlain xs → ArePlain (drop n xs)
      plain_left zero xs p = p
      plain_left (suc n) [] p = tt
      plain_left (suc n) (x ∷ xs) p = plain_left n xs p.1

-- WHERE NO ANSWER IS A FAULT

-- neither the first answer nor a later one is a fault
no_mark : (mark : Option ℕ) (more : Bool) → is_some mark || more ≡ false → (mark ≡ None) × (more ≡ false)
no_mark None more e = (refl, e)
no_mark (Some source) more e = absurd (let z : true ≡ false = e in cc)

-- an answer that is no fault shows none
not_failed : (a : Answer) → mark_of a ≡ None → is_failed (note_of a) ≡ false
not_failed answer.Node e = refl
not_failed answer.None e = refl
not_failed (answer.Label l) e = refl
not_failed (answer.Text x) e = refl
not_failed answer.NoNode e = refl
not_failed (answer.Fault s) e = cc
not_failed (answer.Id x) e = refl
not_failed answer.Foreign e = refl

-- where no answer is a fault, no note that they show says that a source failed
pub none_failed : (answers : List Answer) → has_fault answers ≡ false → NoneFailed (notes_of answers)
none_failed [] e = tt
none_failed (a ∷ answers) e = let both = no_mark (mark_of a) (has_fault answers) e in (not_failed a both.0, none_failed answers both.1)

-- the line of an answer that is no fault names no source
same_line : (sources others : List (List ℕ)) (client : List ℕ) (a : Answer) → mark_of a ≡ None → line_of sources client a ≡ line_of others client a
same_line sources others client answer.Node e = refl
same_line sources others client answer.None e = refl
same_line sources others client (answer.Label l) e = refl
same_line sources others client (answer.Text x) e = refl
same_line sources others client answer.NoNode e = refl
same_line sources others client (answer.Fault s) e = cc
same_line sources others client (answer.Id x) e = refl
same_line sources others client answer.Foreign e = refl

-- where no answer is a fault, the lines of the answers name no source
pub same_lines : (sources others : List (List ℕ)) (answers : List Answer) (steps : List Step) → has_fault answers ≡ false → answer_lines sources answers steps ≡ answer_lines others answers steps
same_lines sources others [] steps e = refl
same_lines sources others (a ∷ answers) [] e = refl
same_lines sources others (a ∷ answers) (step ∷ steps) e =
    let both = no_mark (mark_of a) (has_fault answers) e in
    ap (λ l. l ++ answer_lines sources answers steps) (same_line sources others step.client a both.0)
    ∙ ap (λ l. line_of others step.client a ++ l) (same_lines sources others answers steps both.1)

-- where all steps are answered, nothing is left of their lines after those of the answers
nothing_left : (NamesAt : Naming) (f : Finished) (sources : List (List ℕ)) (names : Names) (answers : List Answer) (steps : List Step) → (h : AreOf NamesAt f names answers steps) → length answers ≡ length steps
    → (lines_of_rest NamesAt f sources names answers steps h).0 ≡ []
unfolding lines_of_rest
nothing_left NamesAt f sources names [] [] h all = refl
nothing_left NamesAt f sources names [] (step ∷ steps) h all = absurd (omega arith)
nothing_left NamesAt f sources names (a ∷ answers) [] h all = absurd h
nothing_left NamesAt f sources names (a ∷ answers) (step ∷ steps) h all = nothing_left NamesAt f sources (answered f names (note_of a) step).1 answers steps h.2 (omega (arith, all))

-- where no answer is a fault: the lines of the first answers, and those of the steps after them, are the transcript's under the notes that the answers show
pub unmarked_lines : (NamesAt : Naming) (f : Finished) (sources others : List (List ℕ)) (names : Names) (answers : List Answer) (steps : List Step) → AreOf NamesAt f names answers steps → has_fault answers ≡ false
    → (rest : List ℕ) × (answer_lines sources answers steps ++ rest ≡ lines_from f others names (notes_of answers) steps) × (length answers ≡ length steps → rest ≡ [])
unmarked_lines NamesAt f sources others names answers steps h none =
    let lines = lines_of_rest NamesAt f others names answers steps h in (
      lines.0,
      ap (λ l. l ++ lines.0) (same_lines sources others answers steps none) ∙ lines.1,
      nothing_left NamesAt f others names answers steps h,
    )

-- where no answer is a fault, the lines of the first answers are the transcript's of as many steps as they are, under the notes that the answers show
pub unmarked_first : (NamesAt : Naming) (f : Finished) (sources others : List (List ℕ)) (names : Names) (answers : List Answer) (steps : List Step) → AreOf NamesAt f names answers steps → has_fault answers ≡ false
    → answer_lines sources answers steps ≡ lines_from f others names (notes_of answers) (take (length answers) steps)
unmarked_first NamesAt f sources others names answers steps h none =
    same_lines sources others answers steps none ∙ first_lines others answers steps
    ∙ lines_of_all NamesAt f others names answers (take (length answers) steps) (first_of NamesAt f names answers steps h) (first_count NamesAt f names answers steps h)

-- PLAIN STEPS

-- a plain act is answered alike under each note that says of no source that it failed
plain_alike : (f : Finished) (names : Names) (client : List ℕ) (note : Note) (act : Act) → IsTrue (is_plain act) → is_failed note ≡ false → answer_of f names note client act ≡ answer_of f names nothing client act
plain_alike f names client nothing act p u = refl
plain_alike f names client (failed s) act p u = cc
plain_alike f names client (spelled text) (Root name) p u = refl
plain_alike f names client (spelled text) (Move way name from) p u = refl
plain_alike f names client (spelled text) (Select name from label) p u = refl
plain_alike f names client (spelled text) (Fetch from) p u = refl
plain_alike f names client (spelled text) (Print from) p u = refl
plain_alike f names client (spelled text) (Id from) p u = cc
plain_alike f names client (spelled text) (At name node) p u = refl

-- the first note and the later ones say of no source that it failed
parts_unfailed : (notes : List Note) → NoneFailed notes → (is_failed (first_note notes) ≡ false) × NoneFailed (later_notes notes)
parts_unfailed [] u = (refl, tt)
parts_unfailed (note ∷ notes) u = u

-- the lines of plain steps under notes that say of no source that it failed are those under none
pub plain_unfailed : (f : Finished) (sources : List (List ℕ)) (names : Names) (notes : List Note) (steps : List Step) → ArePlain steps → NoneFailed notes
    → lines_from f sources names notes steps ≡ lines_from f sources names [] steps
plain_unfailed f sources names notes [] p u = refl
plain_unfailed f sources names notes (step ∷ steps) p u =
    let parts = parts_unfailed notes u in
    let line : Answer → List ℕ = λ a. line_of sources step.client a ++ lines_from f sources (names_after f names step.client step.act a) (later_notes notes) steps in
    let after = names_after f names step.client step.act (answer_of f names nothing step.client step.act) in
    ap line (plain_alike f names step.client (first_note notes) step.act p.0 parts.0)
    ∙ ap (λ l. line_of sources step.client (answer_of f names nothing step.client step.act) ++ l) (plain_unfailed f sources after (later_notes notes) steps p.1 parts.1)

-- where no answer to plain steps is a fault: the lines of the first answers, and those of the steps after them, are the transcript's without notes
pub plain_lines : (NamesAt : Naming) (f : Finished) (sources others : List (List ℕ)) (names : Names) (answers : List Answer) (steps : List Step) → AreOf NamesAt f names answers steps → has_fault answers ≡ false → ArePlain steps
    → (rest : List ℕ) × (answer_lines sources answers steps ++ rest ≡ lines_from f others names [] steps) × (length answers ≡ length steps → rest ≡ [])
plain_lines NamesAt f sources others names answers steps h none plain =
    let lines = unmarked_lines NamesAt f sources others names answers steps h none in
    (lines.0, lines.1 ∙ plain_unfailed f others names (notes_of answers) steps plain (none_failed answers none), lines.2)
