-- What is heard of the steps of a script.
use Rattle.std.proofs.Common.{◌≡◌, ◌∙◌, ◌≤◌, ℕ, zero, suc, true, false, List, [], ◌∷◌, ◌++◌, Ok, Err, Result, Bool, map, take, drop, length, refl, ap, sym, subst, arith, append_assoc, take-append-drop}
use Rattle.std.proofs.lemmas.List.{map-append, take_all}
use Rattle.mix_base.proofs.Lists.{append_nil}
use Rattle.mix_io.specs.Views.{SinkView}
use Rattle.mix_io.specs.declared.input.TakeFault.{TakeFault}
use Rattle.lxp_core.specs.View.{View}
use Rattle.mix_script.specs.Answers.{line_of}
use Rattle.mix_script.specs.Allowed.{answer_lines}
use Rattle.mix_script.specs.Transcript.{Finished, Names, Note, answered, first_note, later_notes, lines_from}
use Rattle.mix_script.specs.declared.answer.Answer.{Answer}
use Rattle.mix_script.specs.declared.step.Step.{Step}
use Rattle.mix_session.specs.Meaning.{Course}
use Rattle.mix_session.specs.Stepped.{LetsAll}
use Rattle.mix_lines.specs.Answered.{AreAnswered, EndsAfter, IsCutByAnswer, IsLater}
use Rattle.mix_lines.specs.Ends.{Ends, IsInputless}
use Rattle.mix_lines.specs.Heard.{Heard, step, steps_in}
use Rattle.mix_lines.specs.Lines.{spoken, spoken_from}
use Rattle.mix_lines.specs.Requests.{coming}
use Rattle.mix_lines.specs.Steps.{AreAsked, IsNext, IsWithin, asked_by, next_after}
use Rattle.mix_lines.specs.declared.fault.LinesFault.{LinesFault}
use Rattle.mix_lines.specs.declared.fault.LinesFault.TheVariants.{InputFailed, SinkFailed, OutOfMemory}
use Rattle.mix_lines.specs.declared.steps.Steps.{Steps}

-- the steps of what is heard of a script are its steps
pub steps_of_script : (steps : List Step) → steps_in (map step steps) ≡ steps
steps_of_script [] = refl
steps_of_script (s ∷ steps) = ap (λ xs. s ∷ xs) (steps_of_script steps)

-- the lines that answer what is heard of a script are those that answer its steps
pub lines_of_script : (names : List (List ℕ)) (answers : List Answer) (steps : List Step) → spoken names (map step steps) answers ≡ answer_lines names answers steps
lines_of_script names [] [] = refl
lines_of_script names [] (s ∷ steps) = refl
lines_of_script names (a ∷ answers) [] = refl
lines_of_script names (a ∷ answers) (s ∷ steps) = ap (λ l. line_of names s.client a ++ l) (lines_of_script names answers steps)

-- the transcript of what is heard of a script is that of its steps, from these names on
pub transcript_of_script : (f : Finished) (sources : List (List ℕ)) (names : Names) (notes : List Note) (steps : List Step) → spoken_from f sources names notes (map step steps) ≡ lines_from f sources names notes steps
transcript_of_script f sources names notes [] = refl
transcript_of_script f sources names notes (s ∷ steps) =
    let now = answered f names (first_note notes) s in
    ap (λ l. line_of sources s.client now.0 ++ l) (transcript_of_script f sources now.1 (later_notes notes) steps)

-- the first of some steps are let be answered where all are
lets_first : {W : Type 0} (c : Course W) (n : ℕ) (steps : List Step) → LetsAll c steps → LetsAll c (take n steps)
lets_first c zero steps lets = tt
lets_first c (suc n) [] lets = tt
lets_first c (suc n) (s ∷ steps) lets = (lets.0, lets_first c n steps lets.1)

-- what was asked for from the first step on is heard of the first steps
asked_first : (r r' : Steps) (heard : List Heard) → r.asked ≡ 0 → AreAsked r r' heard → heard ≡ map step (take r'.asked r.steps.now)
asked_first r r' heard none come = ap (λ n. map step (take n r.steps.now) ++ heard) (sym none) ∙ come.1 ∙ ap (λ s. map step (take r'.asked s.now)) come.0

-- the steps of a script that were asked for are let be answered where all are
pub lets_asked : {W : Type 0} (c : Course W) (steps : List Step) (r r' : Steps) (heard : List Heard) → r.steps.now ≡ steps → r.asked ≡ 0 → LetsAll c steps → AreAsked r r' heard → LetsAll c (steps_in heard)
lets_asked c steps r r' heard all none lets come =
    let same : steps_in heard ≡ take r'.asked r.steps.now = ap steps_in (asked_first r r' heard none come) ∙ steps_of_script (take r'.asked r.steps.now) in
    subst (LetsAll c) (sym same) (lets_first c r'.asked r.steps.now (subst (LetsAll c) (sym all) lets))

-- the first steps and those after them are all
first_and_later : (n : ℕ) (steps : List Step) → map step (take n steps) ++ map step (drop n steps) ≡ map step steps
first_and_later n steps = sym (map-append step (take n steps) (drop n steps)) ∙ ap (map step) (take-append-drop n steps)

-- where lines were cut short, anything may be asked for later
later_short : (r : Result Bool LinesFault) (later : List Heard) → IsCutByAnswer r → IsLater r later
later_short (Ok marked) later cut = absurd cut
later_short (Err InputFailed) later cut = absurd cut
later_short (Err SinkFailed) later cut = tt
later_short (Err OutOfMemory) later cut = tt

-- however lines end, nothing may be asked for later
later_none : (r : Result Bool LinesFault) → IsLater r []
later_none (Ok marked) = refl
later_none (Err InputFailed) = refl
later_none (Err SinkFailed) = tt
later_none (Err OutOfMemory) = tt

-- lines that were cut short by an answer need no input for that
inputless_short : (r : Result Bool LinesFault) → IsCutByAnswer r → IsInputless r
inputless_short (Ok marked) cut = absurd cut
inputless_short (Err InputFailed) cut = absurd cut
inputless_short (Err SinkFailed) cut = tt
inputless_short (Err OutOfMemory) cut = tt

module _ {W : Type 0} (c : Course W) (old new : View) (names : List (List ℕ)) (steps : List Step) (before after : SinkView) (start : Steps) (same : start.steps.now ≡ steps) (none : start.asked ≡ 0) (r : Result Bool LinesFault) where
  -- how lines end that answer what is heard of the script, which needs no input
  abbrev Ended : Type 0
  Ended = Ends c old new names (map step steps) before after r × IsInputless r

  -- where the lines end so whatever is asked for later, they end so for the script
  ended_by : (requests last : Steps) (done : List Heard) (call : Result Bool TakeFault) → AreAsked start requests done → IsNext requests last call → EndsAfter call r
      → ((later : List Heard) → IsLater r later → Ends c old new names (done ++ (coming (asked_by last) call ++ later)) before after r) → Ended
  ended_by requests last done (Ok true) come moved cut ends =
      let later = map step (drop last.asked start.steps.now) in
      let asked : done ++ asked_by last ≡ map step (take last.asked start.steps.now) = asked_first start last (done ++ asked_by last) none (next_after start requests last done come moved) in
      let all : done ++ (asked_by last ++ later) ≡ map step steps =
      sym (append_assoc done (asked_by last) later) ∙ ap (λ h. h ++ later) asked ∙ first_and_later last.asked start.steps.now ∙ ap (map step) same in
      (subst (λ h. Ends c old new names h before after r) all (ends later (later_short r later cut)), inputless_short r cut)
  ended_by requests last done (Ok false) come moved whole ends =
      let count : length start.steps.now ≤ requests.asked = let e = moved.1 in let long = ap (λ s. length s.now) come.0 in omega (arith, e, long) in
      let all : done ++ [] ≡ map step steps = append_nil done ∙ asked_first start requests done none come ∙ ap (map step) (take_all requests.asked start.steps.now count ∙ same) in
      (subst (λ h. Ends c old new names h before after r) all (ends [] (later_none r)), subst IsInputless (sym whole.1) tt)
  ended_by requests last done (Err fault) come moved ends_after ends = absurd moved

  -- lines that answer the steps of a script end as lines do, and need no input
  pub script_ends : (from : Unit {0}) → AreAnswered (λ r x heard. AreAsked start r heard) (λ r x r' x' call. IsNext r r' call) (λ r x. IsWithin r) asked_by c old new names from before after r → Ended
  script_ends from is = ended_by is.requests is.last is.done is.call is.come is.moved is.ends_after is.ends
