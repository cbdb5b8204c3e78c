-- Answers to the first steps are answers to as many steps as they are.
use Rattle.std.proofs.Common.{◌≡◌, ℕ, zero, suc, Bool, List, [], ◌∷◌, ◌++◌, ◌∙◌, refl, ap, append_assoc, length, take}
use Rattle.mix_script.specs.Answers.{line_of}
use Rattle.mix_script.specs.Transcript.{Finished, Names, Naming, Note, answered, first_note, later_notes, lines_from}
use Rattle.mix_script.specs.Allowed.{Nodes, nodes_after, AreAnswers, answer_lines, note_of}
use Rattle.mix_script.specs.Finished.{AreOf}
use Rattle.mix_script.specs.Steps.{ArePlain}
use Rattle.mix_script.specs.declared.step.Step.{Step}
use Rattle.mix_script.specs.declared.answer.Answer.{Answer}

-- answers that may be given to the first steps may be given to as many steps as they are
pub first_allowed : (roots : Bool) (MayFail : ℕ → Type 0) (nodes : Nodes) (answers : List Answer) (steps : List Step) → AreAnswers roots MayFail nodes answers steps
    → AreAnswers roots MayFail nodes answers (take (length answers) steps)
first_allowed roots MayFail nodes [] steps h = tt
first_allowed roots MayFail nodes (a ∷ answers) [] h = h
first_allowed roots MayFail nodes (a ∷ answers) (step ∷ steps) h = (h.0, first_allowed roots MayFail (nodes_after nodes step.client step.act a) answers steps h.1)

-- answers of a document to the first steps are its answers to as many steps as they are
pub first_of : (NamesAt : Naming) (f : Finished) (names : Names) (answers : List Answer) (steps : List Step) → AreOf NamesAt f names answers steps
    → AreOf NamesAt f names answers (take (length answers) steps)
first_of NamesAt f names [] steps h = tt
first_of NamesAt f names (a ∷ answers) [] h = h
first_of NamesAt f names (a ∷ answers) (step ∷ steps) h = (h.0, h.1, first_of NamesAt f (answered f names (note_of a) step).1 answers steps h.2)

-- answers to the first steps are as many as these
pub first_count : (NamesAt : Naming) (f : Finished) (names : Names) (answers : List Answer) (steps : List Step) → AreOf NamesAt f names answers steps
    → length answers ≡ length (take (length answers) steps)
first_count NamesAt f names [] steps h = refl
first_count NamesAt f names (a ∷ answers) [] h = absurd h
first_count NamesAt f names (a ∷ answers) (step ∷ steps) h = ap suc (first_count NamesAt f (answered f names (note_of a) step).1 answers steps h.2)

-- the lines of answers to the first steps are those of the answers to as many steps as they are
pub first_lines : (sources : List (List ℕ)) (answers : List Answer) (steps : List Step) → answer_lines sources answers steps ≡ answer_lines sources answers (take (length answers) steps)
first_lines sources [] steps = refl
first_lines sources (a ∷ answers) [] = refl
first_lines sources (a ∷ answers) (step ∷ steps) = ap (λ l. line_of sources step.client a ++ l) (first_lines sources answers steps)

-- the first of plain steps are plain
pub first_plain : (n : ℕ) (steps : List Step) → ArePlain steps → ArePlain (take n steps)
first_plain zero steps h = tt
first_plain (suc n) [] h = tt
first_plain (suc n) (step ∷ steps) h = (h.0, first_plain n steps h.1)

-- the lines of the first steps are a prefix of those of all steps
pub first_begin : (f : Finished) (sources : List (List ℕ)) (names : Names) (notes : List Note) (n : ℕ) (steps : List Step)
    → (rest : List ℕ) × (lines_from f sources names notes (take n steps) ++ rest ≡ lines_from f sources names notes steps)
first_begin f sources names notes zero steps = (lines_from f sources names notes steps, refl)
first_begin f sources names notes (suc n) [] = ([], refl)
first_begin f sources names notes (suc n) (step ∷ steps) =
    let now = answered f names (first_note notes) step in
    let later = first_begin f sources now.1 (later_notes notes) n steps in
    let lines = lines_from f sources now.1 (later_notes notes) (take n steps) in
    (later.0, append_assoc (line_of sources step.client now.0) lines later.0 ∙ ap (λ l. line_of sources step.client now.0 ++ l) later.1)
