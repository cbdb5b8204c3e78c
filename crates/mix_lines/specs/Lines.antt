-- The lines that answer what was heard.
use Rattle.std.specs.Prelude.{ℕ, List, [], ◌∷◌, ◌++◌, codes}
use Rattle.mix_script.specs.Names.{no_names}
use Rattle.mix_script.specs.Answers.{line_of}
use Rattle.mix_script.specs.Transcript.{Finished, Names, Note, answered, first_note, later_notes}
use Rattle.mix_script.specs.declared.answer.Answer.{Answer}
use Rattle.mix_lines.specs.Heard.{Heard, step, no_form}

-- the line that answers a line of no form
abbrev pub no_form_line : List ℕ
no_form_line = codes "no form\n"

-- the lines that tell answers to the first of the steps that were heard, and what had no form before a step without an answer
abbrev pub spoken : List (List ℕ) → List Heard → List Answer → List ℕ
spoken names [] answers = []
spoken names (no_form ∷ heard) answers = no_form_line ++ spoken names heard answers
spoken names (step s ∷ heard) [] = []
spoken names (step s ∷ heard) (a ∷ answers) = line_of names s.client a ++ spoken names heard answers

-- the lines that answer what was heard on a finished document, where names hold given places before it
abbrev pub spoken_from : Finished → List (List ℕ) → Names → List Note → List Heard → List ℕ
spoken_from f sources names notes [] = []
spoken_from f sources names notes (no_form ∷ heard) = no_form_line ++ spoken_from f sources names notes heard
spoken_from f sources names notes (step s ∷ heard) =
    let now = answered f names (first_note notes) s in
    line_of sources s.client now.0 ++ spoken_from f sources now.1 (later_notes notes) heard

-- the transcript of what was heard: that of its steps, with a line of its own for what has no form
abbrev pub heard_transcript : Finished → List (List ℕ) → List Note → List Heard → List ℕ
heard_transcript f sources notes heard = spoken_from f sources no_names notes heard
