-- One client's part of a script: its steps, their notes, and the lines that answer them among those of all clients.
use Rattle.std.specs.Prelude.{◌≡◌, ℕ, cond, List, [], ◌∷◌, ◌++◌}
use Rattle.std.specs.Str.{bytes_eq}
use Rattle.mix_script.specs.Names.{no_names}
use Rattle.mix_script.specs.Answers.{line_of}
use Rattle.mix_script.specs.Transcript.{Finished, Names, Note, answered, first_note, later_notes, transcript}
use Rattle.mix_script.specs.declared.step.Step.{Step}

-- the steps of a client
abbrev pub own_steps : List ℕ → List Step → List Step
own_steps client [] = []
own_steps client (step ∷ steps) = cond (bytes_eq step.client client) (step ∷ own_steps client steps) (own_steps client steps)

-- the notes of a client's steps
abbrev pub own_notes : List ℕ → List Note → List Step → List Note
own_notes client notes [] = []
own_notes client notes (step ∷ steps) =
    let later = own_notes client (later_notes notes) steps in
    cond (bytes_eq step.client client) (first_note notes ∷ later) later

-- the lines that answer a client's steps, where names hold this before all of them
abbrev pub own_lines_from : Finished → List (List ℕ) → List ℕ → Names → List Note → List Step → List ℕ
own_lines_from f sources client names notes [] = []
own_lines_from f sources client names notes (step ∷ steps) =
    let now = answered f names (first_note notes) step in
    let later = own_lines_from f sources client now.1 (later_notes notes) steps in
    cond (bytes_eq step.client client) (line_of sources step.client now.0 ++ later) later

-- the lines that answer a client's steps in a script
abbrev pub own_lines : Finished → List (List ℕ) → List ℕ → List Note → List Step → List ℕ
own_lines f sources client notes steps = own_lines_from f sources client no_names notes steps

-- each client's lines are the transcript of its own steps alone, under their notes
abbrev pub ClientsAreApart : Type 0
ClientsAreApart = (f : Finished) (sources : List (List ℕ)) (client : List ℕ) (notes : List Note) (steps : List Step)
    → own_lines f sources client notes steps ≡ transcript f sources (own_notes client notes steps) (own_steps client steps)
