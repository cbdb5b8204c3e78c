-- The step of a line: a client's prefix or none, and a form.
use Rattle.std.specs.Prelude.{ℕ, Bool, true, false, cond, ◌==◌, List, [], ◌∷◌, Option, Some, None, option_map, option_and_then, take, drop}
use Rattle.std.specs.Str.{is_utf8}
use Rattle.mix_tree.specs.LabelMachine.{Seen, got, unexpected, ends, start, seen_from}
use Rattle.mix_words.specs.Words.{is_name, words_of}
use Rattle.mix_words.specs.Places.{place_of_word}
use Rattle.mix_script.specs.Forms.{act_by, select_of}
use Rattle.mix_script.specs.declared.step.Act.{Act}
use Rattle.mix_script.specs.declared.step.Forms.{Forms}
use Rattle.mix_script.specs.declared.step.Step.{Step}

-- whether there are no words
abbrev pub no_words : List (List ℕ) → Bool
no_words [] = true
no_words (w ∷ words) = false

-- a label that was seen, where no word stands after its spelling
abbrev pub label_alone : Seen → Option (List ℕ)
label_alone (got label end after) = cond (no_words (words_of after)) (Some label) None
label_alone (unexpected at) = None
label_alone ends = None

-- what a line asks for whose label begins at a place: X = select Y LABEL
abbrev pub select_at : List ℕ → ℕ → Option Act
select_at line at = option_and_then (select_of (words_of (take at line))) (label_alone (seen_from start at (drop at line)))

-- what a line without a prefix asks for: a fifth word begins a label, and of fewer words each is read
abbrev pub act_from : Forms → List ℕ → Option ℕ → Option Act
act_from forms line None = act_by forms (words_of line)
act_from forms line (Some at) = select_at line at

-- what a line without a prefix asks for, by the forms that it may have
abbrev pub act_in : Forms → List ℕ → Option Act
act_in forms line = act_from forms line (place_of_word 4 line)

-- what stands before a colon, where it is the last byte
abbrev pub before_colon : List ℕ → Option (List ℕ)
before_colon [] = None
before_colon (b ∷ []) = cond (b == 58) (Some []) None
before_colon (b ∷ c ∷ bs) = option_map (λ name. b ∷ name) (before_colon (c ∷ bs))

-- the text, where it is a script name
abbrev pub name_alone : List ℕ → Option (List ℕ)
name_alone name = cond (is_name name) (Some name) None

-- the client that a word names: a script name with a colon at once after it
abbrev pub client_named : List ℕ → Option (List ℕ)
client_named word = option_and_then name_alone (before_colon word)

-- the client that words name: one word alone may name one, by what stands before its colon
abbrev pub client_of : List (List ℕ) → Option (List ℕ)
client_of [] = None
client_of (word ∷ []) = client_named word
client_of (a ∷ b ∷ words) = None

-- the step of a client that asks for an act
abbrev pub step_with : List ℕ → Act → Step
step_with client act = record { client = client; act = act }

-- the step of a line, whose second word begins at a place: after a client's prefix, or without one
abbrev pub step_after : Forms → List ℕ → ℕ → Option (List ℕ) → Option Step
step_after forms line at None = option_map (step_with []) (act_in forms line)
step_after forms line at (Some client) = option_map (step_with client) (act_in forms (drop at line))

-- the step of a line, by the place at which its second word begins
abbrev pub step_from : Forms → List ℕ → Option ℕ → Option Step
step_from forms line None = option_map (step_with []) (act_in forms line)
step_from forms line (Some at) = step_after forms line at (client_of (words_of (take at line)))

-- the step of a line that is UTF-8
abbrev pub step_in : Forms → List ℕ → Option Step
step_in forms line = step_from forms line (place_of_word 1 line)

-- the step of a line; None where it is not UTF-8 or fits no form
abbrev pub utf8_step : Forms → List ℕ → Option Step
utf8_step forms line = cond (is_utf8 line) (step_in forms line) None
