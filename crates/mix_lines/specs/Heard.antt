-- What lines ask for.
use Rattle.std.specs.Prelude.{ℕ, Bool, false, cond, nat_lt, ◌==◌, ◌||◌, List, [], ◌∷◌, ◌++◌, Option, Some, None, length, map}
use Rattle.mix_words.specs.Lines.{lines_of}
use Rattle.mix_script.specs.Steps.{line_steps, steps_read}
use Rattle.mix_script.specs.declared.step.Forms.TheVariants.{WithIds}
use Rattle.mix_script.specs.declared.step.LineRead.{LineRead}
use Rattle.mix_script.specs.declared.step.Step.{Step}

-- what a line asks for that is answered: a step, or nothing that has a form
pub data Heard : Type 0 where
  step : Step → Heard
  no_form : Heard

-- what a line asks for, given its steps: each of them; where the line is of no form, `no_form` alone
abbrev pub asked : Option (List Step) → List Heard
asked None = no_form ∷ []
asked (Some steps) = map step steps

-- what a line asks for, which may have any form: one of more than 1,048,576 bytes is of no form
abbrev pub line_asks : List ℕ → List Heard
line_asks line = asked (cond (nat_lt 1048576 (length line)) None (line_steps WithIds line))

-- what several lines ask for, one after another
abbrev pub lines_ask : List (List ℕ) → List Heard
lines_ask [] = []
lines_ask (line ∷ lines) = line_asks line ++ lines_ask lines

-- what the lines of a text ask for
abbrev pub heard : List ℕ → List Heard
heard text = lines_ask (lines_of text)

-- what the next line of an input asks for; nothing at its end
abbrev pub next_asks : Option LineRead → List Heard
next_asks None = []
next_asks (Some read) = asked (steps_read read)

-- the steps among what was heard
abbrev pub steps_in : List Heard → List Step
steps_in [] = []
steps_in (step s ∷ heard) = s ∷ steps_in heard
steps_in (no_form ∷ heard) = steps_in heard

-- whether a text has the byte LF
abbrev pub has_lf : List ℕ → Bool
has_lf [] = false
has_lf (b ∷ bs) = b == 10 || has_lf bs

-- the whole lines of a text: up to its last LF and with it
abbrev pub whole_lines : List ℕ → List ℕ
whole_lines [] = []
whole_lines (b ∷ bs) = cond (has_lf (b ∷ bs)) (b ∷ whole_lines bs) []
