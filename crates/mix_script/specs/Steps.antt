-- The steps of a script.
use Rattle.std.specs.Prelude.{◌≡◌, ℕ, ◌+◌, Bool, true, false, IsTrue, cond, List, [], ◌∷◌, ◌++◌, option_map, Option, Some, None, Result, Ok, Err}
use Rattle.mix_words.specs.Lines.{lines_of, is_passed}
use Rattle.mix_script.specs.Lines.{utf8_step}
use Rattle.mix_script.specs.declared.step.Act.{Act}
use Rattle.mix_script.specs.declared.step.Act.TheVariants.{Root, Move, Select, Fetch, Print, Id, At}
use Rattle.mix_script.specs.declared.step.Forms.{Forms}
use Rattle.mix_script.specs.declared.step.Forms.TheVariants.{Plain, WithIds}
use Rattle.mix_script.specs.declared.step.LineRead.{LineRead}
use Rattle.mix_script.specs.declared.step.LineRead.TheVariants as read
use Rattle.mix_script.specs.declared.step.Step.{Step}

-- the steps of a line, by the forms that it may have: none where it is passed over, and else one; None where it is of no form
abbrev pub line_steps : Forms → List ℕ → Option (List Step)
line_steps forms line = cond (is_passed line) (Some []) (option_map (λ step. step ∷ []) (utf8_step forms line))

-- the steps of a line that comes to this
abbrev pub steps_read : LineRead → Option (List Step)
steps_read read.Passed = Some []
steps_read (read.Step step) = Some (step ∷ [])
steps_read read.NoForm = None

-- the steps of a line of this number, and those of the lines after it
abbrev pub with_line : Option (List Step) → ℕ → Result (List Step) ℕ → Result (List Step) ℕ
with_line None n rest = Err n
with_line (Some new) n (Ok steps) = Ok (new ++ steps)
with_line (Some new) n (Err m) = Err m

-- the steps of lines that count from n; or the number of the first line of no form
abbrev pub steps_from : Forms → ℕ → List (List ℕ) → Result (List Step) ℕ
steps_from forms n [] = Ok []
steps_from forms n (line ∷ lines) = with_line (line_steps forms line) n (steps_from forms (n + 1) lines)

-- the steps of a script, by the forms that its lines may have; or the number of its first line of no form, counted from 1
abbrev pub steps_of : Forms → List ℕ → Result (List Step) ℕ
steps_of forms text = steps_from forms 1 (lines_of text)

-- whether an act is of none of the forms of identifiers
abbrev pub is_plain : Act → Bool
is_plain (Root name) = true
is_plain (Move way name from) = true
is_plain (Select name from label) = true
is_plain (Fetch from) = true
is_plain (Print from) = true
is_plain (Id from) = false
is_plain (At name node) = false

-- no step is of a form of identifiers
abbrev pub ArePlain : List Step → Type 0
ArePlain [] = Unit {0}
ArePlain (step ∷ steps) = IsTrue (is_plain step.act) × ArePlain steps

-- a script of which no line is of a form of identifiers has the same steps where lines may have those forms too
abbrev pub PlainStepsStay : Type 0
PlainStepsStay = (text : List ℕ) (steps : List Step) → steps_of Plain text ≡ Ok steps → (steps_of WithIds text ≡ Ok steps) × ArePlain steps
