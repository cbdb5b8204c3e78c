-- The steps of a script, read from one line after another.
use Rattle.std.proofs.Common.{◌≡◌, ◌<◌, ◌+◌, ◌∙◌, ℕ, List, [], ◌++◌, Option, Some, None, Result, Ok, Err, refl, sym, ap, length, drop, get_or, append_assoc}
use Rattle.std.proofs.lemmas.List.{drop_more}
use Rattle.std.specs.Result.{IsErrOf}
use Rattle.mix_script.specs.declared.script.ScriptFault.{ScriptFault}
use Rattle.mix_script.specs.declared.script.ScriptFault.TheVariants.{Line, OutOfMemory}
use Rattle.mix_script.specs.declared.step.Forms.{Forms}
use Rattle.mix_script.specs.declared.step.Step.{Step}
use Rattle.mix_script.specs.Steps.{line_steps, with_line, steps_from}

-- steps that were read before what reading the rest gives
abbrev pub after_steps : List Step → Result (List Step) ℕ → Result (List Step) ℕ
after_steps prefix (Ok steps) = Ok (prefix ++ steps)
after_steps prefix (Err n) = Err n

-- steps so far with those of one line more, before the rest, are the steps so far before that line's and the rest
after_two : (prefix new : List Step) (n : ℕ) (rest : Result (List Step) ℕ) → after_steps (prefix ++ new) rest ≡ after_steps prefix (with_line (Some new) n rest)
after_two prefix new n (Ok steps) = ap Ok (append_assoc prefix new steps)
after_two prefix new n (Err m) = refl

-- the steps of lines from a place on are those of the line there, and those of the lines after it
at_line : (forms : Forms) (lines : List (List ℕ)) (i n : ℕ) → i < length lines → steps_from forms n (drop i lines) ≡ with_line (line_steps forms (get_or lines i [])) n (steps_from forms (n + 1) (drop (i + 1) lines))
at_line forms lines i n h = ap (steps_from forms n) (drop_more lines i [] h)

-- with the steps of one line more, the steps so far before the rest are still those of the script
pub line_taken : (forms : Forms) (lines : List (List ℕ)) (i n : ℕ) (prefix new more : List Step) (whole : Result (List Step) ℕ) → i < length lines → line_steps forms (get_or lines i []) ≡ Some new → more ≡ prefix ++ new
    → after_steps prefix (steps_from forms n (drop i lines)) ≡ whole → after_steps more (steps_from forms (n + 1) (drop (i + 1) lines)) ≡ whole
line_taken forms lines i n prefix new more whole h a m e =
    ap (λ steps. after_steps steps (steps_from forms (n + 1) (drop (i + 1) lines))) m ∙ after_two prefix new n (steps_from forms (n + 1) (drop (i + 1) lines))
    ∙ ap (after_steps prefix) (ap (λ o. with_line o n (steps_from forms (n + 1) (drop (i + 1) lines))) (sym a) ∙ sym (at_line forms lines i n h)) ∙ e

-- a line of no form refuses the script
pub line_refused : (forms : Forms) (lines : List (List ℕ)) (i n : ℕ) (prefix : List Step) (whole : Result (List Step) ℕ) → i < length lines → line_steps forms (get_or lines i []) ≡ None
    → after_steps prefix (steps_from forms n (drop i lines)) ≡ whole → whole ≡ Err n
line_refused forms lines i n prefix whole h a e =
    sym e ∙ ap (after_steps prefix) (at_line forms lines i n h ∙ ap (λ o. with_line o n (steps_from forms (n + 1) (drop (i + 1) lines))) a)

-- the fault of a result; where there is none, want of memory
abbrev fault_in : {T : Type 0} → Result T ScriptFault → ScriptFault
fault_in (Ok x) = OutOfMemory
fault_in (Err e) = e

-- the fault of a line is that of the script
pub line_fault : {T : Type 0} (e e' : ScriptFault) (number : ℕ) (new : Option (List Step)) (whole : Result (List Step) ℕ) → e' ≡ e
    → ((n : ℕ) → IsErrOf {T = Unit {0}} (Err e) (Line n) → (new ≡ None) × (n ≡ number)) → (new ≡ None → whole ≡ Err number)
    → (n : ℕ) → IsErrOf {T = T} (Err e') (Line n) → whole ≡ Err n
line_fault e e' number new whole same given refused n is =
    let known = given n (ap Err (sym same ∙ ap fault_in is)) in
    refused known.0 ∙ ap Err (sym known.1)
