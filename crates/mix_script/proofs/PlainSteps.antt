-- The steps of a script of which no line is of a form of identifiers.
use Rattle.std.proofs.Common.{◌≡◌, ◌∙◌, ◌+◌, ℕ, Bool, true, false, cond, List, [], ◌∷◌, ◌++◌, Option, Some, None, option_map, option_and_then, Result, Ok, Err, refl, ap, subst, take, drop}
use Rattle.std.specs.Prelude.{IfOk}
use Rattle.std.specs.Str.{is_utf8}
use Rattle.mix_base.proofs.Choices.{Gives, either, none_some}
use Rattle.mix_tree.specs.LabelMachine.{start, seen_from}
use Rattle.mix_words.specs.Lines.{lines_of, is_passed}
use Rattle.mix_words.specs.Places.{place_of_word}
use Rattle.mix_words.specs.Words.{words_of}
use Rattle.mix_script.specs.Forms.{either_act, id_act_of, select_of}
use Rattle.mix_script.specs.Lines.{act_from, act_in, client_of, label_alone, step_after, step_from, step_in, step_with, utf8_step}
use Rattle.mix_script.specs.Steps.{ArePlain, PlainStepsStay, line_steps, steps_from, steps_of, with_line}
use Rattle.mix_script.specs.declared.step.Act.{Act}
use Rattle.mix_script.specs.declared.step.Forms.TheVariants.{Plain, WithIds}
use Rattle.mix_script.specs.declared.step.Step.{Step}
use Rattle.mix_script.proofs.ActForms.{IsPlainAct, plain_of, plain_select}

-- THEY ARE PLAIN

-- a step asks for a plain act
abbrev IsPlainStep : Step → Type 0
IsPlainStep step = IsPlainAct step.act

-- what a line asks for whose label begins at a place is plain
plain_at : (words : List (List ℕ)) (label : Option (List ℕ)) → Gives IsPlainAct (option_and_then (select_of words) label)
plain_at words None = tt
plain_at words (Some label) = plain_select label words

-- what a line asks for that has no form of identifiers is plain, wherever its label begins
pub plain_from : (line : List ℕ) (place : Option ℕ) → Gives IsPlainAct (act_from Plain line place)
plain_from line None = plain_of (words_of line)
plain_from line (Some at) = plain_at (words_of (take at line)) (label_alone (seen_from start at (drop at line)))

-- the step of a client that asks for a plain act is plain
plain_with : (client : List ℕ) (act : Option Act) → Gives IsPlainAct act → Gives IsPlainStep (option_map (step_with client) act)
plain_with client None h = tt
plain_with client (Some act) h = h

-- the step of a line is plain after a client's prefix, and without one
plain_after : (line : List ℕ) (at : ℕ) (client : Option (List ℕ)) → Gives IsPlainStep (step_after Plain line at client)
plain_after line at None = plain_with [] (act_in Plain line) (plain_from line (place_of_word 4 line))
plain_after line at (Some client) = plain_with client (act_in Plain (drop at line)) (plain_from (drop at line) (place_of_word 4 (drop at line)))

-- the step of a line is plain, wherever its second word begins
plain_step_from : (line : List ℕ) (place : Option ℕ) → Gives IsPlainStep (step_from Plain line place)
plain_step_from line None = plain_with [] (act_in Plain line) (plain_from line (place_of_word 4 line))
plain_step_from line (Some at) = plain_after line at (client_of (words_of (take at line)))

-- a plain step alone is plain
plain_alone : (step : Option Step) → Gives IsPlainStep step → Gives ArePlain (option_map (λ s. s ∷ []) step)
plain_alone None h = tt
plain_alone (Some step) h = (h, tt)

-- the steps of a line are plain
pub plain_line : (line : List ℕ) → Gives ArePlain (line_steps Plain line)
plain_line line =
    either ArePlain (is_passed line) (Some []) (option_map (λ s. s ∷ []) (utf8_step Plain line)) (λ _. tt)
    (λ _. plain_alone (utf8_step Plain line) (either IsPlainStep (is_utf8 line) (step_in Plain line) None (λ _. plain_step_from line (place_of_word 1 line)) (λ _. tt)))

-- plain steps after plain steps are plain
plain_append : (xs ys : List Step) → ArePlain xs → ArePlain ys → ArePlain (xs ++ ys)
plain_append [] ys h k = k
plain_append (x ∷ xs) ys h k = (h.0, plain_append xs ys h.1 k)

-- with the plain steps of one line more, plain steps are plain
plain_joined : (new : Option (List Step)) (n : ℕ) (rest : Result (List Step) ℕ) → Gives ArePlain new → IfOk rest ArePlain → IfOk (with_line new n rest) ArePlain
plain_joined None n rest h k = tt
plain_joined (Some new) n (Ok steps) h k = plain_append new steps h k
plain_joined (Some new) n (Err m) h k = tt

-- the steps of lines are plain
plain_lines : (n : ℕ) (lines : List (List ℕ)) → IfOk (steps_from Plain n lines) ArePlain
plain_lines n [] = tt
plain_lines n (line ∷ lines) = plain_joined (line_steps Plain line) n (steps_from Plain (n + 1) lines) (plain_line line) (plain_lines (n + 1) lines)

-- the steps of a script are plain, of which no line is of a form of identifiers
pub plain_steps : (text : List ℕ) (steps : List Step) → steps_of Plain text ≡ Ok steps → ArePlain steps
plain_steps text steps e = subst (λ r. IfOk r ArePlain) e (plain_lines 1 (lines_of text))

-- THEY STAY

-- what the first option gives the second gives too
abbrev pub Stays : {A : Type 0} → Option A → Option A → Type 0
Stays {A} o p = (x : A) → o ≡ Some x → p ≡ Some x

-- what stays stays when each value is made another
stays_mapped : {A B : Type 0} (f : A → B) (o p : Option A) → Stays o p → Stays (option_map f o) (option_map f p)
stays_mapped f None p h y e = none_some y e
stays_mapped f (Some x) p h y e = ap (option_map f) (h x refl) ∙ e

-- what stays on both sides of a choice stays
stays_either : {A : Type 0} (b : Bool) (o p q r : Option A) → Stays o q → Stays p r → Stays (cond b o p) (cond b q r)
stays_either true o p q r h k = h
stays_either false o p q r h k = k

-- what a line asks for stays, wherever its label begins
act_stays : (line : List ℕ) (place : Option ℕ) → Stays (act_from Plain line place) (act_from WithIds line place)
act_stays line None a e = ap (λ o. either_act o (id_act_of (words_of line))) e
act_stays line (Some at) a e = e

-- what a client's line asks for stays
client_stays : (client line : List ℕ) → Stays (option_map (step_with client) (act_in Plain line)) (option_map (step_with client) (act_in WithIds line))
client_stays client line = stays_mapped (step_with client) (act_in Plain line) (act_in WithIds line) (act_stays line (place_of_word 4 line))

-- the step of a line stays after a client's prefix, and without one
after_stays : (line : List ℕ) (at : ℕ) (client : Option (List ℕ)) → Stays (step_after Plain line at client) (step_after WithIds line at client)
after_stays line at None = client_stays [] line
after_stays line at (Some client) = client_stays client (drop at line)

-- the step of a line stays, wherever its second word begins
step_stays : (line : List ℕ) (place : Option ℕ) → Stays (step_from Plain line place) (step_from WithIds line place)
step_stays line None = client_stays [] line
step_stays line (Some at) = after_stays line at (client_of (words_of (take at line)))

-- the steps of a line stay
pub line_stays : (line : List ℕ) → Stays (line_steps Plain line) (line_steps WithIds line)
line_stays line =
    let utf8 = stays_either (is_utf8 line) (step_in Plain line) None (step_in WithIds line) None (step_stays line (place_of_word 1 line)) (λ s e. e) in
    stays_either (is_passed line) (Some []) (option_map (λ s. s ∷ []) (utf8_step Plain line)) (Some []) (option_map (λ s. s ∷ []) (utf8_step WithIds line)) (λ s e. e)
    (stays_mapped (λ s. s ∷ []) (utf8_step Plain line) (utf8_step WithIds line) utf8)

-- an error is no result
err_ok : {Q : Type 0} (n : ℕ) (steps : List Step) → ◌≡◌ {A = Result (List Step) ℕ} (Err n) (Ok steps) → Q
err_ok n steps e = cc

-- where the steps of a line stay, and those of the lines after it, all stay
joined_stays : (o p : Option (List Step)) (n : ℕ) (r q : Result (List Step) ℕ) → Stays o p → ((xs : List Step) → r ≡ Ok xs → q ≡ Ok xs) → (steps : List Step) → with_line o n r ≡ Ok steps → with_line p n q ≡ Ok steps
joined_stays None p n r q h k steps e = err_ok n steps e
joined_stays (Some new) p n (Err m) q h k steps e = err_ok m steps e
joined_stays (Some new) p n (Ok rest) q h k steps e = ap (λ x. with_line x n q) (h new refl) ∙ ap (λ x. with_line (Some new) n x) (k rest refl) ∙ e

-- the steps of lines stay
lines_stay : (n : ℕ) (lines : List (List ℕ)) (steps : List Step) → steps_from Plain n lines ≡ Ok steps → steps_from WithIds n lines ≡ Ok steps
lines_stay n [] steps e = e
lines_stay n (line ∷ lines) steps e =
    joined_stays (line_steps Plain line) (line_steps WithIds line) n (steps_from Plain (n + 1) lines) (steps_from WithIds (n + 1) lines) (line_stays line) (lines_stay (n + 1) lines) steps e

-- a script of which no line is of a form of identifiers has the same steps where lines may have those forms too
pub plain_stay : PlainStepsStay
plain_stay text steps e = (lines_stay 1 (lines_of text) steps e, plain_steps text steps e)
