-- Lines as they are read: prefixes of clients, labels after words, and texts that are UTF-8.
use Rattle.std.proofs.Common.{◌≡◌, ◌≢◌, ◌<◌, ◌≤◌, ◌-◌, ◌∙◌, ℕ, suc, Bool, true, false, cond, ◌==◌, List, [], ◌∷◌, Some, None, option_map, option_and_then, refl, sym, ap, arith, length, take, drop, get_or, IsUtf8}
use Rattle.std.specs.Str.{is_utf8}
use Rattle.std.proofs.lemmas.Str.{IsUtf8-from_is_utf8, is_utf8-from_IsUtf8}
use Rattle.mix_tree.specs.LabelMachine.{Seen, got}
use Rattle.mix_tree.specs.LabelReads.{seen_of}
use Rattle.mix_tree.specs.declared.label_read.LabelRead.{LabelRead}
use Rattle.mix_tree.specs.declared.label_read.LabelRead.TheVariants.{Got, Unexpected, Ends}
use Rattle.mix_words.specs.Words.{words_of}
use Rattle.mix_script.specs.declared.step.Forms.{Forms}
use Rattle.mix_script.specs.Forms.{select_of}
use Rattle.mix_script.specs.Lines.{before_colon, no_words, label_alone, step_in, utf8_step}

-- the last byte of two bytes or more is the last of those after the first
last_after : (b c : ℕ) (xs : List ℕ) → get_or (b ∷ c ∷ xs) (length (b ∷ c ∷ xs) - 1) 0 ≡ get_or (c ∷ xs) (length (c ∷ xs) - 1) 0
last_after b c xs =
    let e : length (b ∷ c ∷ xs) - 1 ≡ suc (length (c ∷ xs) - 1) = omega arith in
    ap (λ n. get_or (b ∷ c ∷ xs) n 0) e

-- all but the last of two bytes or more are the first, and all but the last of those after it
prefix_kept : (b c : ℕ) (xs : List ℕ) → take (length (b ∷ c ∷ xs) - 1) (b ∷ c ∷ xs) ≡ b ∷ take (length (c ∷ xs) - 1) (c ∷ xs)
prefix_kept b c xs =
    let e : length (b ∷ c ∷ xs) - 1 ≡ suc (length (c ∷ xs) - 1) = omega arith in
    ap (λ n. take n (b ∷ c ∷ xs)) e

-- where the last byte is a colon, what stands before it is found
pub colon_found : (xs : List ℕ) → 1 ≤ length xs → get_or xs (length xs - 1) 0 ≡ 58 → before_colon xs ≡ Some (take (length xs - 1) xs)
colon_found [] h e = absurd (omega arith)
colon_found (b ∷ []) h e = let is : b ≡ 58 = e in rw is refl
colon_found (b ∷ c ∷ xs) h e =
    ap (option_map (λ name. b ∷ name)) (colon_found (c ∷ xs) (omega arith) (sym (last_after b c xs) ∙ e)) ∙ ap Some (sym (prefix_kept b c xs))

-- where the last byte is no colon, nothing is found before a colon
pub no_colon : (xs : List ℕ) → get_or xs (length xs - 1) 0 ≢ 58 → before_colon xs ≡ None
no_colon [] h = refl
no_colon (b ∷ []) h = let e : b == 58 ≡ false = grind arith in rw e refl
no_colon (b ∷ c ∷ xs) h = ap (option_map (λ name. b ∷ name)) (no_colon (c ∷ xs) (λ e. h (last_after b c xs ∙ e)))

-- in an empty text, nothing is found before a colon
pub empty_colon : (xs : List ℕ) → length xs < 1 → before_colon xs ≡ None
empty_colon [] h = refl
empty_colon (b ∷ xs) h = absurd (omega arith)

-- nothing is asked for where no label is read
pub unread_select : (line : List ℕ) (words : List (List ℕ)) (seen : Seen) (read : LabelRead) → seen ≡ seen_of line read → ((l : List ℕ) (end : ℕ) → read ≡ Got l end → ⊥)
    → None ≡ option_and_then (select_of words) (label_alone seen)
unread_select line words seen (Got l end) e never = absurd (never l end refl)
unread_select line words seen (Unexpected at) e never = sym (ap (λ s. option_and_then (select_of words) (label_alone s)) e)
unread_select line words seen Ends e never = sym (ap (λ s. option_and_then (select_of words) (label_alone s)) e)

-- nothing is asked for where words stand after the label
pub followed_select : (line : List ℕ) (words : List (List ℕ)) (seen : Seen) (label : List ℕ) (end : ℕ) → seen ≡ got label end (drop end line) → no_words (words_of (drop end line)) ≡ false
    → None ≡ option_and_then (select_of words) (label_alone seen)
followed_select line words seen label end e some =
    sym (ap (λ s. option_and_then (select_of words) (label_alone s)) e ∙ ap (λ t. option_and_then (select_of words) (cond t (Some label) None)) some)

-- the words before a label alone say what is asked for
pub alone_select : (line : List ℕ) (words : List (List ℕ)) (seen : Seen) (label : List ℕ) (end : ℕ) → seen ≡ got label end (drop end line) → no_words (words_of (drop end line)) ≡ true
    → select_of words label ≡ option_and_then (select_of words) (label_alone seen)
alone_select line words seen label end e none =
    sym (ap (λ s. option_and_then (select_of words) (label_alone s)) e ∙ ap (λ t. option_and_then (select_of words) (cond t (Some label) None)) none)

-- a line that is no UTF-8 has no step
pub no_utf8 : (forms : Forms) (line : List ℕ) → ¬ (IsUtf8 line) → None ≡ utf8_step forms line
no_utf8 forms line h = by_case (is_utf8 line) refl
  where
    by_case : (b : Bool) → is_utf8 line ≡ b → None ≡ cond (is_utf8 line) (step_in forms line) None
    by_case true e = absurd (h (IsUtf8-from_is_utf8 line e))
    by_case false e = rw e refl

-- a line that is UTF-8 has the step of its words
pub utf8_line : (forms : Forms) (line : List ℕ) → IsUtf8 line → step_in forms line ≡ utf8_step forms line
utf8_line forms line h = sym (ap (λ b. cond b (step_in forms line) None) (is_utf8-from_IsUtf8 line h))
