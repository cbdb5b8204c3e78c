-- The first word of a line, and what stands before the second.
use Rattle.std.proofs.Common.{◌≡◌, ◌+◌, ◌∙◌, ℕ, zero, suc, Bool, true, false, ◌&&◌, not, List, [], ◌∷◌, Option, Some, None, refl, ap, sym, arith, length, take, option_map}
use Rattle.mix_base.proofs.Choices.{none_some, some_is}
use Rattle.mix_words.specs.Words.{is_blank, words_of, with_first}
use Rattle.mix_words.specs.Places.{word_from, place_of_word}
use Rattle.mix_words.proofs.WordPlaces.{word_from-other, word_from-next, word_from-here}
use Rattle.mix_script.proofs.LineWords.{blank_prefix}
use Rattle.mix_script.proofs.FewWords.{ends_before, goes_on, none_from, some_word}
use Rattle.mix_script.specs.LineWords.{NoClientFirst}
use Rattle.mix_script.specs.declared.step.Forms.{Forms}
use Rattle.mix_script.specs.Lines.{act_in, client_named, client_of, step_after, step_from, step_in, step_with}

-- no word stands before the next one
none_before : (xs : List ℕ) (at place : ℕ) → word_from true 0 at xs ≡ Some place → (k : ℕ) × (place ≡ at + k) × (words_of (take k xs) ≡ [])
none_before [] at place h = none_some place h
none_before (b ∷ bs) at place h = by_case (is_blank b) refl (none_before bs (at + 1) place)
  where
    by_case : (t : Bool) → is_blank b ≡ t → (word_from true 0 (at + 1) bs ≡ Some place → (k : ℕ) × (place ≡ at + 1 + k) × (words_of (take k bs) ≡ []))
        → (k : ℕ) × (place ≡ at + k) × (words_of (take k (b ∷ bs)) ≡ [])
    by_case true e later =
        let passed = sym (word_from-other true 0 at b bs (ap (λ t. true && not t) e) ∙ ap (λ t. word_from t 0 (at + 1) bs) e) ∙ h in
        let more = later passed in
        (suc more.0, (let there = more.1 in omega arith), blank_prefix b (take more.0 bs) e ∙ more.2)
    by_case false e later =
        let here = some_is at place (sym (word_from-here true 0 at b bs (ap (λ t. true && not t) e) refl) ∙ h) in
        (zero, omega arith, refl)

-- after a byte of a word, that word alone stands before the next one
word_before : (xs : List ℕ) (at place b : ℕ) (w : List ℕ) (ws : List (List ℕ)) → is_blank b ≡ false → word_from false 0 at xs ≡ Some place → words_of (b ∷ xs) ≡ w ∷ ws
    → (k : ℕ) × (place ≡ at + k) × (words_of (b ∷ take k xs) ≡ w ∷ [])
word_before [] at place b w ws f h are = none_some place h
word_before (c ∷ cs) at place b w ws f h are = by_case (is_blank c) refl (λ v vs. word_before cs (at + 1) place c v vs)
  where
    by_case : (t : Bool) → is_blank c ≡ t
        → ((v : List ℕ) (vs : List (List ℕ)) → is_blank c ≡ false → word_from false 0 (at + 1) cs ≡ Some place → words_of (c ∷ cs) ≡ v ∷ vs
        → (k : ℕ) × (place ≡ at + 1 + k) × (words_of (c ∷ take k cs) ≡ v ∷ []))
        → (k : ℕ) × (place ≡ at + k) × (words_of (b ∷ take k (c ∷ cs)) ≡ w ∷ [])
    by_case true e later =
        let passed = sym (word_from-other false 0 at c cs refl ∙ ap (λ t. word_from t 0 (at + 1) cs) e) ∙ h in
        let more = none_before cs (at + 1) place passed in
        let same : (b ∷ []) ∷ words_of cs ≡ w ∷ ws = sym (ends_before b c cs f e) ∙ are in
        let word : b ∷ [] ≡ w = cc in
        (suc more.0, (let there = more.1 in omega arith), ends_before b c (take more.0 cs) f e ∙ ap (λ l. (b ∷ []) ∷ l) more.2 ∙ ap (λ l. l ∷ []) word)
    by_case false e later = split (words_of (c ∷ cs)) refl
      where
        split : (vs : List (List ℕ)) → words_of (c ∷ cs) ≡ vs → (k : ℕ) × (place ≡ at + k) × (words_of (b ∷ take k (c ∷ cs)) ≡ w ∷ [])
        split [] none = absurd (let some = some_word c cs e in omega (arith, some, ap length none))
        split (v ∷ vs) is =
            let passed = sym (word_from-other false 0 at c cs refl ∙ ap (λ t. word_from t 0 (at + 1) cs) e) ∙ h in
            let more = later v vs e passed is in
            let same : (b ∷ v) ∷ vs ≡ w ∷ ws = sym (goes_on b c cs f e ∙ ap (with_first b) is) ∙ are in
            let word : b ∷ v ≡ w = cc in
            (suc more.0, (let there = more.1 in omega arith), goes_on b c (take more.0 cs) f e ∙ ap (with_first b) more.2 ∙ ap (λ l. l ∷ []) word)

-- the first word alone stands before the second
first_before : (xs : List ℕ) (at place : ℕ) (w : List ℕ) (ws : List (List ℕ)) → word_from true 1 at xs ≡ Some place → words_of xs ≡ w ∷ ws
    → (k : ℕ) × (place ≡ at + k) × (words_of (take k xs) ≡ w ∷ [])
first_before [] at place w ws h are = none_some place h
first_before (b ∷ bs) at place w ws h are = by_case (is_blank b) refl (first_before bs (at + 1) place w ws)
  where
    by_case : (t : Bool) → is_blank b ≡ t
        → (word_from true 1 (at + 1) bs ≡ Some place → words_of bs ≡ w ∷ ws → (k : ℕ) × (place ≡ at + 1 + k) × (words_of (take k bs) ≡ w ∷ []))
        → (k : ℕ) × (place ≡ at + k) × (words_of (take k (b ∷ bs)) ≡ w ∷ [])
    by_case true e later =
        let passed = sym (word_from-other true 1 at b bs (ap (λ t. true && not t) e) ∙ ap (λ t. word_from t 1 (at + 1) bs) e) ∙ h in
        let more = later passed (sym (blank_prefix b bs e) ∙ are) in
        (suc more.0, (let there = more.1 in omega arith), blank_prefix b (take more.0 bs) e ∙ more.2)
    by_case false e later =
        let passed = sym (word_from-next true 1 at b bs (ap (λ t. true && not t) e) (omega arith) ∙ ap (λ t. word_from t 0 (at + 1) bs) e) ∙ h in
        let more = word_before bs (at + 1) place b w ws e passed are in
        (suc more.0, (let there = more.1 in omega arith), more.2)

-- a line whose first word names no client has no prefix
pub no_prefix : (forms : Forms) (line : List ℕ) → NoClientFirst (words_of line) → option_map (step_with []) (act_in forms line) ≡ step_in forms line
no_prefix forms line first = by_words (words_of line) refl first
  where
    by_place : (w : List ℕ) (ws : List (List ℕ)) → words_of line ≡ w ∷ ws → client_named w ≡ None → (o : Option ℕ) → place_of_word 1 line ≡ o
        → option_map (step_with []) (act_in forms line) ≡ step_in forms line
    by_place w ws are none None e = sym (ap (step_from forms line) e)
    by_place w ws are none (Some at) e =
        let before = first_before line 0 at w ws e are in
        let place : before.0 ≡ at = (let there = before.1 in omega arith) in
        let prefix : words_of (take at line) ≡ w ∷ [] = ap (λ k. words_of (take k line)) (sym place) ∙ before.2 in
        sym (ap (step_from forms line) e ∙ ap (λ l. step_after forms line at (client_of l)) prefix ∙ ap (step_after forms line at) none)

    by_words : (ws : List (List ℕ)) → words_of line ≡ ws → NoClientFirst ws → option_map (step_with []) (act_in forms line) ≡ step_in forms line
    by_words [] are none = sym (ap (step_from forms line) ((none_from line).apart 1 0 (omega (arith, ap length are))))
    by_words (w ∷ ws) are none = by_place w ws are none (place_of_word 1 line) refl
