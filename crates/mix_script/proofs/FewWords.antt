-- A line of at most four words has no label after them.
use Rattle.std.proofs.Common.{◌≡◌, ◌<◌, ◌≤◌, ◌+◌, ◌-◌, ◌∙◌, ℕ, Bool, true, false, cond, ◌&&◌, not, List, [], ◌∷◌, Some, None, refl, ap, sym, arith, length}
use Rattle.mix_base.proofs.Choices.{none_some}
use Rattle.mix_words.specs.Words.{is_blank, words_of, with_first, ends_word}
use Rattle.mix_words.specs.Places.{word_from, place_of_word}
use Rattle.mix_words.proofs.WordPlaces.{word_from-other, word_from-next}
use Rattle.mix_script.specs.Forms.{act_by}
use Rattle.mix_script.specs.Lines.{act_from, act_in}
use Rattle.mix_script.specs.declared.step.Act.{Act}
use Rattle.mix_script.specs.declared.step.Forms.{Forms}
use Rattle.mix_script.specs.declared.step.Forms.TheVariants.{Plain, WithIds}

-- words of which the first gets a byte more before it are as many
length-with_first : (b : ℕ) (words : List (List ℕ)) → 0 < length words → length (with_first b words) ≡ length words
length-with_first b [] h = absurd (omega arith)
length-with_first b (w ∷ words) h = refl

-- a byte that is no blank is in a word
pub some_word : (b : ℕ) (bs : List ℕ) → is_blank b ≡ false → 0 < length (words_of (b ∷ bs))
some_word b bs h = rw h (begun (ends_word bs) (words_of bs))
  where
    begun : (t : Bool) (words : List (List ℕ)) → 0 < length (cond t ((b ∷ []) ∷ words) (with_first b words))
    begun true words = omega arith
    begun false [] = omega arith
    begun false (w ∷ words) = omega arith

-- a word ends before a blank, and goes on with another byte
pub ends_before : (b c : ℕ) (cs : List ℕ) → is_blank b ≡ false → is_blank c ≡ true → words_of (b ∷ c ∷ cs) ≡ (b ∷ []) ∷ words_of cs
ends_before b c cs h k = rw (h, k) refl

-- a byte before a byte of the first word is put before that word
pub goes_on : (b c : ℕ) (cs : List ℕ) → is_blank b ≡ false → is_blank c ≡ false → words_of (b ∷ c ∷ cs) ≡ with_first b (words_of (c ∷ cs))
goes_on b c cs h k = rw (h, k) refl

-- a text with a byte more at the beginning of its first word has as many words
words_on : (b c : ℕ) (cs : List ℕ) → is_blank b ≡ false → is_blank c ≡ false → length (words_of (b ∷ c ∷ cs)) ≡ length (words_of (c ∷ cs))
words_on b c cs h k = ap length (goes_on b c cs h k) ∙ length-with_first b (words_of (c ∷ cs)) (some_word c cs k)

-- no word begins after as many as there are: at the beginning of a text, and after a byte of a word
pub record NoneFrom (xs : List ℕ) : Type 0 where
  pub apart : (n at : ℕ) → length (words_of xs) ≤ n → word_from true n at xs ≡ None
  pub within : (n at b : ℕ) → is_blank b ≡ false → length (words_of (b ∷ xs)) ≤ n + 1 → word_from false n at xs ≡ None

-- in each text, no word begins after as many as there are
pub none_from : (xs : List ℕ) → NoneFrom xs
none_from [] = record { apart = λ n at h. refl; within = λ n at b e h. refl }
none_from (c ∷ cs) = by_case (is_blank c) refl (none_from cs)
  where
    by_case : (t : Bool) → is_blank c ≡ t → NoneFrom cs → NoneFrom (c ∷ cs)
    by_case true k more = record {
      apart = λ n at h.
          let passed : words_of (c ∷ cs) ≡ words_of cs = rw k refl in
          word_from-other true n at c cs (ap (λ t. true && not t) k) ∙ ap (λ t. word_from t n (at + 1) cs) k ∙ more.apart n (at + 1) (omega (arith, h, ap length passed));
      within = λ n at b e h.
          word_from-other false n at c cs refl ∙ ap (λ t. word_from t n (at + 1) cs) k ∙ more.apart n (at + 1) (omega (arith, h, ap length (ends_before b c cs e k)));
    }
    by_case false k more = record {
      apart = λ n at h.
          let some = some_word c cs k in
          word_from-next true n at c cs (ap (λ t. true && not t) k) (omega (arith, h, some)) ∙ ap (λ t. word_from t (n - 1) (at + 1) cs) k
          ∙ more.within (n - 1) (at + 1) c k (omega (arith, h, some));
      within = λ n at b e h.
          word_from-other false n at c cs refl ∙ ap (λ t. word_from t n (at + 1) cs) k ∙ more.within n (at + 1) c k (omega (arith, h, words_on b c cs e k));
    }

-- words that ask for something are at most four
few_act : (forms : Forms) (words : List (List ℕ)) (a : Act) → act_by forms words ≡ Some a → length words ≤ 4
few_act forms [] a e = omega arith
few_act forms (w ∷ []) a e = omega arith
few_act forms (command ∷ y ∷ []) a e = omega arith
few_act forms (x ∷ is ∷ command ∷ []) a e = omega arith
few_act forms (x ∷ is ∷ command ∷ y ∷ []) a e = omega arith
few_act Plain (x ∷ is ∷ command ∷ y ∷ w ∷ words) a e = none_some a e
few_act WithIds (x ∷ is ∷ command ∷ y ∷ w ∷ words) a e = none_some a e

-- what the words of a line ask for, of no more than four, is what the line asks for
pub few_words : (forms : Forms) (line : List ℕ) (a : Act) → act_by forms (words_of line) ≡ Some a → Some a ≡ act_in forms line
few_words forms line a e =
    let none : place_of_word 4 line ≡ None = (none_from line).apart 4 0 (few_act forms (words_of line) a e) in
    sym (ap (act_from forms line) none ∙ e)
