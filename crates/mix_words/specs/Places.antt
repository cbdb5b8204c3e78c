-- Where the words of a line begin.
use Rattle.std.specs.Prelude.{ℕ, zero, suc, ◌+◌, Bool, true, cond, ◌&&◌, not, List, [], ◌∷◌, Option, Some, None}
use Rattle.mix_words.specs.Words.{is_blank}

-- whether a blank stands last in a text, or, where the text is empty, whether p holds
abbrev pub ends_blank : Bool → List ℕ → Bool
ends_blank p [] = p
ends_blank p (b ∷ bs) = ends_blank (is_blank b) bs

-- where the word begins that has n words before it, in a text that stands at a place; p: a word may begin there
abbrev pub word_from : Bool → ℕ → ℕ → List ℕ → Option ℕ
word_from p n at [] = None
word_from p zero at (b ∷ bs) = cond (p && not (is_blank b)) (Some at) (word_from (is_blank b) zero (at + 1) bs)
word_from p (suc n) at (b ∷ bs) = cond (p && not (is_blank b)) (word_from (is_blank b) n (at + 1) bs) (word_from (is_blank b) (suc n) (at + 1) bs)

-- where the word of a line begins that has n words before it
abbrev pub place_of_word : ℕ → List ℕ → Option ℕ
place_of_word n line = word_from true n 0 line
