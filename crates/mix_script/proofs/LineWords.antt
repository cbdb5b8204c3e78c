-- The words of a text, one after another.
use Rattle.std.proofs.Common.{◌≡◌, ◌<◌, ◌≤◌, ◌+◌, ◌∙◌, ℕ, true, List, [], ◌∷◌, ◌++◌, refl, ap, sym, arith, length, drop, slice_index, slice_range, append-nil}
use Rattle.std.proofs.lemmas.List.{drop_more}
use Rattle.mix_base.proofs.Slices.{drop_end}
use Rattle.mix_words.specs.Words.{is_blank, words_of, unless_empty}
use Rattle.mix_words.proofs.Pieces.{Free, Free-rest, rest_whole}
use Rattle.mix_words.proofs.WordCuts.{word_cut, words_at_end}

-- a blank at the beginning of a text is in no word
pub blank_prefix : (b : ℕ) (bs : List ℕ) → is_blank b ≡ true → words_of (b ∷ bs) ≡ words_of bs
blank_prefix b bs h = rw h refl

-- the words from a blank on are those after it
pub blank_passed : (text : List ℕ) (at : ℕ) → at < length text → is_blank (slice_index text at) ≡ true → words_of (drop (at + 1) text) ≡ words_of (drop at text)
blank_passed text at inside h = sym (ap words_of (drop_more text at 0 inside) ∙ blank_prefix (slice_index text at) (drop (at + 1) text) h)

-- the words from a place on are the one that begins there and those after it
pub word_before_blank : (text : List ℕ) (from end : ℕ) → from ≤ end → Free is_blank (slice_range text from end) → end < length text → is_blank (slice_index text end) ≡ true
    → words_of (drop from text) ≡ unless_empty (slice_range text from end) ++ words_of (drop end text)
word_before_blank text from end order free inside blank =
    sym (word_cut text from end [] (unless_empty (slice_range text from end)) (words_of (drop from text)) order inside free blank refl refl)
    ∙ ap (λ ws. unless_empty (slice_range text from end) ++ ws) (blank_passed text end inside blank)

-- the word that begins at a place and ends with the text is the only one from there on
pub word_at_end : (text : List ℕ) (from end : ℕ) → from ≤ end → Free is_blank (slice_range text from end) → end ≡ length text
    → words_of (drop from text) ≡ unless_empty (slice_range text from end) ++ words_of (drop end text)
word_at_end text from end order free e =
    words_at_end (drop from text) (Free-rest is_blank text from end order (omega (arith, e)) free)
    ∙ ap unless_empty (sym (rest_whole text from) ∙ ap (slice_range text from) (sym e))
    ∙ sym (append-nil (unless_empty (slice_range text from end)))
    ∙ ap (λ ws. unless_empty (slice_range text from end) ++ ws) (sym (ap words_of (drop_end text end (omega (arith, e)))))
