-- The words of a line, cut at one blank after another.
use Rattle.std.proofs.Common.{◌≡◌, ◌<◌, ◌≤◌, ◌+◌, ◌∙◌, ℕ, true, false, List, [], ◌∷◌, ◌++◌, refl, ap, sym, length, drop, slice_index, slice_range, append_assoc}
use Rattle.mix_words.specs.Words.{is_blank, words_of, with_first, unless_empty}
use Rattle.mix_words.proofs.Pieces.{Free, cut_at, rest_whole}

-- a byte of a word, where another byte of a word follows it, is the first byte of the first word
word_longer : (b c : ℕ) (bs : List ℕ) → is_blank b ≡ false → is_blank c ≡ false → words_of (b ∷ c ∷ bs) ≡ with_first b (words_of (c ∷ bs))
word_longer b c bs h k = rw (h, k) refl

-- a byte before a blank is a word of its own, before the words after the blank
word_ends : (b c : ℕ) (bs : List ℕ) → is_blank b ≡ false → is_blank c ≡ true → words_of (b ∷ c ∷ bs) ≡ (b ∷ []) ∷ words_of bs
word_ends b c bs h k = rw (h, k) refl

-- a blank before a text changes none of its words
blank_passed : (c : ℕ) (bs : List ℕ) → is_blank c ≡ true → words_of (c ∷ bs) ≡ words_of bs
blank_passed c bs h = rw h refl

-- what stands before a blank is a word, unless it is empty, before the words after the blank
words_at_blank : (word : List ℕ) (c : ℕ) (bs : List ℕ) → Free is_blank word → is_blank c ≡ true → words_of (word ++ c ∷ bs) ≡ unless_empty word ++ words_of bs
words_at_blank [] c bs f h = blank_passed c bs h
words_at_blank (b ∷ []) c bs f h = word_ends b c bs f.0 h
words_at_blank (b ∷ d ∷ word) c bs f h = word_longer b d (word ++ c ∷ bs) f.0 f.1.0 ∙ ap (with_first b) (words_at_blank (d ∷ word) c bs f.1 h)

-- a byte alone that is no blank is a word
last_byte : (b : ℕ) → is_blank b ≡ false → words_of (b ∷ []) ≡ (b ∷ []) ∷ []
last_byte b h = rw h refl

-- bytes without blanks, at the end of the line, are its last word, unless there are none
pub words_at_end : (word : List ℕ) → Free is_blank word → words_of word ≡ unless_empty word
words_at_end [] f = refl
words_at_end (b ∷ []) f = last_byte b f.0
words_at_end (b ∷ d ∷ word) f = word_longer b d word f.0 f.1.0 ∙ ap (with_first b) (words_at_end (d ∷ word) f.1)

-- the words so far and those of the rest are all words, also with one word more cut at a blank
pub word_cut : (line : List ℕ) (from at : ℕ) (prefix more whole : List (List ℕ)) → from ≤ at → at < length line → Free is_blank (slice_range line from at) → is_blank (slice_index line at) ≡ true
    → more ≡ prefix ++ unless_empty (slice_range line from at) → prefix ++ words_of (drop from line) ≡ whole → more ++ words_of (drop (at + 1) line) ≡ whole
word_cut line from at prefix more whole h k f s m e =
    ap (λ ws. ws ++ words_of (drop (at + 1) line)) m
    ∙ append_assoc prefix (unless_empty (slice_range line from at)) (words_of (drop (at + 1) line))
    ∙ ap (λ ws. prefix ++ ws) (sym (ap words_of (cut_at line from at h k) ∙ words_at_blank (slice_range line from at) (slice_index line at) (drop (at + 1) line) f s)) ∙ e

-- the words so far are all words with the last word that was cut
pub last_word : (line : List ℕ) (from : ℕ) (prefix more whole : List (List ℕ)) → Free is_blank (drop from line)
    → more ≡ prefix ++ unless_empty (slice_range line from (length line)) → prefix ++ words_of (drop from line) ≡ whole → more ≡ whole
last_word line from prefix more whole f m e =
    m ∙ ap (λ ws. prefix ++ ws) (ap unless_empty (rest_whole line from) ∙ sym (words_at_end (drop from line) f)) ∙ e
