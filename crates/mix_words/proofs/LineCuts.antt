-- The lines of a text, cut at one LF after another.
use Rattle.std.proofs.Common.{◌≡◌, ◌<◌, ◌≤◌, ◌+◌, ◌∙◌, ℕ, Bool, true, false, cond, ◌&&◌, ◌==◌, List, [], ◌∷◌, ◌++◌, refl, ap, sym, length, drop, slice_index, slice_range, append_assoc, arith, zero, suc, length-drop}
use Rattle.mix_base.proofs.Lists.{append_nil}
use Rattle.mix_words.specs.Words.{with_first}
use Rattle.mix_words.specs.Lines.{lines_of, without_cr, begins_with_lf}
use Rattle.mix_words.proofs.Pieces.{Free, cut_at}

-- whether a byte is LF
abbrev pub is_lf : ℕ → Bool
is_lf b = b == 10

-- a conjunction with false is false
and_false : (a : Bool) → (a && false) ≡ false
and_false true = refl
and_false false = refl

-- a byte, where no LF follows it, is the first byte of the first line
line_longer : (b c : ℕ) (bs : List ℕ) → is_lf b ≡ false → is_lf c ≡ false → lines_of (b ∷ c ∷ bs) ≡ with_first b (lines_of (c ∷ bs))
line_longer b c bs h k =
    ap (λ t. cond t ([] ∷ lines_of (c ∷ bs)) (cond (b == 13 && begins_with_lf (c ∷ bs)) (lines_of (c ∷ bs)) (with_first b (lines_of (c ∷ bs))))) h
    ∙ ap (λ t. cond t (lines_of (c ∷ bs)) (with_first b (lines_of (c ∷ bs)))) (ap (λ t. b == 13 && t) k ∙ and_false (b == 13))

-- a text that begins with LF has an empty first line
lf_ends : (c : ℕ) (bs : List ℕ) → is_lf c ≡ true → lines_of (c ∷ bs) ≡ [] ∷ lines_of bs
lf_ends c bs h = rw h refl

-- a byte before LF is a line, without a CR, before the lines after the LF
byte_before_lf : (b c : ℕ) (bs : List ℕ) → is_lf b ≡ false → is_lf c ≡ true → lines_of (b ∷ c ∷ bs) ≡ without_cr (b ∷ []) ∷ lines_of bs
byte_before_lf b c bs h k =
    ap (λ t. cond t ([] ∷ lines_of (c ∷ bs)) (cond (b == 13 && begins_with_lf (c ∷ bs)) (lines_of (c ∷ bs)) (with_first b (lines_of (c ∷ bs))))) h
    ∙ ap (λ t. cond (b == 13 && t) (lines_of (c ∷ bs)) (with_first b (lines_of (c ∷ bs)))) k
    ∙ ap (λ ls. cond (b == 13 && true) ls (with_first b ls)) (lf_ends c bs k)
    ∙ by_cr (b == 13)
  where
    by_cr : (t : Bool) → cond (t && true) ([] ∷ lines_of bs) (with_first b ([] ∷ lines_of bs)) ≡ cond t [] (b ∷ []) ∷ lines_of bs
    by_cr true = refl
    by_cr false = refl

-- what stands before LF is a line, without a CR at its end, before the lines after the LF
lines_at_lf : (line : List ℕ) (c : ℕ) (bs : List ℕ) → Free is_lf line → is_lf c ≡ true → lines_of (line ++ c ∷ bs) ≡ without_cr line ∷ lines_of bs
lines_at_lf [] c bs f h = lf_ends c bs h
lines_at_lf (b ∷ []) c bs f h = byte_before_lf b c bs f.0 h
lines_at_lf (b ∷ d ∷ line) c bs f h = line_longer b d (line ++ c ∷ bs) f.0 f.1.0 ∙ ap (with_first b) (lines_at_lf (d ∷ line) c bs f.1 h)

-- a byte alone that is no LF is a line
last_byte : (b : ℕ) → is_lf b ≡ false → lines_of (b ∷ []) ≡ (b ∷ []) ∷ []
last_byte b h =
    ap (λ t. cond t ([] ∷ []) (cond (b == 13 && false) [] ((b ∷ []) ∷ []))) h
    ∙ ap (λ t. cond t [] ((b ∷ []) ∷ [])) (and_false (b == 13))

-- bytes without LF, at the end of the text, are its last line
lines_at_end : (b : ℕ) (line : List ℕ) → Free is_lf (b ∷ line) → lines_of (b ∷ line) ≡ (b ∷ line) ∷ []
lines_at_end b [] f = last_byte b f.0
lines_at_end b (d ∷ line) f = line_longer b d line f.0 f.1.0 ∙ ap (with_first b) (lines_at_end d line f.1)

-- the lines so far and those of the rest are all lines, also with one line more cut at LF
pub line_cut : (text : List ℕ) (from at : ℕ) (prefix more whole : List (List ℕ)) → from ≤ at → at < length text → Free is_lf (slice_range text from at) → is_lf (slice_index text at) ≡ true
    → more ≡ prefix ++ without_cr (slice_range text from at) ∷ [] → prefix ++ lines_of (drop from text) ≡ whole → more ++ lines_of (drop (at + 1) text) ≡ whole
line_cut text from at prefix more whole h k f s m e =
    ap (λ ls. ls ++ lines_of (drop (at + 1) text)) m
    ∙ append_assoc prefix (without_cr (slice_range text from at) ∷ []) (lines_of (drop (at + 1) text))
    ∙ ap (λ ls. prefix ++ ls) (sym (ap lines_of (cut_at text from at h k) ∙ lines_at_lf (slice_range text from at) (slice_index text at) (drop (at + 1) text) f s)) ∙ e

-- a text with some bytes and no LF is one line
lines_at_any_end : (line : List ℕ) → 0 < length line → Free is_lf line → lines_of line ≡ line ∷ []
lines_at_any_end [] h f = absurd (omega arith)
lines_at_any_end (b ∷ line) h f = lines_at_end b line f

-- the lines so far are all lines with the last line that was cut
pub last_line : (text : List ℕ) (from : ℕ) (prefix more whole : List (List ℕ)) → from < length text → Free is_lf (drop from text)
    → more ≡ prefix ++ drop from text ∷ [] → prefix ++ lines_of (drop from text) ≡ whole → more ≡ whole
last_line text from prefix more whole h f m e =
    m ∙ ap (λ ls. prefix ++ ls) (sym (lines_at_any_end (drop from text) (omega (arith, length-drop from text)) f)) ∙ e

-- where no line is left, the lines so far are all lines
pub no_line_left : (text : List ℕ) (from : ℕ) (prefix whole : List (List ℕ)) → length text ≤ from → prefix ++ lines_of (drop from text) ≡ whole → prefix ≡ whole
no_line_left text from prefix whole h e = sym (append_nil prefix) ∙ ap (λ ls. prefix ++ lines_of ls) (sym (drop_all from text h)) ∙ e
  where
    drop_all : (n : ℕ) (xs : List ℕ) → length xs ≤ n → drop n xs ≡ []
    drop_all zero [] h = refl
    drop_all zero (x ∷ xs) h = absurd (omega arith)
    drop_all (suc n) [] h = refl
    drop_all (suc n) (x ∷ xs) h = drop_all n xs (omega arith)
