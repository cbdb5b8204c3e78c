-- Lines of a text that is made of lines, and words of a line that is made of words.
use Rattle.std.proofs.Common.{◌≡◌, ◌∙◌, ◌<◌, ℕ, Bool, true, false, cond, ◌&&◌, ◌==◌, not, List, [], ◌∷◌, ◌++◌, length, refl, ap, subst, append_assoc, arith}
use Rattle.std.specs.List.{list_all}
use Rattle.std.proofs.lemmas.List.Folds.{list_all-append}
use Rattle.mix_base.proofs.Choices.{and_parts, and_both, number_is}
use Rattle.mix_words.specs.Words.{is_blank, words_of, with_first}
use Rattle.mix_words.specs.Lines.{lines_of, without_cr}
use Rattle.mix_words.specs.Places.{ends_blank}
use Rattle.catalog_draft.specs.Lines.{text_of}

-- whether a byte is not LF
abbrev pub is_no_lf : ℕ → Bool
is_no_lf b = not (b == 10)

-- no byte of a text is LF
abbrev pub NoLf : List ℕ → Type 0
NoLf x = list_all is_no_lf x ≡ true

-- a text is one line: it has a byte, no byte of it is LF, and it ends in no CR
abbrev pub IsLine : List ℕ → Type 0
IsLine x = NoLf x × (0 < length x) × (without_cr x ≡ x)

-- a text with a line after it ends as the line does
ends_as : (x y : List ℕ) → 0 < length y → without_cr y ≡ y → without_cr (x ++ y) ≡ x ++ y
ends_as x [] h e = absurd (omega arith)
ends_as [] (c ∷ y) h e = e
ends_as (b ∷ []) (c ∷ y) h e = ap (λ z. b ∷ z) e
ends_as (b ∷ d ∷ x) (c ∷ y) h e = ap (λ z. b ∷ z) (ends_as (d ∷ x) (c ∷ y) h e)

-- a text with bytes after it has a byte
some_after : (x y : List ℕ) → 0 < length y → 0 < length (x ++ y)
some_after [] y h = h
some_after (b ∷ x) y h = omega arith

-- a text without LF, with a line after it, is a line
pub line_after : (x y : List ℕ) → NoLf x → IsLine y → IsLine (x ++ y)
line_after x y h k = (list_all-append is_no_lf x y ∙ and_both (list_all is_no_lf x) (list_all is_no_lf y) h k.0, some_after x y k.1, ends_as x y k.1 k.2)

-- a text without LF after another has none
pub both_no_lf : (x y : List ℕ) → NoLf x → NoLf y → NoLf (x ++ y)
both_no_lf x y h k = list_all-append is_no_lf x y ∙ and_both (list_all is_no_lf x) (list_all is_no_lf y) h k

-- where a test implies another, so it does of all members
pub implied : (p q : ℕ → Bool) → ((b : ℕ) → p b ≡ true → q b ≡ true) → (x : List ℕ) → list_all p x ≡ true → list_all q x ≡ true
implied p q f [] h = refl
implied p q f (b ∷ x) h = let parts = and_parts (p b) (list_all p x) h in and_both (q b) (list_all q x) (f b parts.0) (implied p q f x parts.1)

-- a byte of which a test holds is none of which it doesn't hold
pub other_byte : (p : ℕ → Bool) (c : ℕ) → p c ≡ false → (b : ℕ) → p b ≡ true → (b == c) ≡ false
other_byte p c none b h = by_case (b == c) refl
  where
    by_case : (t : Bool) → (b == c) ≡ t → t ≡ false
    by_case false e = refl
    by_case true e =
        let same : c ≡ b = number_is b c e in
        let f : p b ≡ false = subst (λ d. p d ≡ false) same none in
        cc

-- bytes of which a test holds that LF doesn't pass have no LF
pub no_lf_by : (p : ℕ → Bool) → p 10 ≡ false → (x : List ℕ) → list_all p x ≡ true → NoLf x
no_lf_by p none x h = implied p is_no_lf (λ b k. ap not (other_byte p 10 none b k)) x h

-- what stands before LF is a line, without a CR at its end, before the lines after the LF
line_over : (x rest : List ℕ) → NoLf x → lines_of (x ++ 10 ∷ rest) ≡ without_cr x ∷ lines_of rest
line_over [] rest h = refl
line_over (b ∷ []) rest h = by_case (b == 10) (b == 13) (and_parts (is_no_lf b) true h).0
  where
    by_case : (c r : Bool) → not c ≡ true → cond c ([] ∷ [] ∷ lines_of rest) (cond (r && true) ([] ∷ lines_of rest) (with_first b ([] ∷ lines_of rest))) ≡ cond r [] (b ∷ []) ∷ lines_of rest
    by_case true r k = cc
    by_case false true k = refl
    by_case false false k = refl
line_over (b ∷ d ∷ x) rest h =
    let parts = and_parts (is_no_lf b) (list_all is_no_lf (d ∷ x)) h in
    let next = and_parts (is_no_lf d) (list_all is_no_lf x) parts.1 in
    by_case (b == 10) (b == 13) (d == 10) (lines_of (d ∷ x ++ 10 ∷ rest)) parts.0 next.0 (line_over (d ∷ x) rest parts.1)
  where
    by_case : (c r e : Bool) (more : List (List ℕ)) → not c ≡ true → not e ≡ true → more ≡ without_cr (d ∷ x) ∷ lines_of rest
        → cond c ([] ∷ more) (cond (r && e) more (with_first b more)) ≡ (b ∷ without_cr (d ∷ x)) ∷ lines_of rest
    by_case true r e more k l m = cc
    by_case false true true more k l m = cc
    by_case false true false more k l m = ap (with_first b) m
    by_case false false e more k l m = ap (with_first b) m

-- each of some texts is a line
abbrev pub AreLines : List (List ℕ) → Type 0
AreLines [] = Unit {0}
AreLines (x ∷ xs) = IsLine x × AreLines xs

-- lines after others are lines
pub lines_after : (xs ys : List (List ℕ)) → AreLines xs → AreLines ys → AreLines (xs ++ ys)
lines_after [] ys h k = k
lines_after (x ∷ xs) ys h k = (h.0, lines_after xs ys h.1 k)

-- the lines of the text of lines are these
pub lines_again : (xs : List (List ℕ)) → AreLines xs → lines_of (text_of xs) ≡ xs
lines_again [] h = refl
lines_again (x ∷ xs) h =
    ap lines_of (append_assoc x (10 ∷ []) (text_of xs)) ∙ line_over x (text_of xs) h.0.0
    ∙ ap (λ (l : List ℕ). l ∷ lines_of (text_of xs)) h.0.2 ∙ ap (λ (ls : List (List ℕ)). x ∷ ls) (lines_again xs h.1)

-- whether a byte is no blank
abbrev pub is_inside : ℕ → Bool
is_inside b = not (is_blank b)

-- no byte of a text is a blank
abbrev pub NoBlank : List ℕ → Type 0
NoBlank x = list_all is_inside x ≡ true

-- a text without blanks after another has none
pub both_no_blank : (x y : List ℕ) → NoBlank x → NoBlank y → NoBlank (x ++ y)
both_no_blank x y h k = list_all-append is_inside x y ∙ and_both (list_all is_inside x) (list_all is_inside y) h k

-- a byte of which a test holds that no blank passes is no blank
pub inside_by : (p : ℕ → Bool) → p 32 ≡ false → p 9 ≡ false → (b : ℕ) → p b ≡ true → is_inside b ≡ true
inside_by p none tab b h = let first = other_byte p 32 none b h in let second = other_byte p 9 tab b h in rw (first, second) refl

-- a test that doesn't fail holds
not_true : (b : Bool) → not b ≡ true → b ≡ false
not_true true h = cc
not_true false h = refl

-- a word before a blank is the first word
pub word_over : (x rest : List ℕ) → NoBlank x → 0 < length x → words_of (x ++ 32 ∷ rest) ≡ x ∷ words_of rest
word_over [] rest h some = absurd (omega arith)
word_over (b ∷ []) rest h some = let k : is_blank b ≡ false = not_true (is_blank b) (and_parts (is_inside b) true h).0 in rw k refl
word_over (b ∷ c ∷ x) rest h some =
    let parts = and_parts (is_inside b) (list_all is_inside (c ∷ x)) h in
    let next = and_parts (is_inside c) (list_all is_inside x) parts.1 in
    let k : is_blank b ≡ false = not_true (is_blank b) parts.0 in
    let l : is_blank c ≡ false = not_true (is_blank c) next.0 in
    word_longer b c (x ++ 32 ∷ rest) k l ∙ ap (with_first b) (word_over (c ∷ x) rest parts.1 (omega arith))
  where
    word_longer : (b c : ℕ) (bs : List ℕ) → is_blank b ≡ false → is_blank c ≡ false → words_of (b ∷ c ∷ bs) ≡ with_first b (words_of (c ∷ bs))
    word_longer b c bs h k = rw (h, k) refl

-- a text ends in a blank as what stands at its end does
pub blank_at_end : (p : Bool) (x y : List ℕ) → ends_blank p (x ++ y) ≡ ends_blank (ends_blank p x) y
blank_at_end p [] y = refl
blank_at_end p (b ∷ x) y = blank_at_end (is_blank b) x y
