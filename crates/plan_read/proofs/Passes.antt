-- Texts without LF that some bytes stand in only between quotes or braces: words, which no blank parts, and lines.
use Rattle.std.proofs.Common.{◌≡◌, ◌∙◌, ◌==◌, ◌&&◌, ◌||◌, ◌++◌, not, ℕ, Bool, true, false, cond, IsTrue, List, [], ◌∷◌, Option, Some, None, refl, sym, ap, subst}
use Rattle.std.specs.List.{list_all}
use Rattle.mix_base.proofs.Choices.{none_some, some_is, and_parts, number_is}
use Rattle.mix_base.proofs.Lists.{append_nil}
use Rattle.mix_words.specs.Lines.{lines_of}
use Rattle.mix_words.specs.Words.{with_first}
use Rattle.plan_read.specs.Words.{mode_after, is_outside, cut}
use Rattle.plan_read.specs.declared.words.Mode.{Mode}
use Rattle.plan_read.specs.declared.words.Mode.TheVariants.{Plain, Braced, Quoted, Escaped}
use Rattle.plan_read.proofs.Cuts.{with_prefix, nothing_before}

-- where a text that begins in this mode ends, where none of its bytes is LF, and none that stands outside is bad
abbrev pub passes : (ℕ → Bool) → Mode → List ℕ → Option Mode
passes bad m [] = Some m
passes bad m (b ∷ x) = cond (b == 10 || (is_outside m && bad b)) None (passes bad (mode_after m b) x)

-- whether a byte is a blank or CR, at which lines and words are parted
abbrev pub parts_words : ℕ → Bool
parts_words b = b == 32 || b == 13

-- whether a byte is CR
abbrev pub is_cr : ℕ → Bool
is_cr b = b == 13

-- a text is a word, whole
abbrev pub IsWhole : List ℕ → Type 0
IsWhole x = passes parts_words Plain x ≡ Some Plain

-- one text after another
pub passes_append : (bad : ℕ → Bool) (m n : Mode) (x y : List ℕ) → passes bad m x ≡ Some n → passes bad m (x ++ y) ≡ passes bad n y
passes_append bad m n [] y h = ap (λ k. passes bad k y) (some_is m n h)
passes_append bad m n (b ∷ x) y h = by_case (b == 10 || (is_outside m && bad b)) h (passes_append bad (mode_after m b) n x y)
  where
    by_case : (c : Bool) → cond c None (passes bad (mode_after m b) x) ≡ Some n → (passes bad (mode_after m b) x ≡ Some n → passes bad (mode_after m b) (x ++ y) ≡ passes bad n y)
        → cond c None (passes bad (mode_after m b) (x ++ y)) ≡ passes bad n y
    by_case true h more = none_some n h
    by_case false h more = more h

-- one whole word after another is a whole word
pub whole_append : (x y : List ℕ) → IsWhole x → IsWhole y → IsWhole (x ++ y)
whole_append x y h k = passes_append parts_words Plain Plain x y h ∙ k

-- a word has no CR outside
pub no_cr : (m n : Mode) (x : List ℕ) → passes parts_words m x ≡ Some n → passes is_cr m x ≡ Some n
no_cr m n [] h = h
no_cr m n (b ∷ x) h = by_case (b == 10) (is_outside m) (b == 32) (b == 13) h (no_cr (mode_after m b) n x)
  where
    by_case : (c o s r : Bool) → cond (c || (o && (s || r))) None (passes parts_words (mode_after m b) x) ≡ Some n
        → (passes parts_words (mode_after m b) x ≡ Some n → passes is_cr (mode_after m b) x ≡ Some n) → cond (c || (o && r)) None (passes is_cr (mode_after m b) x) ≡ Some n
    by_case true o s r h more = none_some n h
    by_case false false s r h more = more h
    by_case false true true r h more = none_some n h
    by_case false true false true h more = none_some n h
    by_case false true false false h more = more h

-- a text that passes, before others, is cut into it before the first piece of the others
pub cut_over : (m n : Mode) (x rest : List ℕ) → passes parts_words m x ≡ Some n → cut 32 m (x ++ rest) ≡ with_prefix x (cut 32 n rest)
cut_over m n [] rest h = ap (λ k. cut 32 k rest) (some_is m n h) ∙ sym (nothing_before 32 n rest)
cut_over m n (b ∷ x) rest h = by_case (b == 10) (is_outside m) (b == 32) (b == 13) h (cut_over (mode_after m b) n x rest)
  where
    first : (pieces : List (List ℕ)) → with_first b (with_prefix x pieces) ≡ with_prefix (b ∷ x) pieces
    first [] = refl
    first (piece ∷ pieces) = refl

    by_case : (c o s r : Bool) → cond (c || (o && (s || r))) None (passes parts_words (mode_after m b) x) ≡ Some n
        → (passes parts_words (mode_after m b) x ≡ Some n → cut 32 (mode_after m b) (x ++ rest) ≡ with_prefix x (cut 32 n rest))
        → cond (o && s) ([] ∷ cut 32 Plain (x ++ rest)) (with_first b (cut 32 (mode_after m b) (x ++ rest))) ≡ with_prefix (b ∷ x) (cut 32 n rest)
    by_case true o s r h more = none_some n h
    by_case false false s r h more = ap (with_first b) (more h) ∙ first (cut 32 n rest)
    by_case false true true r h more = none_some n h
    by_case false true false true h more = none_some n h
    by_case false true false false h more = ap (with_first b) (more h) ∙ first (cut 32 n rest)

-- a word at the end is one word
pub cut_last : (x : List ℕ) → IsWhole x → cut 32 Plain x ≡ x ∷ []
cut_last x h = ap (cut 32 Plain) (sym (append_nil x)) ∙ cut_over Plain Plain x [] h ∙ ap (λ y. y ∷ []) (append_nil x)

-- a whole word and a blank before others are that word, and the words of the others
pub cut_word : (x rest : List ℕ) → IsWhole x → cut 32 Plain (x ++ 32 ∷ rest) ≡ x ∷ cut 32 Plain rest
cut_word x rest h = cut_over Plain Plain x (32 ∷ rest) h ∙ ap (λ y. y ∷ cut 32 Plain rest) (append_nil x)

-- a text of one byte that passes as a line is no CR
plain_end : (m : Mode) (b : ℕ) → passes is_cr m (b ∷ []) ≡ Some Plain → (b == 13) ≡ false
plain_end m b h = by_case (b == 13) refl
  where
    by_mode : (m : Mode) → passes is_cr m (13 ∷ []) ≡ Some Plain → false ≡ true
    by_mode Plain h = cc
    by_mode Braced h = cc
    by_mode Quoted h = cc
    by_mode Escaped h = cc

    by_case : (c : Bool) → (b == 13) ≡ c → c ≡ false
    by_case false e = refl
    by_case true e = sym (by_mode m (subst (λ (d : ℕ). passes is_cr m (d ∷ []) ≡ Some Plain) (sym (number_is b 13 e)) h))

-- a text that passes as a line, with LF after it, is the first line, before those after the LF
pub line_over : (m : Mode) (x rest : List ℕ) → passes is_cr m x ≡ Some Plain → lines_of (x ++ 10 ∷ rest) ≡ x ∷ lines_of rest
line_over m [] rest h = refl
line_over m (b ∷ []) rest h = by_case (b == 10) (b == 13) h (plain_end m b h)
  where
    by_case : (c r : Bool) → cond (c || (is_outside m && r)) None (Some (mode_after m b)) ≡ Some Plain → r ≡ false
        → cond c ([] ∷ lines_of (10 ∷ rest)) (cond (r && true) (lines_of (10 ∷ rest)) (with_first b (lines_of (10 ∷ rest)))) ≡ (b ∷ []) ∷ lines_of rest
    by_case true r h e = none_some Plain h
    by_case false true h e = cc
    by_case false false h e = refl
line_over m (b ∷ d ∷ x) rest h = by_case (b == 10) (b == 13) (d == 10) h (later (b == 10 || (is_outside m && b == 13)) h) (line_over (mode_after m b) (d ∷ x) rest)
  where
    later : (c : Bool) → cond c None (passes is_cr (mode_after m b) (d ∷ x)) ≡ Some Plain → (d == 10) ≡ false
    later true h = none_some Plain h
    later false h = by_first (d == 10) h
      where
        by_first : (c : Bool) → cond (c || (is_outside (mode_after m b) && d == 13)) None (passes is_cr (mode_after (mode_after m b) d) x) ≡ Some Plain → c ≡ false
        by_first true h = none_some Plain h
        by_first false h = refl

    by_case : (c r e : Bool) → cond (c || (is_outside m && r)) None (passes is_cr (mode_after m b) (d ∷ x)) ≡ Some Plain → e ≡ false
        → (passes is_cr (mode_after m b) (d ∷ x) ≡ Some Plain → lines_of ((d ∷ x) ++ 10 ∷ rest) ≡ (d ∷ x) ∷ lines_of rest)
        → cond c ([] ∷ lines_of ((d ∷ x) ++ 10 ∷ rest)) (cond (r && e) (lines_of ((d ∷ x) ++ 10 ∷ rest)) (with_first b (lines_of ((d ∷ x) ++ 10 ∷ rest)))) ≡ (b ∷ d ∷ x) ∷ lines_of rest
    by_case true r e h k more = none_some Plain h
    by_case false true true h k more = cc
    by_case false true false h k more = ap (with_first b) (more (by_mode (is_outside m) h))
      where
        by_mode : (o : Bool) → cond (o && true) None (passes is_cr (mode_after m b) (d ∷ x)) ≡ Some Plain → passes is_cr (mode_after m b) (d ∷ x) ≡ Some Plain
        by_mode true h = none_some Plain h
        by_mode false h = h
    by_case false false e h k more = ap (with_first b) (more (by_mode (is_outside m) h))
      where
        by_mode : (o : Bool) → cond (o && false) None (passes is_cr (mode_after m b) (d ∷ x)) ≡ Some Plain → passes is_cr (mode_after m b) (d ∷ x) ≡ Some Plain
        by_mode true h = h
        by_mode false h = h

-- a byte that parts no words, opens nothing, and can begin a word that is neither a variable nor keys
abbrev pub is_calm : ℕ → Bool
is_calm b = not (b == 10) && not (b == 13) && not (b == 32) && not (b == 34) && not (b == 123)

-- calm bytes are a word
pub calm_whole : (x : List ℕ) → IsTrue (list_all is_calm x) → IsWhole x
calm_whole [] h = refl
calm_whole (b ∷ x) h =
    let parts = and_parts (is_calm b) (list_all is_calm x) h in
    by_byte (b == 10) (b == 13) (b == 32) (b == 34) (b == 123) parts.0 (calm_whole x parts.1)
  where
    by_byte : (c r s q k : Bool) → IsTrue (not c && not r && not s && not q && not k) → IsWhole x
        → cond (c || (true && (s || r))) None (passes parts_words (cond q Quoted (cond k Braced Plain)) x) ≡ Some Plain
    by_byte false false false false false h more = more
    by_byte true r s q k h more = cc
    by_byte false true s q k h more = cc
    by_byte false false true q k h more = cc
    by_byte false false false true k h more = cc
    by_byte false false false false true h more = cc
