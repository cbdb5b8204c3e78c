-- Where words begin, and how many there are before a place.
use Rattle.std.proofs.Common.{◌≡◌, ◌<◌, ◌≤◌, ◌+◌, ◌-◌, ◌∙◌, ℕ, zero, suc, Bool, true, false, cond, ◌&&◌, not, IsTrue, List, [], ◌∷◌, ◌++◌, Option, Some, refl, ap, sym, subst, arith, length, drop, take, get_or}
use Rattle.std.proofs.lemmas.List.{take_more, drop_more}
use Rattle.std.proofs.lemmas.Bool.Decides.{nat_tests}
use Rattle.std.proofs.lemmas.Str.{IsCharBoundary-start, IsCharBoundary-after_ascii}
use Rattle.std.specs.Str.{IsUtf8, IsCharBoundary}
use Rattle.mix_base.proofs.Choices.{and_parts, some_is, none_some}
use Rattle.mix_words.specs.Words.{is_blank, words_of, with_first, ends_word}
use Rattle.mix_words.specs.Places.{ends_blank, word_from, place_of_word}

-- a text with one byte more ends in a blank where that byte is one
pub ends_blank-push : (p : Bool) (xs : List ℕ) (b : ℕ) → ends_blank p (xs ++ b ∷ []) ≡ is_blank b
ends_blank-push p [] b = refl
ends_blank-push p (x ∷ xs) b = ends_blank-push (is_blank x) xs b

-- the text up to and with a byte ends in a blank where that byte is one
pub blank_before : (line : List ℕ) (i : ℕ) → i < length line → ends_blank true (take (i + 1) line) ≡ is_blank (get_or line i 0)
blank_before line i h = ap (ends_blank true) (take_more line i 0 h) ∙ ends_blank-push true (take i line) (get_or line i 0)

-- a blank is ASCII
blank_ascii : (b : ℕ) → is_blank b ≡ true → b < 128
blank_ascii b h = grind (arith, nat_tests)

-- a character begins after a blank
pub boundary_after_blank : (line : List ℕ) (at : ℕ) → IsUtf8 line → at ≤ length line → ends_blank true (take at line) ≡ true → IsCharBoundary line at
boundary_after_blank line zero utf8 inside blank = IsCharBoundary-start line utf8
boundary_after_blank line (suc i) utf8 inside blank =
    let e : i + 1 ≡ suc i = omega arith in
    let low : get_or line i 0 < 128 = blank_ascii (get_or line i 0) (sym (blank_before line i (omega arith)) ∙ ap (λ n. ends_blank true (take n line)) e ∙ blank) in
    subst (IsCharBoundary line) e (IsCharBoundary-after_ascii line i utf8 (omega arith) low)

-- how many words begin in a text; p where one may begin at its beginning
abbrev begun : Bool → List ℕ → ℕ
begun p [] = 0
begun p (b ∷ bs) = cond (p && not (is_blank b)) 1 0 + begun (is_blank b) bs

-- a word that is begun goes on to the first of the next ones
length-with_first : (b : ℕ) (words : List (List ℕ)) → 0 < length words → length (with_first b words) ≡ length words
length-with_first b [] h = absurd (omega arith)
length-with_first b (w ∷ words) h = refl

-- the words of a text are those that begin in it
pub length-words_of : (xs : List ℕ) → length (words_of xs) ≡ begun true xs
length-words_of [] = refl
length-words_of (b ∷ bs) = by_case (is_blank b) refl (length-words_of bs)
  where
    -- after a byte of a word, the words are those that begin in the rest, and that word
    inside : (bs : List ℕ) (b : ℕ) → length (words_of bs) ≡ begun true bs → length (cond (ends_word bs) ((b ∷ []) ∷ words_of bs) (with_first b (words_of bs))) ≡ 1 + begun false bs
    inside [] b h = refl
    inside (c ∷ cs) b h = at_next (is_blank c) refl
      where
        at_next : (t : Bool) → is_blank c ≡ t
            → length (cond (is_blank c) ((b ∷ []) ∷ words_of (c ∷ cs)) (with_first b (words_of (c ∷ cs)))) ≡ 1 + begun false (c ∷ cs)
        at_next true e = rw e (omega (arith, rw e at h))
        at_next false e =
            let some : length (words_of (c ∷ cs)) ≡ 1 + begun false cs = h ∙ ap (λ t. cond (true && not t) 1 0 + begun t cs) e in
            let same = length-with_first b (words_of (c ∷ cs)) (omega (arith, some)) in
            ap (λ t. length (cond t ((b ∷ []) ∷ words_of (c ∷ cs)) (with_first b (words_of (c ∷ cs))))) e ∙ same ∙ some
            ∙ sym (ap (λ t. 1 + (0 + begun t cs)) e ∙ omega arith)

    by_case : (t : Bool) → is_blank b ≡ t → length (words_of bs) ≡ begun true bs → length (words_of (b ∷ bs)) ≡ begun true (b ∷ bs)
    by_case true e h = rw e (h ∙ omega arith)
    by_case false e h =
        ap (λ t. length (cond t (words_of bs) (cond (ends_word bs) ((b ∷ []) ∷ words_of bs) (with_first b (words_of bs))))) e ∙ inside bs b h
        ∙ sym (ap (λ t. cond (true && not t) 1 0 + begun t bs) e)

-- the place after one byte more is that of the word, where it is so after that byte
place_after : (p : Bool) (n m at b place : ℕ) (xs : List ℕ) (t : Bool) → (p && not (is_blank b)) ≡ t → cond t 1 0 + m ≡ n → word_from (is_blank b) m (at + 1) xs ≡ Some place → word_from p n at (b ∷ xs) ≡ Some place
place_after p zero m at b place xs true e many h = absurd (omega arith)
place_after p (suc n) m at b place xs true e many h = let same : n ≡ m = omega arith in rw (e, same) h
place_after p zero m at b place xs false e many h = let same : zero ≡ m = omega arith in rw (e, same) h
place_after p (suc n) m at b place xs false e many h = let same : suc n ≡ m = omega arith in rw (e, same) h

-- the word after those that begin in a text begins after it, where it ends in a blank
pub word_from-found : (prefix : List ℕ) (p : Bool) (n at c : ℕ) (rest : List ℕ) → begun p prefix ≡ n → ends_blank p prefix ≡ true → is_blank c ≡ false
    → word_from p n at (prefix ++ c ∷ rest) ≡ Some (at + length prefix)
word_from-found [] p zero at c rest many blank other = rw (blank, other) (ap Some (omega arith))
word_from-found [] p (suc n) at c rest many blank other = absurd (omega (arith, many))
word_from-found (b ∷ prefix) p n at c rest many blank other =
    place_after p n (begun (is_blank b) prefix) at b (at + length (b ∷ prefix)) (prefix ++ c ∷ rest) (p && not (is_blank b)) refl many
    (word_from-found prefix (is_blank b) (begun (is_blank b) prefix) (at + 1) c rest refl blank other ∙ ap Some (omega arith))

-- the word that has n words before it begins after a prefix of n words that ends in a blank or is empty, where no blank follows
pub place_found : (prefix : List ℕ) (n c : ℕ) (rest : List ℕ) → length (words_of prefix) ≡ n → ends_blank true prefix ≡ true → is_blank c ≡ false
    → place_of_word n (prefix ++ c ∷ rest) ≡ Some (length prefix)
place_found prefix n c rest many blank other = word_from-found prefix true n 0 c rest (sym (length-words_of prefix) ∙ many) blank other ∙ ap Some (omega arith)

-- where no word begins at the first byte, the word that is looked for is looked for from the next byte on
pub word_from-other : (p : Bool) (n at b : ℕ) (bs : List ℕ) → (p && not (is_blank b)) ≡ false → word_from p n at (b ∷ bs) ≡ word_from (is_blank b) n (at + 1) bs
word_from-other p zero at b bs e = rw e refl
word_from-other p (suc n) at b bs e = rw e refl

-- where a word begins at the first byte and others are passed first, one fewer is passed from the next byte on
pub word_from-next : (p : Bool) (n at b : ℕ) (bs : List ℕ) → (p && not (is_blank b)) ≡ true → 0 < n → word_from p n at (b ∷ bs) ≡ word_from (is_blank b) (n - 1) (at + 1) bs
word_from-next p zero at b bs e h = absurd (omega arith)
word_from-next p (suc n) at b bs e h = let same : suc n - 1 ≡ n = omega arith in rw (e, same) refl

-- where a word begins at the first byte and none is passed first, it is the word that is looked for
pub word_from-here : (p : Bool) (n at b : ℕ) (bs : List ℕ) → (p && not (is_blank b)) ≡ true → n ≡ 0 → word_from p n at (b ∷ bs) ≡ Some at
word_from-here p zero at b bs e h = rw e refl
word_from-here p (suc n) at b bs e h = absurd (omega arith)

-- a search that passes the word at the first byte finds the same from the next byte on, with one word fewer to pass
pub looked_next : (line : List ℕ) (at left : ℕ) (p t : Bool) (whole : Option ℕ) → at < length line → t ≡ is_blank (get_or line at 0) → (p && not t) ≡ true → 0 < left
    → word_from p left at (drop at line) ≡ whole → word_from t (left - 1) (at + 1) (drop (at + 1) line) ≡ whole
looked_next line at left p t whole inside blank begins some h =
    ap (λ u. word_from u (left - 1) (at + 1) (drop (at + 1) line)) blank
    ∙ sym (word_from-next p left at (get_or line at 0) (drop (at + 1) line) (ap (λ u. p && not u) (sym blank) ∙ begins) some)
    ∙ sym (ap (word_from p left at) (drop_more line at 0 inside)) ∙ h

-- the search for a word finds the same from after a byte at which no word begins
pub looked_other : (line : List ℕ) (at left : ℕ) (p t : Bool) (whole : Option ℕ) → at < length line → t ≡ is_blank (get_or line at 0) → (p && not t) ≡ false
    → word_from p left at (drop at line) ≡ whole → word_from t left (at + 1) (drop (at + 1) line) ≡ whole
looked_other line at left p t whole inside blank begins h =
    ap (λ u. word_from u left (at + 1) (drop (at + 1) line)) blank
    ∙ sym (word_from-other p left at (get_or line at 0) (drop (at + 1) line) (ap (λ u. p && not u) (sym blank) ∙ begins))
    ∙ sym (ap (word_from p left at) (drop_more line at 0 inside)) ∙ h

-- a blank stands right before a word, or nothing does
apart_from : (line : List ℕ) (p : Bool) (n at place : ℕ) → word_from p n at line ≡ Some place → (k : ℕ) × (place ≡ at + k) × IsTrue (ends_blank p (take k line))
apart_from [] p n at place h = none_some place h
apart_from (b ∷ bs) p zero at place h = by_case (p && not (is_blank b)) refl h (λ e. apart_from bs (is_blank b) zero (at + 1) place e)
  where
    by_case : (t : Bool) → (p && not (is_blank b)) ≡ t → cond t (Some at) (word_from (is_blank b) zero (at + 1) bs) ≡ Some place
        → (word_from (is_blank b) zero (at + 1) bs ≡ Some place → (k : ℕ) × (place ≡ at + 1 + k) × IsTrue (ends_blank (is_blank b) (take k bs)))
        → (k : ℕ) × (place ≡ at + k) × IsTrue (ends_blank p (take k (b ∷ bs)))
    by_case true t e more = (zero, (let here = some_is at place e in omega arith), (and_parts p (not (is_blank b)) t).0)
    by_case false t e more = let next = more e in (suc next.0, (let there = next.1 in omega arith), next.2)
apart_from (b ∷ bs) p (suc n) at place h = by_case (p && not (is_blank b)) h (λ e. apart_from bs (is_blank b) n (at + 1) place e) (λ e. apart_from bs (is_blank b) (suc n) (at + 1) place e)
  where
    by_case : (t : Bool) → cond t (word_from (is_blank b) n (at + 1) bs) (word_from (is_blank b) (suc n) (at + 1) bs) ≡ Some place
        → (word_from (is_blank b) n (at + 1) bs ≡ Some place → (k : ℕ) × (place ≡ at + 1 + k) × IsTrue (ends_blank (is_blank b) (take k bs)))
        → (word_from (is_blank b) (suc n) (at + 1) bs ≡ Some place → (k : ℕ) × (place ≡ at + 1 + k) × IsTrue (ends_blank (is_blank b) (take k bs)))
        → (k : ℕ) × (place ≡ at + k) × IsTrue (ends_blank p (take k (b ∷ bs)))
    by_case true e more other = let next = more e in (suc next.0, (let there = next.1 in omega arith), next.2)
    by_case false e more other = let next = other e in (suc next.0, (let there = next.1 in omega arith), next.2)

-- a blank, or nothing, stands right before the word that is looked for
pub place_apart : (line : List ℕ) (n at : ℕ) → place_of_word n line ≡ Some at → IsTrue (ends_blank true (take at line))
place_apart line n at h =
    let found = apart_from line true n 0 at h in
    let same : found.0 ≡ at = (let e = found.1 in omega arith) in
    subst (λ k. IsTrue (ends_blank true (take k line))) same found.2
