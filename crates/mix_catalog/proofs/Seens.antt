-- What is seen of a spelling after which no spelling goes on.
use Rattle.std.proofs.Common.{◌≡◌, ◌+◌, ◌∙◌, ℕ, Bool, true, false, not, IsTrue, List, [], ◌∷◌, ◌++◌, Option, Some, None, refl, ap, arith, length, option_and_then, inl, inr}
use Rattle.std.proofs.lemmas.Bool.Decides.{nat_tests}
use Rattle.mix_base.proofs.Choices.{and_parts, some_is, none_some}
use Rattle.std.specs.List.{list_all}
use Rattle.mix_tree.specs.Spelling.{is_bare, is_bare_label}
use Rattle.mix_tree.specs.LabelGrammar.{SpellsLabel}
use Rattle.mix_tree.specs.LabelMachine.{Spot, start, in_bare, in_quotes, in_escape, after_quote, step, run, label_in, got, seen_at, seen_at_end, or_stop, seen_from}
use Rattle.mix_tree.proofs.LabelComplete.{spelled_reads}
use Rattle.mix_tree.proofs.LabelTaken.{seen_byte}
use Rattle.mix_words.specs.Words.{is_blank, ends_word}

-- a bare character is no blank
bare_no_blank : (b : ℕ) → is_bare b ≡ true → is_blank b ≡ false
bare_no_blank b h = grind (arith, nat_tests)

-- a blank is no bare character
blank_no_bare : (b : ℕ) → is_blank b ≡ true → is_bare b ≡ false
blank_no_bare b h = grind (arith, nat_tests)

-- a spelling's first byte, which is no blank
pub record Begins (x : List ℕ) : Type 0 where
  pub byte : ℕ
  pub rest : List ℕ
  pub parts : x ≡ byte ∷ rest
  pub other : is_blank byte ≡ false

-- a bare label begins with no blank
bare_begins : (x : List ℕ) → IsTrue (is_bare_label x) → Begins x
bare_begins [] h = cc
bare_begins (b ∷ x) h = record { byte = b; rest = x; parts = refl; other = bare_no_blank b (and_parts (is_bare b) (list_all is_bare x) h).0 }

-- each spelling begins with a byte that is no blank
pub spelling_begins : (x l : List ℕ) → SpellsLabel x l → Begins x
spelling_begins x l (inl (bare, e)) = bare_begins x bare
spelling_begins x l (inr (ps, are, e, m)) = record { byte = 34; rest = _; parts = e; other = refl }

-- what is seen of a text, after a prefix that a spelling goes on with, is what is seen from there on
seen_run : (x y : List ℕ) (s t : Spot) (i : ℕ) → run s x ≡ Some t → seen_from s i (x ++ y) ≡ seen_from t (i + length x) y
seen_run [] y s t i e = let here : i ≡ i + 0 = omega arith in ap (λ u. seen_from u i y) (some_is s t e) ∙ ap (λ j. seen_from t j y) here
seen_run (b ∷ x) y s t i e = after (step s b) refl e (λ u h. seen_run x y u t (i + 1) h)
  where
    after : (o : Option Spot) → step s b ≡ o → option_and_then (λ u. run u x) o ≡ Some t → ((u : Spot) → run u x ≡ Some t → seen_from u (i + 1) (x ++ y) ≡ seen_from t (i + 1 + length x) y)
        → seen_from s i (b ∷ x ++ y) ≡ seen_from t (i + length (b ∷ x)) y
    after None f h more = none_some t h
    after (Some u) f h more = let here : i + 1 + length x ≡ i + length (b ∷ x) = omega arith in seen_byte s u i b (x ++ y) f ∙ more u h ∙ ap (λ j. seen_from t j y) here

-- no spelling goes on with these bytes where it may end
abbrev pub stops : List ℕ → Bool
stops [] = true
stops (b ∷ y) = not (is_bare b)

-- no spelling goes on with a blank or the end where it may end
pub word_end_stops : (y : List ℕ) → IsTrue (ends_word y) → IsTrue (stops y)
word_end_stops [] h = refl
word_end_stops (b ∷ y) h = rw (blank_no_bare b h) refl

-- where a spelling may end, it does not go on with a byte that is no bare character
byte_stops : (t : Spot) (b : ℕ) (l : List ℕ) → label_in t ≡ Some l → is_bare b ≡ false → step t b ≡ None
byte_stops start b l e h = none_some l e
byte_stops (in_bare k) b l e h = rw h refl
byte_stops (in_quotes k) b l e h = none_some l e
byte_stops (in_escape k) b l e h = none_some l e
byte_stops (after_quote k) b l e h = refl

-- a test whose denial holds fails
test_fails : (b : Bool) → IsTrue (not b) → b ≡ false
test_fails true h = cc h
test_fails false h = refl

-- a label ends where its spelling may end and does not go on
label_ends : (t : Spot) (i : ℕ) (y l : List ℕ) → label_in t ≡ Some l → IsTrue (stops y) → seen_from t i y ≡ got l i y
label_ends t i [] l e h = ap (seen_at_end i) e
label_ends t i (b ∷ y) l e h = ap (or_stop (λ u. seen_from u (i + 1) y) (seen_at i (b ∷ y) (label_in t))) (byte_stops t b l e (test_fails (is_bare b) h)) ∙ ap (seen_at i (b ∷ y)) e

-- a spelling is seen whole where it does not go on
pub spelling_seen : (x y l : List ℕ) (i : ℕ) → SpellsLabel x l → IsTrue (stops y) → seen_from start i (x ++ y) ≡ got l (i + length x) y
spelling_seen x y l i spelled ends =
    let read = spelled_reads x l spelled in
    seen_run x y start read.0 i read.1 ∙ label_ends read.0 (i + length x) y l read.2 ends
