-- Lines that are tried have no LF, and what is told of them.
use Rattle.std.proofs.Common.{◌≡◌, ◌≢◌, ◌<◌, ◌==◌, ◌++◌, ◌∙◌, ◌≤◌, ◌-◌, ap, take, drop, length-drop, ℕ, zero, suc, Bool, true, false, not, IsTrue, List, [], ◌∷◌, Result, Ok, Err, IfOk, inl, inr, refl, sym, subst, codes, length, get_or, arith}
use Rattle.std.proofs.lemmas.Bool.Decides.{nat_tests}
use Rattle.std.specs.List.{list_all}
use Rattle.mix_base.proofs.Choices.{and_parts}
use Rattle.catalog_continuations.specs.declared.form_word.FormWord.{FormWord}
use Rattle.catalog_continuations.specs.declared.form_word.FormWord.TheVariants.{Source, Name, Bracket, Csv, Table, Remote, Json, View, File, Requests, TableName, KeyWord, Key, ColumnsWord, Columns, TableColumns, Chunk, Number, Deep, End}
use Rattle.std.proofs.Math.Seq.{take-length}
use Rattle.catalog_continuations.specs.declared.line_form.TheConstants.{FORMS}
use Rattle.catalog_continuations.specs.declared.line_form.LineForm.TheVariants as form
use Rattle.catalog_continuations.specs.declared.line_form.LineForm.TheVariants.{DeepBracket}
use Rattle.catalog_continuations.specs.GoesOn.{Fits, FitsForm, GoesOnWith, IsLine, IsOneLine, Tells, spelled, word_text}

-- a byte is tested to be no LF
tested_other : (b : ℕ) → IsTrue (not (b == 10)) → b ≢ 10
tested_other b h = grind (arith, nat_tests, h)

-- bytes that are tested to be no LF have none
tested_line : (xs : List ℕ) → IsTrue (list_all (λ b. not (b == 10)) xs) → (k : ℕ) → k < length xs → get_or xs k 0 ≢ 10
tested_line [] h k less = absurd (omega (arith, less))
tested_line (x ∷ xs) h zero less = tested_other x (and_parts (not (x == 10)) (list_all (λ b. not (b == 10)) xs) h).0
tested_line (x ∷ xs) h (suc k) less = tested_line xs (and_parts (not (x == 10)) (list_all (λ b. not (b == 10)) xs) h).1 k (omega (arith, less))

-- two texts without LF have none together
joined_line : (a b : List ℕ) → IsOneLine a → IsOneLine b → (k : ℕ) → k < length (a ++ b) → get_or (a ++ b) k 0 ≢ 10
joined_line [] b h g k less = g k less
joined_line (x ∷ a) b h g zero less = h 0 (omega arith)
joined_line (x ∷ a) b h g (suc k) less = joined_line a b (λ j l. h (suc j) (omega (arith, l))) g k (omega (arith, less))

-- the text of a word is tested to have no LF
word_tested : (w : FormWord) → list_all (λ b. not (b == 10)) (word_text w) ≡ true
word_tested Source = refl
word_tested Name = refl
word_tested Bracket = refl
word_tested Csv = refl
word_tested Table = refl
word_tested Remote = refl
word_tested Json = refl
word_tested View = refl
word_tested File = refl
word_tested Requests = refl
word_tested TableName = refl
word_tested KeyWord = refl
word_tested Key = refl
word_tested ColumnsWord = refl
word_tested Columns = refl
word_tested TableColumns = refl
word_tested Chunk = refl
word_tested Number = refl
word_tested Deep = refl
word_tested End = refl

-- words in their spellings have no LF
spelled_line : (words : List FormWord) → IsOneLine (spelled words)
spelled_line [] = λ k less. absurd (omega (arith, less))
spelled_line (w ∷ ws) = joined_line (word_text w) (spelled ws) (tested_line (word_text w) (word_tested w)) (spelled_line ws)

-- a front without LF has none with words after it, nor has what stands between them
pub with_words :
    (front between : List ℕ) (words : List FormWord) → IsOneLine front → list_all (λ b. not (b == 10)) between ≡ true → IsOneLine (front ++ (between ++ spelled words))
with_words front between words h tested = joined_line front (between ++ spelled words) h (joined_line between (spelled words) (tested_line between tested) (spelled_line words))

-- where the first of two lines is none that a catalog may have, the second tells whether a front goes on with words
pub second_tells :
    {E : Type 0} (front : List ℕ) (words : List FormWord) (plain quoted : List ℕ) (fits : Bool) (r : Result Bool E) → plain ≡ front ++ (codes " " ++ spelled words)
    → quoted ≡ front ++ (codes " \" " ++ spelled words) → fits ≡ false → Tells (IsLine plain) fits → IfOk r (Tells (IsLine quoted)) → IfOk r (Tells (GoesOnWith front words))
second_tells front words plain quoted fits (Err e) p q off told h = tt
second_tells front words plain quoted fits (Ok true) p q off told h = inr (subst IsLine q h)
second_tells front words plain quoted fits (Ok false) p q off told h = neither
  where
    neither : ¬ GoesOnWith front words
    neither (inl is) = subst (Tells (IsLine plain)) off told (subst IsLine (sym p) is)
    neither (inr is) = h (subst IsLine (sym q) is)

-- the rest of words, taken by its length, is all of it
pub rest_whole : (words : List FormWord) (k : ℕ) → take (length words - k) (drop k words) ≡ drop k words
rest_whole words k = ap (λ n. take n (drop k words)) (sym (length-drop k words)) ∙ take-length (drop k words)

-- what is told to hold of a front with the rest of words holds
pub told_to_go : (front : List ℕ) (words : List FormWord) (k : ℕ) (t : Bool) → t ≡ true → Tells (GoesOnWith front (take (length words - k) (drop k words))) t → GoesOnWith front (drop k words)
told_to_go front words k t e h =
    subst (GoesOnWith front) (rest_whole words k) (subst (Tells (GoesOnWith front (take (length words - k) (drop k words)))) e h)

-- what is told not to hold of a front with the rest of words doesn't hold
pub told_not_to_go :
    (front : List ℕ) (words : List FormWord) (k : ℕ) (t : Bool) → t ≡ false → Tells (GoesOnWith front (take (length words - k) (drop k words))) t → ¬ GoesOnWith front (drop k words)
told_not_to_go front words k t e h g =
    subst (Tells (GoesOnWith front (take (length words - k) (drop k words)))) e h (subst (GoesOnWith front) (sym (rest_whole words k)) g)

-- a front that fits none of the forms fits none
pub none_fits : (front : List ℕ) (n : ℕ) → 7 ≤ n → ((k : ℕ) → k < n → ¬ FitsForm front (get_or FORMS.now k DeepBracket)) → ¬ Fits front
none_fits front n h none (DeepBracket, f) = none 0 (omega (arith, h)) f
none_fits front n h none (form.Bracket, f) = none 1 (omega (arith, h)) f
none_fits front n h none (form.Csv, f) = none 2 (omega (arith, h)) f
none_fits front n h none (form.Table, f) = none 3 (omega (arith, h)) f
none_fits front n h none (form.Remote, f) = none 4 (omega (arith, h)) f
none_fits front n h none (form.Json, f) = none 5 (omega (arith, h)) f
none_fits front n h none (form.View, f) = none 6 (omega (arith, h)) f
