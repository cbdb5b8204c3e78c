-- How a source is cut, as it is found and as it is spelled.
use Rattle.std.proofs.Common.{◌≡◌, ◌≤◌, ◌∙◌, ℕ, Bool, true, false, cond, ◌&&◌, IsTrue, List, [], ◌∷◌, Option, Some, None, option_map, refl, ap, subst, arith, length, nat_le, codes}
use Rattle.std.proofs.lemmas.Bool.Decides.{nat_tests}
use Rattle.std.proofs.lemmas.Slice.Eq.{bytes_eq-Decides}
use Rattle.std.specs.Str.{bytes_eq}
use Rattle.mix_base.proofs.Choices.{and_parts, some_is, none_some}
use Rattle.mix_words.specs.Words.{words_of, ends_word}
use Rattle.mix_catalog.specs.declared.form.Cutting.{Cutting}
use Rattle.mix_catalog.specs.Forms.{number_after, number_of, chunk_form, chunk_of, chunk_after, cutting_with, cutting_form, cutting_of, is_columns_word}
use Rattle.mix_catalog.specs.Grammar.{IsNumber, cutting_words, SpellsCutting}
use Rattle.mix_catalog.proofs.Digits.{number_after-found, number_after-given}

-- bytes that the test finds equal are the same
pub same_bytes : (x y : List ℕ) → IsTrue (bytes_eq x y) → x ≡ y
same_bytes x y h = (bytes_eq-Decides x y).0 h

-- where a function is applied to an option and gives a value, the option has a value from which it comes
pub mapped_some : {X Y : Type 0} (f : X → Y) (o : Option X) (y : Y) → option_map f o ≡ Some y → (x : X) × (o ≡ Some x) × (f x ≡ y)
mapped_some f None y e = none_some y e
mapped_some f (Some x) y e = (x, refl, some_is (f x) y e)

-- what gives a number is 1 to 9 digits that write it
pub number_of-found : (digits : List ℕ) (n : ℕ) → number_of digits ≡ Some n → IsNumber digits n
number_of-found digits n e = by_case (nat_le 1 (length digits) && nat_le (length digits) 9) refl e
  where
    by_case : (t : Bool) → (nat_le 1 (length digits) && nat_le (length digits) 9) ≡ t → cond t (number_after 0 digits) None ≡ Some n → IsNumber digits n
    by_case true h f =
        let parts = and_parts (nat_le 1 (length digits)) (nat_le (length digits) 9) h in
        let some : nat_le 1 (length digits) ≡ true = parts.0 in
        let short : nat_le (length digits) 9 ≡ true = parts.1 in
        let written = number_after-found digits 0 n f in
        record { digits = written.0; some = grind (arith, nat_tests); short = grind (arith, nat_tests); means = written.1 }
    by_case false h f = none_some n f

-- 1 to 9 digits are read as the number that they write
pub number_of-given : (digits : List ℕ) (n : ℕ) → IsNumber digits n → number_of digits ≡ Some n
number_of-given digits n h =
    let some : nat_le 1 (length digits) ≡ true = (let k : 1 ≤ length digits = h.some in grind (arith, nat_tests)) in
    let short : nat_le (length digits) 9 ≡ true = (let k : length digits ≤ 9 = h.short in grind (arith, nat_tests)) in
    rw (some, short) (number_after-given digits 0 h.digits ∙ ap Some h.means)

-- two words that give a chunk are chunk and its digits
chunk_form-found : (a b : List ℕ) (n : ℕ) → chunk_form a b ≡ Some n → (a ≡ codes "chunk") × IsNumber b n
chunk_form-found a b n e = by_case (bytes_eq a (codes "chunk")) refl e
  where
    by_case : (t : Bool) → bytes_eq a (codes "chunk") ≡ t → cond t (number_of b) None ≡ Some n → (a ≡ codes "chunk") × IsNumber b n
    by_case true h f = (same_bytes a (codes "chunk") h, number_of-found b n f)
    by_case false h f = none_some n f

-- the words of a cutting: the word chunk, its digits, and deep or nothing
pub record CuttingIs (words : List (List ℕ)) (cutting : Cutting) : Type 0 where
  pub digits : List ℕ
  pub are : words ≡ cutting_words digits cutting.deep
  pub numbered : IsNumber digits cutting.chunk

-- two words that give a cutting are those of one that is not deep
two_words : (a b : List ℕ) (cutting : Cutting) → cutting_form a b false ≡ Some cutting → CuttingIs (a ∷ b ∷ []) cutting
two_words a b cutting e =
    let m = mapped_some (cutting_with false) (chunk_form a b) cutting e in
    let parts = chunk_form-found a b m.0 m.1 in
    subst (CuttingIs (a ∷ b ∷ [])) m.2 (record { digits = b; are = ap (λ w. w ∷ b ∷ []) parts.0; numbered = parts.1 })

-- two words with deep after them that give a cutting are those of a deep one
deep_words : (a b c : List ℕ) (cutting : Cutting) (t : Bool) → bytes_eq c (codes "deep") ≡ t → cond t (cutting_form a b true) None ≡ Some cutting → CuttingIs (a ∷ b ∷ c ∷ []) cutting
deep_words a b c cutting true h e =
    let m = mapped_some (cutting_with true) (chunk_form a b) cutting e in
    let parts = chunk_form-found a b m.0 m.1 in
    let are : a ∷ b ∷ c ∷ [] ≡ cutting_words b true = ap (λ w. w ∷ b ∷ c ∷ []) parts.0 ∙ ap (λ w. codes "chunk" ∷ b ∷ w ∷ []) (same_bytes c (codes "deep") h) in
    subst (CuttingIs (a ∷ b ∷ c ∷ [])) m.2 (record { digits = b; are = are; numbered = parts.1 })
deep_words a b c cutting false h e = none_some cutting e

-- what gives a cutting are the words of one
cutting_of-found : (words : List (List ℕ)) (cutting : Cutting) → cutting_of words ≡ Some cutting → CuttingIs words cutting
cutting_of-found [] cutting e = none_some cutting e
cutting_of-found (a ∷ []) cutting e = none_some cutting e
cutting_of-found (a ∷ b ∷ []) cutting e = two_words a b cutting e
cutting_of-found (a ∷ b ∷ c ∷ []) cutting e = deep_words a b c cutting (bytes_eq c (codes "deep")) refl e
cutting_of-found (a ∷ b ∷ c ∷ d ∷ words) cutting e = none_some cutting e

-- a text that gives a cutting spells it
pub cutting_found : (text : List ℕ) (cutting : Cutting) → cutting_of (words_of text) ≡ Some cutting → SpellsCutting cutting.chunk cutting.deep text
cutting_found text cutting e = let h = cutting_of-found (words_of text) cutting e in record { digits = h.digits; words = h.are; numbered = h.numbered }

-- a text that spells a cutting gives it
pub cutting_given : (text : List ℕ) (chunk : ℕ) (deep : Bool) → SpellsCutting chunk deep text → cutting_of (words_of text) ≡ Some (cutting_with deep chunk)
cutting_given text chunk true h = ap cutting_of h.words ∙ rw (number_of-given h.digits chunk h.numbered) refl
cutting_given text chunk false h = ap cutting_of h.words ∙ rw (number_of-given h.digits chunk h.numbered) refl

-- what gives a chunk are the words of one
pub chunk_of-found : (words : List (List ℕ)) (n : ℕ) → chunk_of words ≡ Some n → (digits : List ℕ) × (words ≡ cutting_words digits false) × IsNumber digits n
chunk_of-found [] n e = none_some n e
chunk_of-found (a ∷ []) n e = none_some n e
chunk_of-found (a ∷ b ∷ []) n e = let parts = chunk_form-found a b n e in (b, ap (λ w. w ∷ b ∷ []) parts.0, parts.1)
chunk_of-found (a ∷ b ∷ c ∷ words) n e = none_some n e

-- a text whose words give a chunk spells it
pub words_found : (text : List ℕ) (n : ℕ) → chunk_of (words_of text) ≡ Some n → SpellsCutting n false text
words_found text n e = let m = chunk_of-found (words_of text) n e in record { digits = m.0; words = m.1; numbered = m.2 }

-- the words of a text that spells a chunk give it
pub words_given : (text : List ℕ) (n : ℕ) → SpellsCutting n false text → chunk_of (words_of text) ≡ Some n
words_given text n h = ap chunk_of h.words ∙ number_of-given h.digits n h.numbered

-- a text that gives a chunk after columns spells it
pub chunk_found : (text : List ℕ) (n : ℕ) → chunk_after text ≡ Some n → IsTrue (ends_word text) × SpellsCutting n false text
chunk_found text n e = by_case (ends_word text) refl e
  where
    by_case : (t : Bool) → ends_word text ≡ t → cond t (chunk_of (words_of text)) None ≡ Some n → IsTrue (ends_word text) × SpellsCutting n false text
    by_case true h f = (h, words_found text n f)
    by_case false h f = none_some n f

-- a text that spells a chunk after columns gives it
pub chunk_given : (text : List ℕ) (n : ℕ) → IsTrue (ends_word text) → SpellsCutting n false text → chunk_after text ≡ Some n
chunk_given text n ends h = ap (λ t. cond t (chunk_of (words_of text)) None) ends ∙ words_given text n h

-- words that are tested to be the one word columns are it
pub columns_word : (words : List (List ℕ)) → is_columns_word words ≡ true → words ≡ codes "columns" ∷ []
columns_word [] h = cc h
columns_word (w ∷ []) h = ap (λ x. x ∷ []) (same_bytes w (codes "columns") h)
columns_word (a ∷ b ∷ words) h = cc h
