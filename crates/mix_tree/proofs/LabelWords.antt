-- Bytes that lie in place are told apart by two numbers, and texts that do by their lengths and those bytes.
use Rattle.std.proofs.Common.{◌≡◌, ◌∙◌, inl, inr, ◌≤◌, ◌<◌, ℕ, ◌+◌, ◌-◌, ◌==◌, Bool, true, false, List, ◌++◌, length, get_or, take, drop, refl, sym, ap, subst, arith}
use Rattle.std.specs.Prelude.{replicate}
use Rattle.std.specs.Int.{w64, from_le_bytes, to_le_bytes}
use Rattle.std.specs.Str.{IsUtf8, bytes_eq}
use Rattle.std.proofs.lemmas.Bool.{cases_lt}
use Rattle.std.proofs.lemmas.Bool.Decides.{Decides-eqb}
use Rattle.std.proofs.lemmas.Nat.{le_bytes_8}
use Rattle.std.proofs.lemmas.Slice.Eq.{bytes_eq-Decides}
use Rattle.mix_tree.specs.LabelText.{IsText}
use Rattle.mix_tree.specs.declared.label_text.LabelText.TheVariants.{Short}
use Rattle.std.proofs.Math.ListN.{get_or-eq_default}
use Rattle.std.proofs.Math.Seq.{take-append_seam, drop-append_seam}
use Rattle.std.proofs.lemmas.Grind.{merely}
use Rattle.std.proofs.lemmas.List.{length-append, drop-replicate, length-take, length-drop, take-append-drop, get_or-take, get_or-drop, drop-drop}

-- each of these numbers is a byte
abbrev AreBytes : List ℕ → Type 0
AreBytes xs = (i : ℕ) → get_or xs i 0 < 256

-- the first of some bytes are bytes
take_bytes : (n : ℕ) (xs : List ℕ) → AreBytes xs → AreBytes (take n xs)
take_bytes n xs h i = elim (cases_lt i n) [
  | inl l ↦ omega (arith, get_or-take n xs i 0 l, h i)
  | inr g ↦ (let over : length (take n xs) ≤ i = omega (arith, length-take n xs) in omega (arith, get_or-eq_default (take n xs) 0 over))
]

-- the last of some bytes are bytes
drop_bytes : (n : ℕ) (xs : List ℕ) → AreBytes xs → AreBytes (drop n xs)
drop_bytes n xs h i = omega (arith, get_or-drop n xs i 0, h (n + i))

-- 8 bytes are told apart by their number
same_word : (xs ys : List ℕ) → length xs ≡ 8 → length ys ≡ 8 → AreBytes xs → AreBytes ys → from_le_bytes w64 xs ≡ from_le_bytes w64 ys → xs ≡ ys
same_word xs ys m n h k e =
    sym (le_bytes_8 xs (from_le_bytes w64 xs) m h refl) ∙ ap (to_le_bytes w64) e ∙ le_bytes_8 ys (from_le_bytes w64 ys) n k refl

-- lists are the same where their prefixes up to a place are, and what stands after them
same_parts : (n : ℕ) (xs ys : List ℕ) → take n xs ≡ take n ys → drop n xs ≡ drop n ys → xs ≡ ys
same_parts n xs ys e f = sym (take-append-drop n xs) ∙ ap (λ a. a ++ drop n xs) e ∙ ap (λ b. take n ys ++ b) f ∙ take-append-drop n ys

-- 14 bytes are told apart by the numbers of the first 8 and the last 8
from_words : (xs ys : List ℕ) → length xs ≡ 14 → length ys ≡ 14 → AreBytes xs → AreBytes ys → from_le_bytes w64 (take 8 xs) ≡ from_le_bytes w64 (take 8 ys)
    → from_le_bytes w64 (drop 6 xs) ≡ from_le_bytes w64 (drop 6 ys) → xs ≡ ys
from_words xs ys m n h k e f =
    let prefix = same_word (take 8 xs) (take 8 ys) (omega (arith, length-take 8 xs)) (omega (arith, length-take 8 ys)) (take_bytes 8 xs h) (take_bytes 8 ys k) e in
    let back = same_word (drop 6 xs) (drop 6 ys) (omega (arith, length-drop 6 xs)) (omega (arith, length-drop 6 ys)) (drop_bytes 6 xs h) (drop_bytes 6 ys k) f in
    same_parts 8 xs ys prefix (sym (drop-drop 2 6 xs) ∙ ap (drop 2) back ∙ drop-drop 2 6 ys)

-- two tests, each of which holds where the other does, are equal
same_test : (a b : Bool) → (a ≡ true → b ≡ true) → (b ≡ true → a ≡ true) → a ≡ b
same_test true b h k = sym (h refl)
same_test false true h k = k refl
same_test false false h k = refl

-- where the first numbers are the same, the last ones tell the bytes apart
pub words_are : (xs ys : List ℕ) → length xs ≡ 14 → length ys ≡ 14 → AreBytes xs → AreBytes ys → from_le_bytes w64 (take 8 xs) ≡ from_le_bytes w64 (take 8 ys)
    → from_le_bytes w64 (drop 6 xs) == from_le_bytes w64 (drop 6 ys) ≡ bytes_eq xs ys
words_are xs ys m n h k e =
    same_test (from_le_bytes w64 (drop 6 xs) == from_le_bytes w64 (drop 6 ys)) (bytes_eq xs ys)
    (λ t. (bytes_eq-Decides xs ys).1 (from_words xs ys m n h k e ((Decides-eqb (from_le_bytes w64 (drop 6 xs)) (from_le_bytes w64 (drop 6 ys))).0 t)))
    (λ t. (Decides-eqb (from_le_bytes w64 (drop 6 xs)) (from_le_bytes w64 (drop 6 ys))).1 (ap (λ l. from_le_bytes w64 (drop 6 l)) ((bytes_eq-Decides xs ys).0 t)))

-- texts of one length, with zeros after them, are the same where all bytes in place are
pub texts_are : (m n : ℕ) (xs ys : List ℕ) → drop m xs ≡ replicate (14 - m) 0 → drop n ys ≡ replicate (14 - n) 0 → m ≡ n
    → bytes_eq xs ys ≡ bytes_eq (take m xs) (take n ys)
texts_are m n xs ys u v same = same_test (bytes_eq xs ys) (bytes_eq (take m xs) (take n ys)) there back
  where
    there : bytes_eq xs ys ≡ true → bytes_eq (take m xs) (take n ys) ≡ true
    there t = (bytes_eq-Decides (take m xs) (take n ys)).1 (ap (λ i. take i xs) same ∙ ap (take n) ((bytes_eq-Decides xs ys).0 t))

    back : bytes_eq (take m xs) (take n ys) ≡ true → bytes_eq xs ys ≡ true
    back t =
        let prefix : take m xs ≡ take m ys = (bytes_eq-Decides (take m xs) (take n ys)).0 t ∙ ap (λ i. take i ys) (sym same) in
        let rest : drop m xs ≡ drop m ys = u ∙ ap (λ i. replicate (14 - i) 0) same ∙ sym v ∙ ap (λ i. drop i ys) (sym same) in
        (bytes_eq-Decides xs ys).1 (same_parts m xs ys prefix rest)

-- texts of two lengths are not the same
pub texts_differ : (m n : ℕ) (xs ys : List ℕ) → m ≤ length xs → n ≤ length ys → (m ≡ n → ⊥) → m == n ≡ bytes_eq (take m xs) (take n ys)
texts_differ m n xs ys h k d =
    same_test (m == n) (bytes_eq (take m xs) (take n ys)) (λ t. absurd (d ((Decides-eqb m n).0 t)))
    (λ t. let e = ap length ((bytes_eq-Decides (take m xs) (take n ys)).0 t) in absurd (d (omega (arith, e, length-take m xs, length-take n ys))))

-- a UTF-8 text of at most 14 bytes, with zeros after it, lies in place as a label's text
pub text_in_place : (text : List ℕ) → length text ≤ 14 → IsUtf8 text → IsText (Short (length text) (text ++ drop (length text) (replicate 14 0)))
text_in_place text h u =
    let n : ℕ = length text in
    let zeros : List ℕ = replicate 14 0 in
    let rest : length (drop n zeros) ≡ 14 - n = length-drop n zeros in (
      h,
      subst (λ t. ∥ IsUtf8 t ∥₁) (sym (take-append_seam text (drop n zeros))) (merely u),
      length-append text (drop n zeros) ∙ omega arith,
      drop-append_seam text (drop n zeros) ∙ drop-replicate n 14 0,
    )
