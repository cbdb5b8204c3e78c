-- The number that is read of a word, and the word whose decimal digits it is.
use Rattle.std.proofs.Common.{◌≡◌, ◌∙◌, ◌<◌, ◌≤◌, inl, inr, ℕ, Bool, true, false, ◌&&◌, cond, nat_lt, List, Some, None, Result, Ok, refl, sym, ap, subst, arith, length, get_or, slice_get, ◌^◌}
use Rattle.std.specs.Fmt.{decimal}
use Rattle.std.specs.Str.{bytes_eq}
use Rattle.std.specs.Result.{OkIff}
use Rattle.std.specs.Str.Parse.{AllDigits, digits_value, ParsesUnsigned}
use Rattle.std.proofs.lemmas.Bool.{cases_lt}
use Rattle.std.proofs.lemmas.Bool.Decides.{nat_tests}
use Rattle.std.proofs.lemmas.Fmt.{decimal-digits_value, decimal_digit, first_decimal, parse-decimal}
use Rattle.std.proofs.lemmas.Option.{get_or_from_slice_get}
use Rattle.std.proofs.lemmas.Slice.Eq.{bytes_eq-Decides}
use Rattle.std.proofs.lemmas.Str.Parse.{IsNumeralModel, numerals_by_value, parse_plain, tells_digits}
use Rattle.mix_base.proofs.Choices.{and_both, and_parts}
use Rattle.mix_top.specs.Commands.{people_in}

-- digits and their number, in the words of std
own : IsNumeralModel (AllDigits 10) (digits_value 10)
own = numerals_by_value (AllDigits 10) tells_digits

-- a number in the range of numbers of people tests as one
in_range : (n : ℕ) → 0 < n → n ≤ 10000 → (nat_lt 0 n && nat_lt n 10001) ≡ true
in_range n low high = and_both (nat_lt 0 n) (nat_lt n 10001) (grind (arith, nat_tests)) (grind (arith, nat_tests))

-- a test that holds of a number tells that it is in the range of numbers of people
out_range : (n : ℕ) → (nat_lt 0 n && nat_lt n 10001) ≡ true → (0 < n) × (n ≤ 10000)
out_range n h =
    let parts = and_parts (nat_lt 0 n) (nat_lt n 10001) h in
    let low : 0 < n = grind (arith, nat_tests) in
    let high : n < 10001 = grind (arith, nat_tests) in
    (low, omega (arith, high))

module _ {E : Type 0} (word : List ℕ) where
  -- a number in the range that is read of a word with no zero or sign at its beginning is the word's number of people
  pub people_read : (r : Result ℕ E) (n : ℕ) → ParsesUnsigned 32 10 word r → r ≡ Ok n → 49 ≤ get_or word 0 0 → n ≤ 10000 → Some n ≡ people_in word
  people_read r n parses e first small =
      let p = subst (λ (x : Result ℕ E). OkIff x (AllDigits 10 word × (0 < length word) × (digits_value 10 word < 2 ^ 32)) (digits_value 10 word)) e
      (parse_plain own 32 word r parses (λ q. absurd (omega (arith, first, q)))) in
      let value : n ≡ digits_value 10 word = p.1 in
      let digits : decimal (digits_value 10 word) ≡ word =
      decimal-digits_value own word p.0.0 p.0.1 (λ q. absurd (omega (arith, first, q))) (let fits = p.0.2 in omega (arith, fits)) in
      let equal : bytes_eq word (decimal (digits_value 10 word)) ≡ true = (bytes_eq-Decides word (decimal (digits_value 10 word))).1 (sym digits) in
      let some : 0 < digits_value 10 word = positive (digits_value 10 word) digits first in
      let range = in_range (digits_value 10 word) some (omega (arith, value, small)) in
      ap Some value ∙ rw (equal, range) refl
    where
      positive : (m : ℕ) → decimal m ≡ word → 49 ≤ get_or word 0 0 → 0 < m
      positive m e h =
          elim (cases_lt 0 m) as (λ _. 0 < m) [
            | inl more ↦ more
            | inr none ↦ (
                let zero : m ≡ 0 = omega (arith, none) in
                let first : get_or word 0 0 ≡ 48 = ap (λ x. get_or x 0 0) (sym e ∙ ap decimal zero ∙ decimal_digit 0 (omega arith)) in
                absurd (omega (arith, first, h))
                )
          ]

  -- where no number in the range is read of a word, the word is of no number of people
  pub people_unread : (r : Result ℕ E) → ParsesUnsigned 32 10 word r → ((n : ℕ) → r ≡ Ok n → 49 ≤ get_or word 0 0 → n ≤ 10000 → ⊥) → None ≡ people_in word
  people_unread r parses never = by_test (bytes_eq word (decimal n) && (nat_lt 0 n && nat_lt n 10001)) refl
    where
      n : ℕ
      n = digits_value 10 word

      by_test : (b : Bool) → (bytes_eq word (decimal n) && (nat_lt 0 n && nat_lt n 10001)) ≡ b → None ≡ cond b (Some n) None
      by_test false e = refl
      by_test true e =
          let parts = and_parts (bytes_eq word (decimal n)) (nat_lt 0 n && nat_lt n 10001) e in
          let range = out_range n parts.1 in
          let digits : word ≡ decimal n = (bytes_eq-Decides word (decimal n)).0 parts.0 in
          let read : r ≡ Ok n = parse-decimal 32 n word r (omega (arith, range.1)) (omega (arith, range.1)) digits parses in
          let first = first_decimal n range.0 (omega (arith, range.1)) in
          let head : get_or word 0 0 ≡ get_or (decimal n) 0 0 = ap (λ x. get_or x 0 0) digits in
          absurd (never n read (omega (arith, first, head)) range.1)

-- the first byte that is read of a word is the word's first byte
pub first_byte : (word : List ℕ) (b : ℕ) → Some b ≡ slice_get word 0 → get_or word 0 0 ≡ b
first_byte word b e = get_or_from_slice_get word 0 b 0 (sym e)
