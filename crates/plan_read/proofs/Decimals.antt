-- Numbers as they are written: digits, of which the first is 0 only where it is alone.
use Rattle.std.proofs.Common.{◌≡◌, ◌<◌, ◌≤◌, ◌+◌, ◌^◌, ◌/◌, ◌%◌, ◌==◌, ◌++◌, not, ℕ, Bool, true, false, IsTrue, List, [], ◌∷◌, refl, ap, arith, nat_le}
use Rattle.std.specs.List.{list_all}
use Rattle.std.specs.Fmt.{decimal}
use Rattle.std.specs.Str.Parse.{digits_value}
use Rattle.std.proofs.lemmas.Bool.Decides.{nat_tests}
use Rattle.std.proofs.lemmas.Fmt.{decimal_by_steps, decimal_is_IsNumeral}
use Rattle.mix_base.proofs.Choices.{and_parts, and_both}
use Rattle.mix_tree.specs.LabelOrder.{is_digit}
use Rattle.plan_read.specs.Numbers.{is_decimal}

-- a text doesn't begin with 0
abbrev begins_large : List ℕ → Bool
begins_large [] = false
begins_large (b ∷ x) = not (b == 48)

-- the text is a number's, and begins with 0 only where the number is 0
abbrev IsNumber : ℕ → List ℕ → Type 0
IsNumber n x = IsTrue (is_decimal x) × (0 < n → begins_large x ≡ true)

-- the byte of a digit
digit_of : (n : ℕ) → n < 10 → is_digit (48 + n) ≡ true
digit_of n h =
    let low : nat_le 48 (48 + n) ≡ true = grind (arith, nat_tests) in
    let high : nat_le (48 + n) 57 ≡ true = grind (arith, nat_tests, h) in
    and_both (nat_le 48 (48 + n)) (nat_le (48 + n) 57) low high

-- a number below 10 is written as one digit
one_digit : (n : ℕ) → n < 10 → IsNumber n ((48 + n) ∷ [])
one_digit n h = (digit_of n h, λ more. large n more)
  where
    large : (n : ℕ) → 0 < n → not (48 + n == 48) ≡ true
    large n more = let differs : (48 + n == 48) ≡ false = grind (arith, nat_tests, more) in ap not differs

-- digits with one more are digits
digits_and : (x : List ℕ) (d : ℕ) → IsTrue (list_all is_digit x) → IsTrue (is_digit d) → IsTrue (list_all is_digit (x ++ d ∷ []))
digits_and [] d h k = and_both (is_digit d) true k refl
digits_and (b ∷ x) d h k = let parts = and_parts (is_digit b) (list_all is_digit x) h in and_both (is_digit b) (list_all is_digit (x ++ d ∷ [])) parts.0 (digits_and x d parts.1 k)

-- a number that isn't 0, written with one digit more, is written as a number
digit_more : (n m d : ℕ) (x : List ℕ) → 0 < m → IsTrue (is_digit d) → IsNumber m x → IsNumber n (x ++ d ∷ [])
digit_more n m d [] h k (is, large) = absurd (no_number is)
  where
    no_number : IsTrue false → ⊥
    no_number h = cc
digit_more n m d (b ∷ []) h k (is, large) =
    (and_both (not (b == 48)) (list_all is_digit (b ∷ d ∷ [])) (large h) (digits_and (b ∷ []) d (and_both (is_digit b) true is refl) k), λ more. large h)
digit_more n m d (b ∷ c ∷ x) h k (is, large) =
    (and_both (not (b == 48)) (list_all is_digit ((b ∷ c ∷ x) ++ d ∷ [])) (large h) (digits_and (b ∷ c ∷ x) d (and_parts (not (b == 48)) (list_all is_digit (b ∷ c ∷ x)) is).1 k), λ more. large h)

-- a written number is read as a number
pub decimal_number : (n : ℕ) → n < 2 ^ 64 → IsTrue (is_decimal (decimal n))
decimal_number n h = (decimal_by_steps IsNumber one_digit more n h).0
  where
    more : (n : ℕ) (ds : List ℕ) → 10 ≤ n → IsNumber (n / 10) ds → IsNumber n (ds ++ (48 + n % 10) ∷ [])
    more n ds big is = let part : 0 < n / 10 = omega (arith, big) in let rest : n % 10 < 10 = omega arith in digit_more n (n / 10) (48 + n % 10) ds part (digit_of (n % 10) rest) is

-- a written number has that number as its value
pub decimal_value : (n : ℕ) → n < 2 ^ 64 → digits_value 10 (decimal n) ≡ n
decimal_value n h = (decimal_is_IsNumeral n h).1
