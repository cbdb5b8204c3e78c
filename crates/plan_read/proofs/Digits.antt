-- Numbers that digits mean, as far as 64 bits go.
use Rattle.std.proofs.Common.{◌≡◌, ◌<◌, ◌≤◌, ◌+◌, ◌-◌, ◌*◌, ℕ, true, false, List, [], ◌∷◌, refl, arith, nat_lt, min, length, take, get_or}
use Rattle.std.proofs.lemmas.Bool.Decides.{nat_tests}
use Rattle.std.proofs.lemmas.Int.Digits.{digits_value_more}
use Rattle.std.specs.Char.{digit_value}
use Rattle.std.specs.List.{list_all}
use Rattle.std.specs.Str.Parse.{digits_value}
use Rattle.mix_base.proofs.Choices.{and_parts}
use Rattle.mix_tree.specs.LabelOrder.{is_digit}

-- a digit's byte lies between 48 and 57
pub digit_bounds : (b : ℕ) → is_digit b ≡ true → (48 ≤ b) × (b ≤ 57)
digit_bounds b h = (grind (arith, nat_tests), grind (arith, nat_tests))

-- the value of a digit is its byte less 48
digit_value_is : (b : ℕ) → is_digit b ≡ true → digit_value b ≡ b - 48
digit_value_is b h =
    let low : nat_lt b 48 ≡ false = grind (arith, nat_tests) in
    let high : nat_lt b 58 ≡ true = grind (arith, nat_tests) in
    rw (low, high) refl

-- each of digits is one
pub digit_at : (ds : List ℕ) (i : ℕ) → i < length ds → list_all is_digit ds ≡ true → is_digit (get_or ds i 0) ≡ true
digit_at [] i h k = absurd (omega arith)
digit_at (d ∷ ds) ℕ.zero h k = (and_parts (is_digit d) (list_all is_digit ds) k).0
digit_at (d ∷ ds) (ℕ.suc i) h k = digit_at ds i (omega arith) (and_parts (is_digit d) (list_all is_digit ds) k).1

-- the value of digits with one more is ten times theirs and that one's, and the greatest of 64 bits where it is greater
pub value_more : (ds : List ℕ) (i value : ℕ) → i < length ds → list_all is_digit ds ≡ true → value ≡ min (digits_value 10 (take i ds)) 18446744073709551615
    → min (min (value * 10) 18446744073709551615 + (get_or ds i 0 - 48)) 18446744073709551615 ≡ min (digits_value 10 (take (i + 1) ds)) 18446744073709551615
value_more ds i value h k e =
    let more : digits_value 10 (take (i + 1) ds) ≡ digits_value 10 (take i ds) * 10 + digit_value (get_or ds i 0) = digits_value_more 10 ds i h in
    let digit : digit_value (get_or ds i 0) ≡ get_or ds i 0 - 48 = digit_value_is (get_or ds i 0) (digit_at ds i h k) in
    capped (digits_value 10 (take i ds)) (digits_value 10 (take (i + 1) ds)) value (digit_value (get_or ds i 0)) (get_or ds i 0 - 48) e more digit
  where
    capped : (a b v d c : ℕ) → v ≡ min a 18446744073709551615 → b ≡ a * 10 + d → d ≡ c → min (min (v * 10) 18446744073709551615 + c) 18446744073709551615 ≡ min b 18446744073709551615
    capped a b v d c e m s = omega arith
