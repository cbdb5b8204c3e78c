-- The numbers that digits write.
use Rattle.std.proofs.Common.{◌≡◌, ◌∙◌, ◌<◌, ◌≤◌, ◌+◌, ◌-◌, ◌*◌, ◌^◌, ℕ, zero, suc, Bool, true, false, List, [], ◌∷◌, refl, ap, arith, length, take, get_or, ◌&&◌}
use Rattle.std.specs.Prelude.{nat_lt, nat_le}
use Rattle.std.specs.List.{list_all}
use Rattle.std.specs.Char.{digit_value}
use Rattle.std.specs.Str.Parse.{AllDigits, digits_value}
use Rattle.std.proofs.Math.Nat.{pow-le-pow_right}
use Rattle.std.proofs.lemmas.Bool.Decides.{nat_tests}
use Rattle.std.proofs.lemmas.Int.Digits.{digits_value-lt, digits_value_more}
use Rattle.std.proofs.lemmas.Str.Parse.{digits_value-take-le}
use Rattle.mix_tree.specs.LabelOrder.{is_digit, are_digits}

-- where a conjunction holds, both of its tests hold
and_parts : (a b : Bool) → (a && b) ≡ true → (a ≡ true) × (b ≡ true)
and_parts true true h = (refl, refl)
and_parts true false h = cc
and_parts false b h = cc

-- the value of a digit is its byte less 48
digit_is : (b : ℕ) → is_digit b ≡ true → digit_value b ≡ b - 48
digit_is b h =
    let low : nat_lt b 48 ≡ false = grind (arith, nat_tests) in
    let high : nat_lt b 58 ≡ true = grind (arith, nat_tests) in
    rw (low, high) refl

-- the value of a digit is below 10
digit_small : (b : ℕ) → is_digit b ≡ true → digit_value b < 10
digit_small b h = let small : b - 48 < 10 = grind (arith, nat_tests) in rw (digit_is b h) small

-- digits are digits in the radix ten
all_digits : (x : List ℕ) → list_all is_digit x ≡ true → AllDigits 10 x
all_digits [] h = tt
all_digits (b ∷ x) h = let p = and_parts (is_digit b) (list_all is_digit x) h in (digit_small b p.0, all_digits x p.1)

-- each byte of digits is a digit
digit_at : (x : List ℕ) (i : ℕ) → list_all is_digit x ≡ true → i < length x → is_digit (get_or x i 0) ≡ true
digit_at [] i h k = absurd (omega arith)
digit_at (b ∷ x) zero h k = (and_parts (is_digit b) (list_all is_digit x) h).0
digit_at (b ∷ x) (suc i) h k = digit_at x i (and_parts (is_digit b) (list_all is_digit x) h).1 (omega arith)

-- 1 to 18 digits are at most 18, and each of them is a digit
parts : (x : List ℕ) → are_digits x ≡ true → (length x ≤ 18) × (list_all is_digit x ≡ true)
parts x h =
    let p = and_parts (nat_lt 0 (length x) && nat_le (length x) 18) (list_all is_digit x) h in
    let q = and_parts (nat_lt 0 (length x)) (nat_le (length x) 18) p.0 in
    (grind (arith, nat_tests), p.1)

-- the number of digits with one more is ten times theirs and that one's value
pub digits_more : (x : List ℕ) (i : ℕ) → are_digits x ≡ true → i < length x → digits_value 10 (take (i + 1) x) ≡ digits_value 10 (take i x) * 10 + (get_or x i 0 - 48)
digits_more x i h k =
    let d = digit_is (get_or x i 0) (digit_at x i (parts x h).1 k) in
    digits_value_more 10 x i k ∙ ap (λ n. digits_value 10 (take i x) * 10 + n) d

-- 18 digits write a number below 10^18
pub digits_below : (x : List ℕ) → are_digits x ≡ true → digits_value 10 x < 10 ^ 18
digits_below x h =
    let p = parts x h in
    let a = digits_value-lt 10 x (all_digits x p.1) in
    let ten : 0 < 10 = omega arith in
    let b : 10 ^ length x ≤ 10 ^ 18 = pow-le-pow_right ten p.0 in
    omega (arith, a, b)

-- the first of 18 digits write a number below 10^18
pub prefix_below : (x : List ℕ) (i : ℕ) → are_digits x ≡ true → digits_value 10 (take i x) < 10 ^ 18
prefix_below x i h = let a = digits_below x h in let b = digits_value-take-le 10 x i (omega arith) in omega (arith, a, b)
