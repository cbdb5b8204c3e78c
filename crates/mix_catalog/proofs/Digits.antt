-- Numbers that digits mean.
use Rattle.std.proofs.Common.{◌≡◌, ◌<◌, ◌≤◌, ◌+◌, ◌-◌, ◌*◌, ◌^◌, ◌∙◌, ℕ, Bool, true, false, cond, List, [], ◌∷◌, Some, None, option_and_then, refl, ap, sym, arith, add-one, nat_lt, IsTrue}
use Rattle.std.proofs.Math.Nat.{pow-succ', pow-le-pow_right}
use Rattle.std.proofs.lemmas.Bool.Decides.{nat_tests}
use Rattle.std.specs.Char.{digit_value}
use Rattle.std.specs.List.{list_all}
use Rattle.std.specs.Str.Parse.{digits_value_after}
use Rattle.mix_base.proofs.Choices.{some_is, none_some, and_both, and_parts}
use Rattle.mix_tree.specs.LabelOrder.{is_digit}
use Rattle.mix_catalog.specs.Forms.{digit_of, number_after}

-- up to 8 digits mean a number that fits with one more
pub number_fits : (n i : ℕ) → n < 10 ^ i → i ≤ 8 → n < 100000000
number_fits n i h k = let top : 10 ^ i ≤ 10 ^ 8 = pow-le-pow_right (omega arith) k in omega (arith, top)

-- a digit means at most 9
pub digit_small : (b d : ℕ) → digit_of b ≡ Some d → d ≤ 9
digit_small b d e = by_case (is_digit b) refl e
  where
    by_case : (c : Bool) → is_digit b ≡ c → cond c (Some (b - 48)) None ≡ Some d → d ≤ 9
    by_case true h f = let same : b - 48 ≡ d = some_is (b - 48) d f in grind (arith, nat_tests)
    by_case false h f = none_some d f

-- a number below a power of ten, with one digit more, is below the next power of ten
pub number_below : (n d i : ℕ) → n < 10 ^ i → d ≤ 9 → 10 * n + d < 10 ^ (i + 1)
number_below n d i h k = let more : 10 ^ (i + 1) ≡ 10 * 10 ^ i = ap (λ j. 10 ^ j) (add-one i) ∙ pow-succ' 10 i in omega (arith, more)

-- the value of a digit is its byte less 48
digit_value_is : (b : ℕ) → is_digit b ≡ true → digit_value b ≡ b - 48
digit_value_is b h =
    let low : nat_lt b 48 ≡ false = grind (arith, nat_tests) in
    let high : nat_lt b 58 ≡ true = grind (arith, nat_tests) in
    rw (low, high) refl

-- the number that a digit writes after others
digit_after : (n b : ℕ) → is_digit b ≡ true → n * 10 + digit_value b ≡ 10 * n + (b - 48)
digit_after n b h = omega (arith, digit_value_is b h)

-- what means a number is digits that write it
pub number_after-found : (x : List ℕ) (n m : ℕ) → number_after n x ≡ Some m → IsTrue (list_all is_digit x) × (digits_value_after 10 n x ≡ m)
number_after-found [] n m e = (refl, some_is n m e)
number_after-found (b ∷ x) n m e = by_case (is_digit b) refl e (number_after-found x (10 * n + (b - 48)) m)
  where
    by_case : (t : Bool) → is_digit b ≡ t → option_and_then (λ d. number_after (10 * n + d) x) (cond t (Some (b - 48)) None) ≡ Some m
        → (number_after (10 * n + (b - 48)) x ≡ Some m → IsTrue (list_all is_digit x) × (digits_value_after 10 (10 * n + (b - 48)) x ≡ m))
        → IsTrue (list_all is_digit (b ∷ x)) × (digits_value_after 10 n (b ∷ x) ≡ m)
    by_case true h f more =
        let rest = more f in
        (and_both (is_digit b) (list_all is_digit x) h rest.0, ap (λ k. digits_value_after 10 k x) (digit_after n b h) ∙ rest.1)
    by_case false h f more = none_some m f

-- digits mean the number that they write
pub number_after-given : (x : List ℕ) (n : ℕ) → IsTrue (list_all is_digit x) → number_after n x ≡ Some (digits_value_after 10 n x)
number_after-given [] n h = refl
number_after-given (b ∷ x) n h =
    let parts = and_parts (is_digit b) (list_all is_digit x) h in
    ap (λ t. option_and_then (λ d. number_after (10 * n + d) x) (cond t (Some (b - 48)) None)) parts.0
    ∙ number_after-given x (10 * n + (b - 48)) parts.1 ∙ ap (λ k. Some (digits_value_after 10 k x)) (sym (digit_after n b parts.0))
