-- Numbers, digit by digit.
use Rattle.std.proofs.Common.{subst, ◌≡◌, ◌∙◌, ◌<◌, ◌+◌, ◌-◌, ◌*◌, ◌/◌, ◌%◌, ◌^◌, ℕ, zero, suc, true, cond, List, [], ◌∷◌, ◌++◌, Option, Some, None, sym, ap, arith, nat_lt}
use Rattle.std.proofs.lemmas.Bool.Decides.{nat_tests}
use Rattle.std.specs.Fmt.{decimal}
use Rattle.std.proofs.lemmas.Fmt.{decimal_digit, decimal_step}
use Rattle.mix_base.proofs.Choices.{Gives, either}
use Rattle.mix_tree.specs.LabelOrder.{is_digit}
use Rattle.node_text.specs.Node.{IsWord}
use Rattle.node_text.specs.Machine.{longer, if_small, with_digit}

-- a number so far, or nothing of it
abbrev pub number_text : Option ℕ → List ℕ
number_text None = []
number_text (Some n) = decimal n

-- a number with one digit more
pub decimal_more : (n d : ℕ) → 0 < n → d < 10 → n * 10 + d < 2 ^ 64 → decimal n ++ (48 + d) ∷ [] ≡ decimal (n * 10 + d)
decimal_more n d some low small =
    let rest : (n * 10 + d) / 10 ≡ n = omega arith in
    let last : (n * 10 + d) % 10 ≡ d = omega arith in
    sym (decimal_step (n * 10 + d) (omega arith) small ∙ ap (λ m. decimal m ++ (48 + ((n * 10 + d) % 10)) ∷ []) rest ∙ ap (λ e. decimal n ++ (48 + e) ∷ []) last)

-- a number is longer by one byte
pub record IsLonger (number : Option ℕ) (b m : ℕ) : Type 0 where
  pub small : IsWord m
  pub text : number_text number ++ b ∷ [] ≡ decimal m
  pub ascii : b < 128

-- a digit makes a number longer, and the number is written with it at the end
longer_is : (number : Option ℕ) (d : ℕ) → d < 10 → Gives (IsLonger number (48 + d)) (longer number d)
longer_is None d low = record { small = omega arith; text = sym (decimal_digit d low); ascii = omega arith }
longer_is (Some zero) d low = tt
longer_is (Some (suc n)) d low =
    either (IsLonger (Some (suc n)) (48 + d)) (nat_lt (suc n * 10 + d) (2 ^ 64)) (Some (suc n * 10 + d)) None
    (λ h. let small : suc n * 10 + d < 2 ^ 64 = grind (arith, nat_tests) in
    record { small = small; text = decimal_more (suc n) d (omega arith) low small; ascii = omega arith })
    (λ h. tt)

-- a byte makes a number longer exactly where it is a digit that fits
pub with_digit_is : (number : Option ℕ) (b : ℕ) → Gives (IsLonger number b) (with_digit number b)
with_digit_is number b =
    either (IsLonger number b) (is_digit b) (longer number (b - 48)) None
    (λ h. let low : b - 48 < 10 = grind (arith, nat_tests) in
    let same : 48 + (b - 48) ≡ b = grind (arith, nat_tests) in
    subst (λ c. Gives (IsLonger number c) (longer number (b - 48))) same (longer_is number (b - 48) low))
    (λ h. tt)

-- a digit begins a number
pub digit_first : (d : ℕ) → d < 10 → with_digit None (48 + d) ≡ Some d
digit_first d low =
    let test : is_digit (48 + d) ≡ true = grind (arith, nat_tests) in
    let same : 48 + d - 48 ≡ d = omega arith in
    ap (λ t. cond t (Some (48 + d - 48)) None) test ∙ ap (λ e. Some e) same

-- a digit goes on a number that is not 0
pub digit_more : (n d : ℕ) → 0 < n → d < 10 → IsWord (n * 10 + d) → with_digit (Some n) (48 + d) ≡ Some (n * 10 + d)
digit_more zero d some low small = absurd (omega arith)
digit_more (suc n) d some low small =
    let test : is_digit (48 + d) ≡ true = grind (arith, nat_tests) in
    let same : 48 + d - 48 ≡ d = omega arith in
    let fits : nat_lt (suc n * 10 + d) (2 ^ 64) ≡ true = grind (arith, nat_tests) in
    ap (λ t. cond t (if_small (suc n * 10 + (48 + d - 48))) None) test ∙ ap (λ e. if_small (suc n * 10 + e)) same ∙ ap (λ t. cond t (Some (suc n * 10 + d)) None) fits
