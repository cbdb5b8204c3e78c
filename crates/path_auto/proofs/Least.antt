-- The least position of a set, and a step that goes over the positions of a set.
use Rattle.std.proofs.Common.{◌≡◌, ◌∙◌, inl, inr, ◌≤◌, ◌<◌, ℕ, zero, suc, ◌+◌, ◌-◌, ◌*◌, ◌/◌, ◌^◌, ◌==◌, ◌&&◌, not, Bool, true, false, cond, List, [], ◌∷◌, length, get_or, Option, refl, sym, ap, arith}
use Rattle.std.specs.Int.{bit_at}
use Rattle.std.specs.Int.RustNames.{bit_and, bit_or}
use Rattle.std.proofs.lemmas.Nat.{or_comm, pow_pos}
use Rattle.std.proofs.lemmas.Nat.Bits.{bit_at-zero, bit_at_and, bit_at_lowest, bit_at-suc, bit_at-lt, and_pow}
use Rattle.std.proofs.lemmas.Bool.{cases_eq, cases_lt}
use Rattle.std.proofs.lemmas.Bool.Decides.{Decides-eqb}
use Rattle.path_auto.specs.Positions.{passes}
use Rattle.path_auto.specs.Sets.{row_at, step_from, IsLeast, IsWithout}
use Rattle.path_auto.proofs.Unions.{or_assoc}

-- a set with a least position is not empty
some_in : (n i : ℕ) → IsLeast n i → 0 < n
some_in n i h = elim (cases_eq n 0) [
  | inl e ↦ (let none : bit_at n i ≡ 0 = ap (λ m. bit_at m i) e ∙ bit_at-zero i in absurd (omega (arith, none, h.has)))
  | inr d ↦ omega arith
]

-- half of a set whose least position is not 0 has its least position one nearer
halved : (n i : ℕ) → IsLeast n (suc i) → IsLeast (n / 2) i
halved n i h = record { has = sym (bit_at-suc n i) ∙ h.has; below = λ j l. sym (bit_at-suc n j) ∙ h.below (suc j) (omega arith) }

-- half of a set less one is half of the set, less one, where its least position is not 0
half_less : (n i : ℕ) → IsLeast n (suc i) → (n - 1) / 2 ≡ n / 2 - 1
half_less n i h = omega (arith, some_in n (suc i) h, bit_at_lowest n, h.below 0 (omega arith))

-- half of a set less one is half of the set, where its least position is 0
half_odd : (n : ℕ) → IsLeast n 0 → (n - 1) / 2 ≡ n / 2
half_odd n h = omega (arith, bit_at_lowest n, h.has)

-- a number less one has not its lowest bit
gone_less : (i n : ℕ) → IsLeast n i → bit_at (n - 1) i ≡ 0
gone_less zero n h = omega (arith, bit_at_lowest (n - 1), bit_at_lowest n, h.has)
gone_less (suc i) n h = bit_at-suc (n - 1) i ∙ ap (λ m. bit_at m i) (half_less n i h) ∙ gone_less i (n / 2) (halved n i h)

-- a number less one has the same bits above its lowest bit
kept_less : (i n j : ℕ) → IsLeast n i → i < j → bit_at (n - 1) j ≡ bit_at n j
kept_less i n zero h l = absurd (omega arith)
kept_less zero n (suc j) h l = bit_at-suc (n - 1) j ∙ ap (λ m. bit_at m j) (half_odd n h) ∙ sym (bit_at-suc n j)
kept_less (suc i) n (suc j) h l =
    bit_at-suc (n - 1) j ∙ ap (λ m. bit_at m j) (half_less n i h) ∙ kept_less i (n / 2) j (halved n i h) (omega arith) ∙ sym (bit_at-suc n j)

-- a set less its least position
pub without_is : (n i : ℕ) → IsLeast n i → IsWithout n i (bit_and n (n - 1))
without_is n i h = record {
  gone = omega (arith, bit_at_and n (n - 1) i, gone_less i n h);
  others = λ j d. elim (cases_lt j i) [
    | inl l ↦ omega (arith, bit_at_and n (n - 1) j, h.below j l)
    | inr g ↦ (let l : i < j = omega arith in omega (arith, bit_at_and n (n - 1) j, kept_less i n j h l))
  ];
}

-- a step from two sets with the same positions from a number on gives the same
step_same : (ts : List (Option (List ℕ))) (rs : List ℕ) (b n m : ℕ) (l : List ℕ) → ((j : ℕ) → b ≤ j → bit_at n j ≡ bit_at m j)
    → step_from ts rs b n l ≡ step_from ts rs b m l
step_same [] rs b n m l h = refl
step_same (t ∷ ts) [] b n m l h = refl
step_same (t ∷ ts) (r ∷ rs) b n m l h =
    ap (λ c. bit_or (cond (c == 1 && passes t l) r 0) (step_from ts rs (b + 1) n l)) (h b (omega arith))
    ∙ ap (bit_or (cond (bit_at m b == 1 && passes t l) r 0)) (step_same ts rs (b + 1) n m l (λ j g. h j (omega arith)))

-- a step from no positions gives the empty set
pub step_none : (ts : List (Option (List ℕ))) (rs : List ℕ) (b : ℕ) (l : List ℕ) → step_from ts rs b 0 l ≡ 0
step_none [] rs b l = refl
step_none (t ∷ ts) [] b l = refl
step_none (t ∷ ts) (r ∷ rs) b l =
    ap (λ c. bit_or (cond (c == 1 && passes t l) r 0) (step_from ts rs (b + 1) 0 l)) (bit_at-zero b) ∙ step_none ts rs (b + 1) l

-- a union of three sets in another order
or_swap : (a b c : ℕ) → bit_or a (bit_or b c) ≡ bit_or b (bit_or a c)
or_swap a b c = sym (or_assoc a b c) ∙ ap (λ d. bit_or d c) (or_comm a b) ∙ or_assoc b a c

-- what a step gives is what one of the positions gives, and what it gives without that
step_parts : (ts : List (Option (List ℕ))) (rs : List ℕ) (b k p n m : ℕ) (l : List ℕ) → p ≡ b + k → bit_at n p ≡ 1 → IsWithout n p m
    → step_from ts rs b n l ≡ bit_or (row_at ts rs k l) (step_from ts rs b m l)
step_parts [] rs b k p n m l e h w = refl
step_parts (t ∷ ts) [] b k p n m l e h w = refl
step_parts (t ∷ ts) (r ∷ rs) b zero p n m l e h w =
    let here : b ≡ p = omega arith in
    let has : bit_at n b ≡ 1 = ap (bit_at n) here ∙ h in
    let gone : bit_at m b ≡ 0 = ap (bit_at m) here ∙ w.gone in
    let row : ℕ = cond (passes t l) r 0 in
    let more : ℕ = step_from ts rs (b + 1) m l in
    ap (λ c. bit_or (cond (c == 1 && passes t l) r 0) (step_from ts rs (b + 1) n l)) has
    ∙ ap (bit_or row) (step_same ts rs (b + 1) n m l (λ j g. sym (w.others j (omega arith))))
    ∙ sym (ap (λ c. bit_or row (bit_or (cond (c == 1 && passes t l) r 0) more)) gone)
step_parts (t ∷ ts) (r ∷ rs) b (suc k) p n m l e h w =
    let more : ℕ = step_from ts rs (b + 1) m l in
    ap (bit_or (cond (bit_at n b == 1 && passes t l) r 0)) (step_parts ts rs (b + 1) k p n m l (omega arith) h w)
    ∙ ap (λ c. bit_or (cond (c == 1 && passes t l) r 0) (bit_or (row_at ts rs k l) more)) (sym (w.others b (omega arith)))
    ∙ or_swap (cond (bit_at m b == 1 && passes t l) r 0) (row_at ts rs k l) more

-- what has been found, with what the least position gives, and what the set without it gives, is what the set gives
pub step_on : (ts : List (Option (List ℕ))) (rs : List ℕ) (i n m found given : ℕ) (l : List ℕ) → IsLeast n i → IsWithout n i m → given ≡ row_at ts rs i l
    → bit_or (bit_or found given) (step_from ts rs 0 m l) ≡ bit_or found (step_from ts rs 0 n l)
step_on ts rs i n m found given l h w g =
    let more : ℕ = step_from ts rs 0 m l in
    or_assoc found given more
    ∙ ap (bit_or found) (ap (λ r. bit_or r more) g ∙ sym (step_parts ts rs 0 i i n m l (omega arith) h.has w))

-- what a position gives to a step is its row, where the label may stand there
pub row_here : (ts : List (Option (List ℕ))) (rs : List ℕ) (i : ℕ) (t : Option (List ℕ)) (l : List ℕ) → length rs ≡ length ts → i < length ts → t ≡ get_or ts i t
    → row_at ts rs i l ≡ cond (passes t l) (get_or rs i 0) 0
row_here [] rs i t l n h e = absurd (omega arith)
row_here (u ∷ ts) [] i t l n h e = absurd (omega arith)
row_here (u ∷ ts) (r ∷ rs) zero t l n h e = ap (λ v. cond (passes v l) r 0) (sym e)
row_here (u ∷ ts) (r ∷ rs) (suc i) t l n h e = row_here ts rs i t l (omega arith) (omega arith) e

-- after the last position no row is given
pub row_after : (ts : List (Option (List ℕ))) (rs : List ℕ) (i : ℕ) (l : List ℕ) → length ts ≤ i → row_at ts rs i l ≡ 0
row_after [] rs i l h = refl
row_after (u ∷ ts) [] i l h = refl
row_after (u ∷ ts) (r ∷ rs) zero l h = absurd (omega arith)
row_after (u ∷ ts) (r ∷ rs) (suc i) l h = row_after ts rs i l (omega arith)

-- a number above 0 is not 0
above_zero : (m : ℕ) → 0 < m → not (m == 0) ≡ true
above_zero m h = by_test (m == 0) refl
  where
    by_test : (t : Bool) → (m == 0) ≡ t → not (m == 0) ≡ true
    by_test false e = ap not e
    by_test true e = (let none : m ≡ 0 = (Decides-eqb m 0).0 e in absurd (omega arith))

-- a set has a member in common with the set of one position exactly where it has that position
pub has_position : (n i set : ℕ) → set ≡ 2 ^ i → not (bit_and n set == 0) ≡ (bit_at n i == 1)
has_position n i set is = by_bit (bit_at n i) refl
  where
    met : (b : ℕ) → bit_at n i ≡ b → bit_and n set ≡ b * 2 ^ i
    met b e = ap (bit_and n) is ∙ and_pow n i ∙ ap (λ c. c * 2 ^ i) e

    by_bit : (b : ℕ) → bit_at n i ≡ b → not (bit_and n set == 0) ≡ (bit_at n i == 1)
    by_bit zero e = (let none : bit_and n set ≡ 0 = met 0 e ∙ omega arith in ap (λ m. not (m == 0)) none ∙ sym (ap (λ b. b == 1) e))
    by_bit (suc zero) e =
        (let some : 0 < bit_and n set = omega (arith, met 1 e, pow_pos i) in above_zero (bit_and n set) some ∙ sym (ap (λ b. b == 1) e))
    by_bit (suc (suc b)) e = absurd (omega (arith, bit_at-lt n i, e))
