-- A list in which each number below n stands has at least n members.
use Rattle.std.proofs.Common.{◌≡◌, ◌<◌, ◌≤◌, ℕ, zero, suc, true, false, cond, ◌||◌, List, [], ◌∷◌, length, refl, sym, arith, inl, inr}
use Rattle.std.specs.Prelude.{◌==◌}
use Rattle.std.proofs.lemmas.Bool.{or_cases, eqb-true}
use Rattle.mix_base.specs.Ascents.{Among}
use Rattle.xmas_rule.specs.Conditions.{has}

-- the list without one number
abbrev without : ℕ → List ℕ → List ℕ
without n [] = []
without n (w ∷ ws) = cond (w == n) (without n ws) (w ∷ without n ws)

-- a list without one number is no longer
no_more : (n : ℕ) (ws : List ℕ) → length (without n ws) ≤ length ws
no_more n [] = omega arith
no_more n (w ∷ ws) =
    let h = no_more n ws in
    elim (w == n) as (λ b. length (cond b (without n ws) (w ∷ without n ws)) ≤ suc (length ws)) [ true ↦ omega (arith, h) | false ↦ omega (arith, h) ]

-- a list without one of its numbers is shorter
fewer : (n : ℕ) (ws : List ℕ) → has ws n ≡ true → length (without n ws) < length ws
fewer n [] h = (let c : false ≡ true = h in cc)
fewer n (w ∷ ws) h =
    let k = no_more n ws in
    elim (w == n) as (λ b. (b || has ws n) ≡ true → length (cond b (without n ws) (w ∷ without n ws)) < suc (length ws))
    [ true ↦ λ g. omega (arith, k) | false ↦ λ g. (let i = fewer n ws g in omega (arith, i)) ] h

-- a smaller number stands in the list still when another one is taken out
others : (n v : ℕ) (ws : List ℕ) → v < n → has ws v ≡ true → has (without n ws) v ≡ true
others n v [] l h = (let c : false ≡ true = h in cc)
others n v (w ∷ ws) l h =
    elim (w == n) as (λ b. (w == n) ≡ b → has (cond b (without n ws) (w ∷ without n ws)) v ≡ true) [
      | true ↦ λ e. elim (or_cases (w == v) (has ws v) h) [
        | inl q ↦ (let x : w ≡ v = eqb-true w v q in let y : w ≡ n = eqb-true w n e in absurd (omega (arith, x, y, l)))
        | inr q ↦ others n v ws l q
      ]
      | false ↦ λ e. elim (w == v) as (λ c. (c || has ws v) ≡ true → (c || has (without n ws) v) ≡ true) [ true ↦ λ g. refl | false ↦ λ g. others n v ws l g ] h
    ] refl

-- a list in which each number below n stands has at least n members
pub all_stand : (n : ℕ) (vs : List ℕ) → ((v : ℕ) → v < n → has vs v ≡ true) → n ≤ length vs
all_stand zero vs h = omega arith
all_stand (suc n) vs h =
    let a = fewer n vs (h n (omega arith)) in
    let b = all_stand n (without n vs) (λ v l. others n v vs l (h v (omega (arith, l)))) in omega (arith, a, b)

-- a number that is found in a list is one of its members
pub has_among : (vs : List ℕ) (v : ℕ) → has vs v ≡ true → Among v vs
has_among [] v h = (let c : false ≡ true = h in cc)
has_among (w ∷ vs) v h = elim (or_cases (w == v) (has vs v) h) [ inl q ↦ inl (sym (eqb-true w v q)) | inr q ↦ inr (has_among vs v q) ]
