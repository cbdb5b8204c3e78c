-- A CR at the end of a line.
use Rattle.std.proofs.Common.{◌≡◌, ◌≢◌, ◌≤◌, ◌-◌, ◌∙◌, ℕ, suc, false, ◌==◌, List, [], ◌∷◌, refl, sym, ap, arith, length, take, get_or}
use Rattle.mix_words.specs.Lines.{without_cr}

-- the last byte of two bytes or more is the last of those after the first
last_after : (b c : ℕ) (xs : List ℕ) → get_or (b ∷ c ∷ xs) (length (b ∷ c ∷ xs) - 1) 0 ≡ get_or (c ∷ xs) (length (c ∷ xs) - 1) 0
last_after b c xs =
    let e : length (b ∷ c ∷ xs) - 1 ≡ suc (length (c ∷ xs) - 1) = omega arith in
    ap (λ n. get_or (b ∷ c ∷ xs) n 0) e

-- all but the last of two bytes or more are the first, and all but the last of those after it
prefix_kept : (b c : ℕ) (xs : List ℕ) → take (length (b ∷ c ∷ xs) - 1) (b ∷ c ∷ xs) ≡ b ∷ take (length (c ∷ xs) - 1) (c ∷ xs)
prefix_kept b c xs =
    let e : length (b ∷ c ∷ xs) - 1 ≡ suc (length (c ∷ xs) - 1) = omega arith in
    ap (λ n. take n (b ∷ c ∷ xs)) e

-- a last CR is dropped
pub cr_trimmed : (xs : List ℕ) → 1 ≤ length xs → get_or xs (length xs - 1) 0 ≡ 13 → take (length xs - 1) xs ≡ without_cr xs
cr_trimmed [] h e = absurd (omega arith)
cr_trimmed (b ∷ []) h e = let is : b ≡ 13 = e in rw is refl
cr_trimmed (b ∷ c ∷ xs) h e = prefix_kept b c xs ∙ ap (λ r. b ∷ r) (cr_trimmed (c ∷ xs) (omega arith) (sym (last_after b c xs) ∙ e))

-- a last byte that is no CR is kept
pub cr_kept : (xs : List ℕ) → get_or xs (length xs - 1) 0 ≢ 13 → xs ≡ without_cr xs
cr_kept [] h = refl
cr_kept (b ∷ []) h = let e : b == 13 ≡ false = grind arith in rw e refl
cr_kept (b ∷ c ∷ xs) h = ap (λ r. b ∷ r) (cr_kept (c ∷ xs) (λ e. h (last_after b c xs ∙ e)))
