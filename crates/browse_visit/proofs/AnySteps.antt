-- Any of some lists, one of them and those after it.
use Rattle.std.proofs.Common.{◌≡◌, ℕ, zero, suc, ◌+◌, ◌<◌, List, [], ◌∷◌, drop, length, get_or, refl, arith, ap, ◌∙◌}
use Rattle.browse_profile.specs.declared.profile.Profile.{Profile}
use Rattle.browse_profile.specs.Profiles.{one_of, any_of}

-- any of the lists of a member and of those after it is the member's, or any of those after it
any_at : (f : List ℕ → Profile) (xs : List (List ℕ)) (i : ℕ) (d : List ℕ) → suc i < length xs → one_of (f (get_or xs i d)) (any_of f (drop (suc i) xs)) ≡ any_of f (drop i xs)
any_at f [] i d h = absurd (omega (arith, h))
any_at f (x ∷ []) i d h = absurd (omega (arith, h))
any_at f (x ∷ y ∷ xs) zero d h = refl
any_at f (x ∷ y ∷ xs) (suc i) d h = any_at f (y ∷ xs) i d (omega (arith, h))

-- one member further to the prefix
pub any_step : (f : List ℕ → Profile) (xs : List (List ℕ)) (at i : ℕ) (x : List ℕ) → at < length xs → at ≡ i + 1 → x ≡ get_or xs i x → one_of (f x) (any_of f (drop at xs)) ≡ any_of f (drop i xs)
any_step f xs at i x h e g =
    let s : at ≡ suc i = omega (arith, e) in
    let b : suc i < length xs = omega (arith, s, h) in
    ap (λ (z : List ℕ). one_of (f z) (any_of f (drop at xs))) g ∙ ap (λ (n : ℕ). one_of (f (get_or xs i x)) (any_of f (drop n xs))) s ∙ any_at f xs i x b
