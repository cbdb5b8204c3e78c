-- The lists of levels give the levels.
use Rattle.std.proofs.Common.{◌≡◌, ℕ, zero, suc, ◌-◌, true, false, cond, List, [], ◌∷◌, ◌++◌, refl, sym, ap, ◌∙◌, arith, map}
use Rattle.std.specs.Prelude.{Bool, ◌==◌, nat_le, drop, slice_index_or}
use Rattle.std.proofs.lemmas.Bool.Decides.{nat_tests}
use Rattle.browse_profile.specs.declared.profile.Profile.{Profile}
use Rattle.browse_profile.specs.Profiles.{unbounded, replaced, once}
use Rattle.browse_class.specs.Levels.{with_zero, visits_level, pairs_level}
use Rattle.plan_class.specs.LevelLists.{Levels, level_in, with_first, opens, beside, visit_levels, pair_levels}

-- levels that agree with others still do where both get the first stop of a list alone as level 0
pub levels_agree : (p q : Profile) (l : Levels) (f : ℕ → Profile) → p ≡ q → ((j : ℕ) → level_in l j ≡ f j) → (j : ℕ) → level_in (with_first p l) j ≡ with_zero q f j
levels_agree p q l f e h zero = ap once e
levels_agree p q l f e h (suc j) = after l.first ∙ h (suc j)
  where
    after : (ps : List Profile) → slice_index_or (drop 1 ps) j l.rest ≡ slice_index_or ps (suc j) l.rest
    after [] = refl
    after (x ∷ ps) = refl

-- of two levels after m of which nothing is known, level m is the first and level m + 1 the second
two_after : (m j : ℕ) (a b : Profile) → slice_index_or (opens m ++ a ∷ b ∷ []) j unbounded ≡ cond (j == suc m) b (cond (j == m) a unbounded)
two_after zero zero a b = refl
two_after zero (suc zero) a b = refl
two_after zero (suc (suc j)) a b =
    let e : (suc (suc j) == 1) ≡ false = grind (arith, nat_tests) in
    let f : (suc (suc j) == 0) ≡ false = grind (arith, nat_tests) in
    ap (λ (w : Bool). cond w a unbounded) (sym f) ∙ ap (λ (w : Bool). cond w b (cond (suc (suc j) == 0) a unbounded)) (sym e)
two_after (suc m) zero a b =
    let e : (0 == suc (suc m)) ≡ false = grind (arith, nat_tests) in
    let f : (0 == suc m) ≡ false = grind (arith, nat_tests) in
    ap (λ (w : Bool). cond w a unbounded) (sym f) ∙ ap (λ (w : Bool). cond w b (cond (0 == suc m) a unbounded)) (sym e)
two_after (suc m) (suc j) a b =
    let e : (suc j == suc (suc m)) ≡ (j == suc m) = grind (arith, nat_tests) in
    let f : (suc j == suc m) ≡ (j == m) = grind (arith, nat_tests) in
    two_after m j a b
    ∙ ap (λ (w : Bool). cond w b (cond (j == m) a unbounded)) (sym e)
    ∙ ap (λ (w : Bool). cond (suc j == suc (suc m)) b (cond w a unbounded)) (sym f)

-- a member of a changed list is the member of the list, changed
mapped_at : (f : Profile → Profile) (rest : Profile) (j : ℕ) (ps : List Profile) → slice_index_or (map f ps) j (f rest) ≡ f (slice_index_or ps j rest)
mapped_at f rest j [] = refl
mapped_at f rest zero (p ∷ ps) = refl
mapped_at f rest (suc j) (p ∷ ps) = mapped_at f rest j ps

-- changed levels after m of which nothing is known are from level m on the list's levels, changed
mapped_after : (f : Profile → Profile) (rest : Profile) (m j : ℕ) (ps : List Profile)
    → slice_index_or (opens m ++ map f ps) j (f rest) ≡ cond (nat_le m j) (f (slice_index_or ps (j - m) rest)) unbounded
mapped_after f rest zero j ps =
    let d : j - 0 ≡ j = omega arith in
    let e : nat_le 0 j ≡ true = grind (arith, nat_tests) in
    mapped_at f rest j ps
    ∙ ap (λ (n : ℕ). f (slice_index_or ps n rest)) (sym d)
    ∙ ap (λ (w : Bool). cond w (f (slice_index_or ps (j - 0) rest)) unbounded) (sym e)
mapped_after f rest (suc m) zero ps =
    let e : nat_le (suc m) 0 ≡ false = grind (arith, nat_tests) in
    ap (λ (w : Bool). cond w (f (slice_index_or ps (0 - suc m) rest)) unbounded) (sym e)
mapped_after f rest (suc m) (suc j) ps =
    let d : suc j - suc m ≡ j - m = omega arith in
    let e : nat_le (suc m) (suc j) ≡ nat_le m j = grind (arith, nat_tests) in
    mapped_after f rest m j ps
    ∙ ap (λ (w : Bool). cond w (f (slice_index_or ps (j - m) rest)) unbounded) (sym e)
    ∙ ap (λ (n : ℕ). cond (nat_le (suc m) (suc j)) (f (slice_index_or ps n rest)) unbounded) (sym d)

-- the levels of visits as a list are those that the facts say
pub visit_levels_are : (m : ℕ) (whole : Bool) (i p : Profile) (j : ℕ) → level_in (visit_levels m whole i p) j ≡ visits_level m whole (replaced i p) i p j
visit_levels_are m true i p j = two_after m j (replaced i (once p)) (replaced i p)
visit_levels_are m false i p j = refl

-- the levels of pairs as a list are those that the facts say, where the right side's are
pub pair_levels_are : (m : ℕ) (whole : Bool) (i : Profile) (l : Levels) (right : ℕ → Profile) → ((j : ℕ) → level_in l j ≡ right j) → (j : ℕ)
    → level_in (pair_levels m whole i l) j ≡ pairs_level m whole i right j
pair_levels_are m true i l right h j =
    mapped_after (beside i) l.rest m j l.first ∙ ap (λ (q : Profile). cond (nat_le m j) (beside i q) unbounded) (h (j - m))
pair_levels_are m false i l right h j = refl
