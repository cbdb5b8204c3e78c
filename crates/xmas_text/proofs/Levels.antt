-- How many levels of elements have been read.
use Rattle.std.proofs.Common.{◌≡◌, ◌+◌, ◌∙◌, ◌||◌, ℕ, List, [], ◌∷◌, refl, ap, arith, length, nat_lt, max}
use Rattle.std.proofs.lemmas.Bool.Decides.{nat_tests}
use Rattle.xmas_text.specs.Grammar.{Group, Items, nothing, variable, literal, element}
use Rattle.xmas_text.specs.Levels.{levels}
use Rattle.xmas_text.specs.Spots.{Frame, with_group}
use Rattle.xmas_text.specs.Scans.{levels_around}

-- the greater of three levels is the same however two of them are joined first
max_inside : (l n k : ℕ) → max l (1 + max n k) ≡ max (max l (1 + n)) (1 + k)
max_inside l n k = omega arith

-- the levels around the greater of two numbers are those around the first, or the open elements and the second
pub around_more : (o : List Frame) (n k : ℕ) → levels_around o (max n k) ≡ max (levels_around o n) (length o + k)
around_more [] n k = let e : k ≡ 0 + k = omega arith in ap (max n) e
around_more (f ∷ o) n k =
    let e : length o + (1 + k) ≡ length (f ∷ o) + k = omega arith in
    ap (levels_around o) (max_inside (levels f.before) n k) ∙ around_more o (max (levels f.before) (1 + n)) (1 + k) ∙ ap (max (levels_around o (max (levels f.before) (1 + n)))) e

-- the greater of two numbers is above 20 where one of them is
pub lt_max : (a b : ℕ) → nat_lt 20 (max a b) ≡ (nat_lt 20 a || nat_lt 20 b)
lt_max a b = grind (arith, nat_tests)

-- a group label has no levels
pub with_group_levels : (xs : Items) (e : Group) → levels (with_group xs e) ≡ levels xs
with_group_levels nothing e = refl
with_group_levels (variable before g k f) e = refl
with_group_levels (literal before g ps) e = refl
with_group_levels (element before g n i h c f) e = refl
