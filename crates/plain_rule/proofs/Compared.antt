-- Each comparison of a rule's body is one of labels.
use Rattle.std.proofs.Common.{◌≡◌, ◌<◌, ℕ, zero, suc, List, [], ◌∷◌, length, get_or, sym, subst, arith}
use Rattle.xmas_rule.specs.Conditions.{comparisons, AreCompared}
use Rattle.xmas_rule.specs.declared.condition.Cond.{Cond}
use Rattle.xmas_rule.specs.declared.condition.Cond.TheVariants as cond

-- the comparison of the first condition, and those of the others
compared_parts : (n : ℕ) (x : Cond) (xs : List Cond) → AreCompared n (comparisons (x ∷ xs)) → AreCompared n (comparisons (x ∷ [])) × AreCompared n (comparisons xs)
compared_parts n (cond.FromSource s path v) xs h = (tt, h)
compared_parts n (cond.FromVar start path v) xs h = (tt, h)
compared_parts n (cond.Compare t) xs h = ((h.0, tt), h.1)

-- where the comparisons of conditions are of variables below n, so is that of each condition
pub compared_at : (n : ℕ) (conds : List Cond) (i : ℕ) (x : Cond) → i < length conds → x ≡ get_or conds i x → AreCompared n (comparisons conds) → AreCompared n (comparisons (x ∷ []))
compared_at n [] i x l e h = absurd (omega (arith, l))
compared_at n (y ∷ conds) zero x l e h = subst (λ (z : Cond). AreCompared n (comparisons (z ∷ []))) (sym e) (compared_parts n y conds h).0
compared_at n (y ∷ conds) (suc i) x l e h = compared_at n conds i x (omega (arith, l)) e (compared_parts n y conds h).1
