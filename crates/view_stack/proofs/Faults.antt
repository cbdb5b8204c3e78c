-- How often a view failed: as often as the sources that it names.
use Rattle.std.proofs.Common.{◌≡◌, ◌≤◌, ◌<◌, ◌+◌, ℕ, zero, suc, Bool, true, false, List, [], ◌∷◌, Option, Some, length, min, ◌⊎◌, inl, inr, refl, ap, sym, subst, ◌∙◌, arith}
use Rattle.std.specs.Prelude.{cond, ◌==◌, ◌||◌}
use Rattle.std.specs.List.{AllByRecursion}
use Rattle.std.proofs.lemmas.Bool.{cases_eq}
use Rattle.plan_core.specs.Plans.{Operator}
use Rattle.plan_core.specs.Shapes.{Shape, one_source, shape_of, shape_at}
use Rattle.plan_core.specs.Valid.{HasSource, ReadsSource}
use Rattle.lazy_binding.specs.Cursors.{IsRead, source_number}
use Rattle.view_stack.specs.Stacks.{is_source, names, sum_below}

-- two sums are in order where their first members and the rest are
more_at : (b : Bool) (f g m n : ℕ) → f ≤ g → m ≤ n → cond b f 0 + m ≤ cond b g 0 + n
more_at true f g m n h l = omega (arith, h, l)
more_at false f g m n h l = omega (arith, l)

-- where no count fell, the sum of those that pass a test didn't
pub sum_more : (test : ℕ → Bool) (f g : ℕ → ℕ) → ((s : ℕ) → f s ≤ g s) → (n : ℕ) → sum_below test f n ≤ sum_below test g n
sum_more test f g h zero = omega arith
sum_more test f g h (suc n) = more_at (test n) (f n) (g n) (sum_below test f n) (sum_below test g n) (h n) (sum_more test f g h n)

-- a sum rises where its first member does, which passes the test
rises_here : (b : Bool) (f g m n top : ℕ) → b ≡ true → min (f + 1) top ≤ g → m ≤ n → min ((cond b f 0 + m) + 1) top ≤ cond b g 0 + n
rises_here true f g m n top t one rest = grind (arith, one, rest)
rises_here false f g m n top t one rest = cc

-- a sum rises where the rest of it does
rises_before : (b : Bool) (f g m n top : ℕ) → f ≤ g → min (m + 1) top ≤ n → min ((cond b f 0 + m) + 1) top ≤ cond b g 0 + n
rises_before true f g m n top one e = grind (arith, one, e)
rises_before false f g m n top one e = grind (arith, e)

module _ (test : ℕ → Bool) (f g : ℕ → ℕ) (h : (s : ℕ) → f s ≤ g s) (top s : ℕ) (named : test s ≡ true) (rose : min (f s + 1) top ≤ g s) where
  -- the sum up to a number rises where the count of that number does, or the sum before it
  rises_at : (n : ℕ) → (s < n → min (sum_below test f n + 1) top ≤ sum_below test g n) → s < suc n → (s ≡ n) ⊎ (s ≡ n → ⊥) → min (sum_below test f (suc n) + 1) top ≤ sum_below test g (suc n)
  rises_at n early l (inl e) =
      rises_here (test n) (f n) (g n) (sum_below test f n) (sum_below test g n) top (ap test (sym e) ∙ named) (subst (λ (m : ℕ). min (f m + 1) top ≤ g m) e rose) (sum_more test f g h n)
  rises_at n early l (inr ne) = rises_before (test n) (f n) (g n) (sum_below test f n) (sum_below test g n) top (h n) (early (grind (arith, l, ne)))

  -- where one count rose that passes the test, the sum did
  sum_rises : (n : ℕ) → s < n → min (sum_below test f n + 1) top ≤ sum_below test g n
  sum_rises zero l = absurd (omega (arith, l))
  sum_rises (suc n) l = rises_at n (sum_rises n) l (cases_eq s n)

  -- where one count rose that passes the test, the sum did, up to the end of the count
  pub count_rises : (n : ℕ) → s < n → min (min (sum_below test f n) top + 1) top ≤ min (sum_below test g n) top
  count_rises n l = let r = sum_rises n l in grind (arith, r)

-- A SOURCE THAT OPERATORS READ

-- the source that the operator at a number reads is named
named_at : (ops : List Operator) (n s : ℕ) → n < length ops → source_number (shape_at ops n) ≡ Some s → names ops s ≡ true
named_at [] n s l e = absurd (omega (arith, l))
named_at (o ∷ ops) zero s l e = ap (λ (r : Option ℕ). is_source s r || names ops s) e ∙ same
  where
    same : (s == s) || names ops s ≡ true
    same = grind arith
named_at (o ∷ ops) (suc n) s l e = either (is_source s (source_number (shape_of o))) (named_at ops n s (omega (arith, l)) e)
  where
    either : (b : Bool) → names ops s ≡ true → b || names ops s ≡ true
    either true h = refl
    either false h = h

-- each source that the operators read is named
pub read_named : (ops : List Operator) (s : ℕ) → IsRead ops s → names ops s ≡ true
read_named ops s r = named_at ops r.number s r.within r.is

-- a shape that reads only sources below a number reads one of them
reads_below : (count : ℕ) (f : Shape) (s : ℕ) → source_number f ≡ Some s → ReadsSource count f → s < count
reads_below count (one_source r out) s e h = (let g : r ≡ s = cc in subst (λ (n : ℕ). n < count) g h)
reads_below count f s e h = cc

-- the source that the operator at a number reads is one of those that the operators may read
below_at : (count : ℕ) (ops : List Operator) (n s : ℕ) → n < length ops → source_number (shape_at ops n) ≡ Some s → AllByRecursion (HasSource count) ops → s < count
below_at count [] n s l e h = absurd (omega (arith, l))
below_at count (o ∷ ops) zero s l e h = reads_below count (shape_of o) s e h.0
below_at count (o ∷ ops) (suc n) s l e h = below_at count ops n s (omega (arith, l)) e h.1

-- each source that the operators read is one of those that they may read
pub read_within : (count : ℕ) (ops : List Operator) (s : ℕ) → IsRead ops s → AllByRecursion (HasSource count) ops → s < count
read_within count ops s r h = below_at count ops r.number s r.within r.is h
