-- The numbers with which levels begin.
use Rattle.std.proofs.Common.{◌≡◌, ◌∙◌, ℕ, zero, suc, ◌<◌, ◌≤◌, ◌+◌, ◌-◌, List, [], ◌∷◌, ◌++◌, Option, Some, None, refl, sym, ap, subst, arith, length, length-append, append_assoc}
use Rattle.std.specs.Prelude.{slice_get, get_or}
use Rattle.std.proofs.lemmas.List.{length-map}
use Rattle.std.specs.declared.alloc.Global.{Global}
use Rattle.std.specs.declared.rc.Rc.{Rc}
use Rattle.mix_base.proofs.Choices.{some_is, none_some}
use Rattle.node_text.specs.Node.{LevelValue}
use Rattle.plan_evidence.specs.Remains.{numbers_in, levels_through}
use Rattle.plan_levels.specs.Entered.{numbers_of}
use Rattle.lazy_binding.specs.declared.position.Position.{Position}
use Rattle.lazy_plan.specs.Bench.{BenchState}
use Rattle.lazy_site.specs.Standing.{remains}
use Rattle.lazy_site.specs.declared.sites.Rest.{Rest, Pieces'}
use Rattle.lazy_site.specs.declared.ways.Ways.{Ways}
use Rattle.lazy_walk.specs.Leading.{BeginWith, BeginsThrough, numbers_with}

-- the number at an index is that of the level there
pub number_there : (ls : List LevelValue) (i : ℕ) (d : LevelValue) → i < length ls → Some (get_or ls i d).piece ≡ slice_get (numbers_of ls) i
number_there [] i d h = absurd (omega (arith, h))
number_there (l ∷ ls) zero d h = refl
number_there (l ∷ ls) (suc i) d h = number_there ls i d (omega (arith, h))

-- past the last level there is no number
pub number_past : (ls : List LevelValue) (i : ℕ) → length ls ≤ i → None ≡ slice_get (numbers_of ls) i
number_past [] i h = refl
number_past (l ∷ ls) zero h = absurd (omega (arith, h))
number_past (l ∷ ls) (suc i) h = number_past ls i (omega (arith, h))

-- what stands behind some numbers comes first behind them
get_behind : (ns rest : List ℕ) → slice_get (ns ++ rest) (length ns) ≡ slice_get rest 0
get_behind [] rest = refl
get_behind (n ∷ ns) rest = get_behind ns rest

-- numbers that begin with others and one more have that one behind them
more_get : (all ns rest : List ℕ) (n : ℕ) → all ≡ (ns ++ n ∷ []) ++ rest → slice_get all (length ns) ≡ Some n
more_get all ns rest n e = ap (λ (xs : List ℕ). slice_get xs (length ns)) (e ∙ append_assoc ns (n ∷ []) rest) ∙ get_behind ns (n ∷ rest)

module _ (ls : List LevelValue) (ns : List ℕ) where
  -- where no further number is, levels begin with no more
  pub none_more : (n : ℕ) → slice_get (numbers_of ls) (length ns) ≡ None → BeginWith (ns ++ n ∷ []) ls → ⊥
  none_more n e b = none_some n (sym e ∙ more_get (numbers_of ls) ns b.0 n b.1)

  -- where the further number is another one, levels don't begin with this
  pub other_more : (n m : ℕ) → slice_get (numbers_of ls) (length ns) ≡ Some m → (m ≡ n → ⊥) → BeginWith (ns ++ n ∷ []) ls → ⊥
  other_more n m e f b = f (some_is m n (sym e ∙ more_get (numbers_of ls) ns b.0 n b.1))

  -- where the further number is one, levels begin with that too
  pub one_more : (n : ℕ) → slice_get (numbers_of ls) (length ns) ≡ Some n → BeginWith ns ls → BeginWith (ns ++ n ∷ []) ls
  one_more n e b = by_rest b.0 b.1
    where
      by_rest : (rest : List ℕ) → numbers_of ls ≡ ns ++ rest → BeginWith (ns ++ n ∷ []) ls
      by_rest [] z = none_some n (sym (get_behind ns []) ∙ ap (λ (xs : List ℕ). slice_get xs (length ns)) (sym z) ∙ e)
      by_rest (m ∷ rest) z =
          let same : m ≡ n = some_is m n (sym (get_behind ns (m ∷ rest)) ∙ ap (λ (xs : List ℕ). slice_get xs (length ns)) (sym z) ∙ e) in
          (rest, z ∙ ap (λ (k : ℕ). ns ++ k ∷ rest) same ∙ sym (append_assoc ns (n ∷ []) rest))

  -- levels that begin with numbers and more begin with these
  pub begin_front : (next : ℕ) → BeginWith (numbers_with ns next) ls → BeginWith ns ls
  begin_front zero b = b
  begin_front (suc n) b = (n ∷ b.0, b.1 ∙ append_assoc ns (n ∷ []) b.0)

  -- what the code answers where a further number is there
  pub with_none : (next through : ℕ) (r : Option ℕ) → (next ≡ 0 → ⊥) → through ≡ length ns → r ≡ slice_get (numbers_of ls) through → r ≡ None → BeginWith (numbers_with ns next) ls → ⊥
  with_none zero through r z t e is b = z refl
  with_none (suc n) through r z t e is b = none_more n (ap (slice_get (numbers_of ls)) (sym t) ∙ sym e ∙ is) b

  pub with_other : (next through number : ℕ) (r : Option ℕ) → (next ≡ 0 → ⊥) → through ≡ length ns → r ≡ slice_get (numbers_of ls) through → r ≡ Some number → (number ≡ next - 1 → ⊥) → BeginWith (numbers_with ns next) ls → ⊥
  with_other zero through number r z t e is f b = z refl
  with_other (suc n) through number r z t e is f b = other_more n number (ap (slice_get (numbers_of ls)) (sym t) ∙ sym e ∙ is) (λ g. f (g ∙ omega arith)) b

  pub with_one : (next through number : ℕ) (r : Option ℕ) → (next ≡ 0 → ⊥) → through ≡ length ns → r ≡ slice_get (numbers_of ls) through → r ≡ Some number → number ≡ next - 1 → BeginWith ns ls
      → (through + 1 ≡ length (numbers_with ns next)) × BeginWith (numbers_with ns next) ls
  with_one zero through number r z t e is f b = absurd (z refl)
  with_one (suc n) through number r z t e is f b =
      let k : number ≡ n = f ∙ omega arith in
      (simp length-append (omega (arith, t)), one_more n (ap (slice_get (numbers_of ls)) (sym t) ∙ sym e ∙ is ∙ ap Some k) b)

  pub with_zero : (next through : ℕ) → next ≡ 0 → through ≡ length ns → BeginWith ns ls → (through ≡ length (numbers_with ns next)) × BeginWith (numbers_with ns next) ls
  with_zero zero through z t b = (t, b)
  with_zero (suc n) through z t b = absurd (omega (arith, z))

-- the numbers of what is left among pieces are those around them, and that of the last piece that was passed
pub numbers_next : (st : BenchState) {r up : Rest} {op next : ℕ} {at : Position} {ways : Ways} {q : Rc (Unit {0}) Global} → r ≡ Pieces' op at next ways q up → numbers_in (remains st r) ≡ numbers_with (numbers_in (remains st up)) next
numbers_next st {up = up} {op = op} {next = next} {at = at} {ways = ways} {q = q} e = ap (λ (x : Rest). numbers_in (remains st x)) e ∙ by_next next
  where
    by_next : (n : ℕ) → numbers_in (remains st (Pieces' op at n ways q up)) ≡ numbers_with (numbers_in (remains st up)) n
    by_next zero = refl
    by_next (suc n) = refl

-- the numbers of levels through pieces are those of the pieces, where there are some
own_through : (ns : List ℕ) → 0 < length ns → numbers_of (levels_through [] ns) ≡ ns
own_through [] h = absurd (omega (arith, h))
own_through (n ∷ []) h = refl
own_through (n ∷ m ∷ ns) h = ap (λ (ks : List ℕ). n ∷ ks) (own_through (m ∷ ns) (omega arith))

module _ (ls : List LevelValue) where
  -- levels that go through other pieces have other numbers
  pub own_none : (ns : List ℕ) → (BeginWith ns ls → ⊥) → BeginWith (numbers_of (levels_through [] ns)) ls → ⊥
  own_none [] f b = f (numbers_of ls, refl)
  own_none (n ∷ ns) f b = f (subst (λ (ks : List ℕ). BeginWith ks ls) (own_through (n ∷ ns) (omega arith)) b)

  -- where levels go through no pieces, their number is 0
  pub own_zero : (ns : List ℕ) → 0 ≡ length ns → (r : Option ℕ) → BeginsThrough (0 ∷ []) ls r → BeginsThrough (numbers_of (levels_through [] ns)) ls r
  own_zero [] e r b = b
  own_zero (n ∷ ns) e r b = absurd (omega (arith, e))

  -- where they go through some, their numbers are those
  pub own_some : (ns : List ℕ) (count : ℕ) → (count ≡ 0 → ⊥) → BeginsThrough ns ls (Some count) → BeginsThrough (numbers_of (levels_through [] ns)) ls (Some count)
  own_some [] count f b = absurd (f b.0)
  own_some (n ∷ ns) count f b = subst (λ (ks : List ℕ). BeginsThrough ks ls (Some count)) (sym (own_through (n ∷ ns) (omega arith))) b

-- a node has numbers
pub own_some_numbers : (ns : List ℕ) → 0 < length (numbers_of (levels_through [] ns))
own_some_numbers [] = omega arith
own_some_numbers (n ∷ ns) = (let e = ap length (own_through (n ∷ ns) (omega arith)) in omega (arith, e))

-- the numbers with which levels begin are no more than the levels
pub begin_within : (ls : List LevelValue) (ns : List ℕ) → BeginWith ns ls → length ns ≤ length ls
begin_within ls ns b = (let e = ap length b.1 in let f = length-map ls (λ l. l.piece) in let g = length-append ns b.0 in omega (arith, e, f, g))
