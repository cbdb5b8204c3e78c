-- What is checked of the first operators holds of fewer of them.
use Rattle.std.proofs.Common.{◌≡◌, ◌≤◌, ◌+◌, ◌∙◌, ◌==◌, ◌||◌, ◌++◌, ℕ, Bool, true, false, List, [], ◌∷◌, refl, sym, ap, subst, arith, take, drop}
use Rattle.std.specs.List.{count_by, flat_map, list_any}
use Rattle.std.proofs.lemmas.List.{take-take, take-append-drop}
use Rattle.std.proofs.lemmas.List.Concat.{flat_map-append}
use Rattle.std.proofs.lemmas.List.Folds.{list_any-append}
use Rattle.mix_catalog.specs.declared.source.SourceSpec.{SourceSpec}
use Rattle.plan_core.specs.Plans.{Operator}
use Rattle.plan_core.specs.Shapes.{shape_of}
use Rattle.plan_core.specs.Valid.{kinds, IsFit, inputs_of, outs_of, AreDistinct, HasSource, uses_of}
use Rattle.plan_core.proofs.Chained.{count-append}
use Rattle.plan_read.specs.Checks.{ops_of, AreSpelled, AreFew, AreNumbered, AreKnown, IsShort, AreShort, IsRanged, AreRanged, AreSound, AreUsed}
use Rattle.plan_read.specs.Grammar.{SpellsLine}
use Rattle.plan_read.specs.Lines.{Line}
use Rattle.plan_read.specs.Reading.{Numbered}
use Rattle.plan_read.proofs.Counted.{count_fewer, smaller_fewer}
use Rattle.plan_read.proofs.Outcomes.{IsClosed}
use Rattle.plan_read.proofs.Stopping.{each_fewer}

-- where a choice of two tests fails, the first fails
first_fails : (a b : Bool) → (a || b) ≡ false → a ≡ false
first_fails true b h = h
first_fails false b h = refl

-- of variables of which none stands twice, none of the first does
first_distinct : (xs ys : List ℕ) → AreDistinct (xs ++ ys) → AreDistinct xs
first_distinct [] ys d = tt
first_distinct (x ∷ xs) ys d = (
  first_fails (list_any (λ w. w == x) xs) (list_any (λ w. w == x) ys) (sym (list_any-append (λ w. w == x) xs ys) ∙ d.0),
  first_distinct xs ys d.1,
)

-- the first operators up to a place are those up to an earlier one, and those between the two
parted : (ops : List Operator) (j k : ℕ) → j ≤ k → take k ops ≡ take j ops ++ drop j (take k ops)
parted ops j k h = sym (take-append-drop j (take k ops)) ∙ ap (λ os. os ++ drop j (take k ops)) (take-take j k ops h)

-- what binds no variable twice doesn't by its first operators
distinct_fewer : (ops : List Operator) (j k : ℕ) → j ≤ k → AreDistinct (flat_map outs_of (take k ops)) → AreDistinct (flat_map outs_of (take j ops))
distinct_fewer ops j k h d =
    first_distinct (flat_map outs_of (take j ops)) (flat_map outs_of (drop j (take k ops)))
    (subst AreDistinct (ap (flat_map outs_of) (parted ops j k h) ∙ flat_map-append outs_of (take j ops) (drop j (take k ops))) d)

-- an operator is used by fewer operators at most as often
uses_fewer : (ops : List Operator) (j k n : ℕ) → j ≤ k → uses_of (take k ops) n ≤ 1 → uses_of (take j ops) n ≤ 1
uses_fewer ops j k n h u =
    let e : uses_of (take k ops) n ≡ uses_of (take j ops) n + uses_of (drop j (take k ops)) n =
    ap (λ os. uses_of os n) (parted ops j k h) ∙ ap (count_by (λ i. i == n)) (flat_map-append inputs_of (take j ops) (drop j (take k ops)))
    ∙ count-append n (flat_map inputs_of (take j ops)) (flat_map inputs_of (drop j (take k ops))) in
    less (uses_of (take k ops) n) (uses_of (take j ops) n) (uses_of (drop j (take k ops)) n) e u
  where
    less : (a b c : ℕ) → a ≡ b + c → a ≤ 1 → b ≤ 1
    less a b c e u = omega (arith, e, u)

-- where the first lines up to a number each spell an operator, so do fewer of them
pub spelled_closed : (names : List (List ℕ)) (sources : List SourceSpec) (lines : List Line) → IsClosed (AreSpelled names sources lines)
spelled_closed names sources lines j k h a = each_fewer (λ (l : Line). (n : Numbered) × SpellsLine names sources l.text n) lines j k h a

-- where a number of operators is few, so is a smaller one
pub few_closed : IsClosed AreFew
few_closed j k h a = omega (arith, h, a)

-- where the first operators up to a number are numbered by their places, so are fewer of them
pub numbered_closed : (ns : List Numbered) → IsClosed (AreNumbered ns)
numbered_closed ns j k h a = record { counted = count_fewer 0 ns j k h a.counted; smaller = smaller_fewer 0 (ops_of ns) j k h a.smaller }

-- where the first operators up to a number have known sources, so have fewer of them
pub known_closed : (count : ℕ) (ns : List Numbered) → IsClosed (AreKnown count ns)
known_closed count ns j k h a = each_fewer (HasSource count) (ops_of ns) j k h a

-- where the first operators up to a number have short paths, so have fewer of them
pub short_closed : (ns : List Numbered) → IsClosed (AreShort ns)
short_closed ns j k h a = each_fewer (λ (op : Operator). IsShort (shape_of op)) (ops_of ns) j k h a

-- where the first lines up to a number have their variables in range, so have fewer of them
pub ranged_closed : (count : ℕ) (lines : List Line) → IsClosed (AreRanged count lines)
ranged_closed count lines j k h a = each_fewer (IsRanged count) lines j k h a

-- where the first operators up to a number are sound, so are fewer of them
pub sound_closed : (ns : List Numbered) → IsClosed (AreSound ns)
sound_closed ns j k h a = record {
  fit = each_fewer (λ (op : Operator). IsFit op (kinds (ops_of ns))) (ops_of ns) j k h a.fit;
  distinct = distinct_fewer (ops_of ns) j k h a.distinct;
  once = λ n. uses_fewer (ops_of ns) j k n h (a.once n);
}

-- where the first operators up to a number are inputs, so are fewer of them
pub used_closed : (ns : List Numbered) → IsClosed (AreUsed ns)
used_closed ns j k h a = λ n below more. a n (omega (arith, h, below)) more
