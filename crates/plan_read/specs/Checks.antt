-- What is checked of the operators that lines spell, each time of the first k of them.
use Rattle.std.specs.Prelude.{◌≡◌, ◌<◌, ◌≤◌, ℕ, suc, true, false, List, [], ◌∷◌, map, length, take}
use Rattle.std.specs.List.{AllByRecursion, flat_map}
use Rattle.path_expr.specs.Form.{positions_in}
use Rattle.mix_catalog.specs.declared.source.SourceSpec.{SourceSpec}
use Rattle.plan_core.specs.Shapes.{Shape, one_source, visits_below, pairs_up, passes_on, no_events, shape_of}
use Rattle.plan_core.specs.Plans.{Operator, PlanValue}
use Rattle.plan_core.specs.Valid.{kinds, IsFit, HaveSmallerInputs, outs_of, AreDistinct, HasSource, uses_of, EndsSingle, is_single_at, IsValid}
use Rattle.plan_read.specs.Grammar.{SpellsLine}
use Rattle.plan_read.specs.Lines.{Line}
use Rattle.plan_read.specs.Reading.{Numbered}
use Rattle.plan_read.specs.Variables.{line_vars, is_below}

-- operators without their numbers
abbrev pub ops_of : List Numbered → List Operator
ops_of ns = map (λ (n : Numbered). n.op) ns

-- each of the first k lines spells an operator
abbrev pub AreSpelled : List (List ℕ) → List SourceSpec → List Line → ℕ → Type 0
AreSpelled names sources lines k = AllByRecursion (λ (l : Line). (n : Numbered) × SpellsLine names sources l.text n) (take k lines)

-- k is at most 10,000, the most operators that a text may have
abbrev pub AreFew : ℕ → Type 0
AreFew k = k ≤ 10000

-- the first operator has the number k, the second k + 1, and so on
abbrev pub CountFrom : ℕ → List Numbered → Type 0
CountFrom k [] = Unit {0}
CountFrom k (n ∷ ns) = (n.number ≡ k) × CountFrom (suc k) ns

-- each of the first k operators has its place as its number, and inputs of smaller numbers
pub record AreNumbered (ns : List Numbered) (k : ℕ) : Type 0 where
  pub counted : CountFrom 0 (take k ns)
  pub smaller : HaveSmallerInputs 0 (take k (ops_of ns))

-- each source of the first k operators is one of so many
abbrev pub AreKnown : ℕ → List Numbered → ℕ → Type 0
AreKnown count ns k = AllByRecursion (HasSource count) (take k (ops_of ns))

-- the label positions of the path of a shape, 0 where it has none
abbrev pub positions : Shape → ℕ
positions (one_source s out) = 0
positions (visits_below input start path out) = positions_in path
positions (pairs_up left right tests) = 0
positions (passes_on input stage) = 0
positions (no_events input made) = 0

-- the path of a shape, if it has one, has at most 120 label positions
abbrev pub IsShort : Shape → Type 0
IsShort shape = positions shape ≤ 120

-- each path of the first k operators has at most 120 label positions
abbrev pub AreShort : List Numbered → ℕ → Type 0
AreShort ns k = AllByRecursion (λ op. IsShort (shape_of op)) (take k (ops_of ns))

-- no numbered variable of a line is smaller than the count
abbrev pub IsRanged : ℕ → Line → Type 0
IsRanged count l = AllByRecursion (λ x. is_below count x ≡ false) (line_vars l.text)

-- no numbered variable of the first k lines is smaller than the count
abbrev pub AreRanged : ℕ → List Line → ℕ → Type 0
AreRanged count lines k = AllByRecursion (IsRanged count) (take k lines)

-- what each of the first k operators uses is bound by its inputs and of the kind that it needs, no two of them bind the same variable, and none is
-- their input twice
pub record AreSound (ns : List Numbered) (k : ℕ) : Type 0 where
  pub fit : AllByRecursion (λ op. IsFit op (kinds (ops_of ns))) (take k (ops_of ns))
  pub distinct : AreDistinct (flat_map outs_of (take k (ops_of ns)))
  pub once : (n : ℕ) → uses_of (take k (ops_of ns)) n ≤ 1

-- the last operator, and it alone, is a tupleDestroy
abbrev pub Ends : List Numbered → Type 0
Ends ns = EndsSingle (λ n. true) (ops_of ns)

-- each of the first k operators, but the last of all, is an input
abbrev pub AreUsed : List Numbered → ℕ → Type 0
AreUsed ns k = (n : ℕ) → n < k → suc n < length (ops_of ns) → uses_of (ops_of ns) n ≡ 1

-- the last operator, and it alone, is a tupleDestroy, and its input has a single binding
abbrev pub IsSingle : List Numbered → Type 0
IsSingle ns = EndsSingle (is_single_at (ops_of ns)) (ops_of ns)

-- operators pass the checks of their lines alone: there are few, they are numbered by their places, their sources are known, their paths short, and
-- their variables in range
pub record ArePlain (names : List (List ℕ)) (sources : List SourceSpec) (lines : List Line) (ns : List Numbered) : Type 0 where
  pub few : AreFew (length ns)
  pub numbered : AreNumbered ns (length ns)
  pub known : AreKnown (length sources) ns (length ns)
  pub short : AreShort ns (length ns)
  pub ranged : AreRanged (length names) lines (length ns)

-- operators pass the checks of all lines together: they are sound, end in the only tupleDestroy, which is single, and each other one is an input
pub record AreWhole (ns : List Numbered) : Type 0 where
  pub sound : AreSound ns (length ns)
  pub ends : Ends ns
  pub used : AreUsed ns (length ns)
  pub single : IsSingle ns

-- operators that pass the checks of their lines pass those of all lines together exactly where their plan is valid
pub record WholeIsValid : Type 0 where
  pub sound : (names : List (List ℕ)) (sources : List SourceSpec) (lines : List Line) (ns : List Numbered) (p : PlanValue)
      → p.ops ≡ ops_of ns → length p.sources ≡ length sources → ArePlain names sources lines ns → AreWhole ns → IsValid p
  pub complete : (ns : List Numbered) (p : PlanValue) → p.ops ≡ ops_of ns → IsValid p → AreWhole ns
