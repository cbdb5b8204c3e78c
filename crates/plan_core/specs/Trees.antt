-- Plans whose operators are each the input of one later operator at most.
use Rattle.std.specs.Prelude.{◌≡◌, ◌<◌, ◌≤◌, ℕ, true, false, not, cond, Bool, List, ◌++◌, ◌==◌, length, slice_index_or}
use Rattle.std.specs.List.{count_by, AllByRecursion}
use Rattle.plan_core.specs.ByNumber.{op_at}
use Rattle.plan_core.specs.Plans.{Operator}
use Rattle.plan_core.specs.Valid.{inputs_of, uses_of}

-- each operator's inputs stand before it, and each operator is an input once at most
pub record IsTree (ops : List Operator) : Type 0 where
  pub before : (n : ℕ) → n < length ops → AllByRecursion (λ i. i < n) (inputs_of (op_at ops n))
  pub once : (i : ℕ) → uses_of ops i ≤ 1

-- how often a number stands in a list
abbrev pub times : List ℕ → ℕ → ℕ
times is n = count_by (λ m. m == n) is

-- a list has each number with a mark once, and no other
abbrev pub HaveMarks : List Bool → List ℕ → Type 0
HaveMarks marks is = (n : ℕ) → times is n ≡ cond (slice_index_or marks n false) 1 0

-- some numbers, which are among those of the marks and had none, got one each
pub record IsMarked (old : List Bool) (is : List ℕ) (new : List Bool) : Type 0 where
  pub count : length new ≡ length old
  pub within : AllByRecursion (λ n. n < length old) is
  pub more : (had : List ℕ) → HaveMarks old had → HaveMarks new (had ++ is)

-- not all of some numbers can get marks: one is past the end, or would stand twice among those that have one
pub record CannotMark (marks : List Bool) (is : List ℕ) : Type 0 where
  pub contrary : (had : List ℕ) → HaveMarks marks had → AllByRecursion (λ n. n < length marks) is → ((n : ℕ) → times (had ++ is) n ≤ 1) → ⊥

-- a number can get a mark: it is one of the marks', and has none
abbrev pub lacks_mark : List Bool → ℕ → Bool
lacks_mark marks n = not (slice_index_or marks n true)
