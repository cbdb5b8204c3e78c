-- What reading a path answers.
use Rattle.std.specs.Prelude.{◌≡◌, ◌<◌, ◌≤◌, ℕ, List, Option, Some, Result, Ok, Err}
use Rattle.std.specs.Str.{IsUtf8}
use Rattle.std.specs.Str.Lossy.{utf8_valid_len}
use Rattle.mix_base.specs.Reading.{IsUnexpected, IsCut}
use Rattle.path_expr.specs.Grammar.{Spelled, Writes}
use Rattle.path_expr.specs.Form.{Form, positions_in}
use Rattle.path_expr.specs.Values.{value_of}
use Rattle.path_expr.specs.Depth.{nesting, deep_at}
use Rattle.path_expr.specs.declared.fault.PathFault.{PathFault}
use Rattle.path_expr.specs.declared.fault.PathFault.TheVariants.{NotUtf8, Unexpected, Ends, TooDeep, TooMany, OutOfMemory}

-- the text spells the path
abbrev pub Spells : List ℕ → Form → Type 0
Spells x v = (p : Spelled) × Writes x p × (value_of p ≡ v)

-- no text spells two paths
abbrev pub SpellsAtMostOne : Type 0
SpellsAtMostOne = (x : List ℕ) (v w : Form) → Spells x v → Spells x w → v ≡ w

-- the text spells the path, with at most 100 parentheses open at once and at most 120 label positions
pub record SpellsWithin (x : List ℕ) (v : Form) : Type 0 where
  pub spelled : Spelled
  pub writes : Writes x spelled
  pub value : value_of spelled ≡ v
  pub nesting : nesting spelled ≤ 100
  pub positions : positions_in v ≤ 120

-- the text spells a path, and its first parenthesis that is open inside 100 others stands at the place
abbrev pub IsTooDeep : List ℕ → ℕ → Type 0
IsTooDeep x at = (p : Spelled) × Writes x p × (deep_at p ≡ Some at)

-- the text spells a path of n label positions, more than 120, with at most 100 parentheses open at once
abbrev pub HasTooMany : List ℕ → ℕ → Type 0
HasTooMany x n = (p : Spelled) × Writes x p × (nesting p ≤ 100) × (positions_in (value_of p) ≡ n) × (120 < n)

-- the fault is that of the text
abbrev pub Refuses : List ℕ → PathFault → Type 0
Refuses x (NotUtf8 at) = (¬ IsUtf8 x) × (at ≡ utf8_valid_len x)
Refuses x (Unexpected at) = IsUtf8 x × IsUnexpected Spells x at
Refuses x Ends = IsUtf8 x × IsCut Spells x
Refuses x (TooDeep at) = IsUtf8 x × IsTooDeep x at
Refuses x (TooMany n) = IsUtf8 x × HasTooMany x n
Refuses x OutOfMemory = Unit {0}

-- the path that the text spells, or why none is read
abbrev pub Answers : List ℕ → Result Form PathFault → Type 0
Answers x (Ok v) = IsUtf8 x × SpellsWithin x v
Answers x (Err e) = Refuses x e

-- the fault is that memory ran out
abbrev pub IsWantOfMemory : PathFault → Type 0
IsWantOfMemory (NotUtf8 at) = ⊥
IsWantOfMemory (Unexpected at) = ⊥
IsWantOfMemory Ends = ⊥
IsWantOfMemory (TooDeep at) = ⊥
IsWantOfMemory (TooMany n) = ⊥
IsWantOfMemory OutOfMemory = Unit {0}

-- the result is this path, unless memory ran out
abbrev pub IsPath : Result Form PathFault → Form → Type 0
IsPath (Ok w) v = w ≡ v
IsPath (Err e) v = IsWantOfMemory e

-- the text is of the grammar, with the place of its first parenthesis that is open inside 100 others, or the fault says why it is not
abbrev pub Scans : List ℕ → Result (Option ℕ) PathFault → Type 0
Scans x (Ok deep) = (p : Spelled) × Writes x p × (deep_at p ≡ deep)
Scans x (Err e) = Refuses x e
