-- The first line at which something stops to hold.
use Rattle.std.specs.Prelude.{◌≡◌, ◌<◌, ℕ, suc, List, length, slice_index, Option, Some, None}

-- lines have these numbers; the line is the first at which P stops to hold of the lines up to it, by how many they are
pub record StopsAt (P : ℕ → Type 0) (numbers : List ℕ) (line : ℕ) : Type 0 where
  pub place : ℕ
  pub inside : place < length numbers
  pub number : slice_index numbers place ≡ line
  pub before : P place
  pub stops : P (suc place) → ⊥

-- P holds of all lines, or it is said at which line P stops to hold
abbrev pub StopsIn : (ℕ → Type 0) → List ℕ → Option ℕ → Type 0
StopsIn P numbers None = P (length numbers)
StopsIn P numbers (Some line) = StopsAt P numbers line
