-- What a read takes of contents, and what a write adds to them.
use Rattle.std.specs.Prelude.{◌≡◌, ◌⊎◌, ℕ, ◌+◌, ◌-◌, ◌≤◌, max, List, ◌++◌, length, take, drop, Option, Some, None, zero, suc}

-- the first bytes of room, count of them, are those of the contents from an offset on;
-- there are none only into no room, or where the contents end
pub record GivesFrom (contents : List ℕ) (from count : ℕ) (room : List ℕ) : Type 0 where
  pub bytes : take count room ≡ take count (drop from contents)
  pub within : count ≤ length contents - from
  pub end : count ≡ 0 → (length room ≡ 0) ⊎ (length contents ≤ from)

-- the furthest end after a read of count bytes at an offset: a read of nothing leaves it
abbrev pub end_after : ℕ → ℕ → ℕ → ℕ
end_after end from zero = end
end_after end from (suc count) = max end (from + suc count)

-- what was written rose by a whole piece at its end, where it is told
abbrev pub Appends : Option (List ℕ) → Option (List ℕ) → List ℕ → Type 0
Appends None after piece = after ≡ None
Appends (Some before) after piece = after ≡ Some (before ++ piece)

-- what was written rose by a prefix of a piece at its end, where it is told
abbrev pub AppendsPrefix : Option (List ℕ) → Option (List ℕ) → List ℕ → Type 0
AppendsPrefix None after piece = after ≡ None
AppendsPrefix (Some before) after piece = (count : ℕ) × (after ≡ Some (before ++ take count piece))
