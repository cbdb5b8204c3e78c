-- What inputs mean to a caller, and what is taken of them.
use Rattle.std.specs.Prelude.{◌≡◌, ◌⊎◌, ℕ, ◌+◌, ◌^◌, ◌<◌, ◌≤◌, List, [], ◌++◌, length, take, Option, Some, None, IfSome}

-- what an input means: the bytes that are left, how many were taken, and how often a take has failed
pub record InputView : Type 0 where
  -- the bytes that are left, where they are told
  pub left : Option (List ℕ)
  -- how many bytes were taken
  pub taken : ℕ
  -- how often a take has failed
  pub faults : ℕ

-- given bytes were the first of those that were left of an input, and the others are left now
abbrev pub Gone : Option (List ℕ) → Option (List ℕ) → List ℕ → Type 0
Gone None after bytes = after ≡ None
Gone (Some left) after bytes = (rest : List ℕ) × (left ≡ bytes ++ rest) × (after ≡ Some rest)

-- given bytes were taken of an input, and all of them are counted
pub record Took (old new : InputView) (bytes : List ℕ) : Type 0 where
  pub gone : Gone old.left new.left bytes
  pub counted : new.taken ≡ old.taken + length bytes

-- nothing is left of an input, where what is left is told
abbrev pub IsAtEnd : InputView → Type 0
IsAtEnd input = IfSome input.left (λ left. left ≡ [])

-- one call put bytes of an input into the first places of room, and their count still fits; there are none only into no room, or at the end
pub record Gives (old new : InputView) (count : ℕ) (room : List ℕ) : Type 0 where
  pub within : count ≤ length room
  pub took : Took old new (take count room)
  pub few : new.taken < 2 ^ 64
  pub end : count ≡ 0 → (length room ≡ 0) ⊎ IsAtEnd new
