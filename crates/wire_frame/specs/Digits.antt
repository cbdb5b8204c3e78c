-- The first bytes of a number.
use Rattle.std.specs.Prelude.{◌≡◌, ℕ, List, [], ◌∷◌, length}
use Rattle.std.specs.Int.{w32, from_be_bytes}
use Rattle.wire_frame.specs.declared.digits.Digits.{Digits}
use Rattle.wire_frame.specs.declared.digits.Digits.TheVariants.{None, One, Two, Three}
use Rattle.wire_frame.specs.declared.digits.Numbered.{Numbered}
use Rattle.wire_frame.specs.declared.digits.Numbered.TheVariants.{Number, Begun}

-- the first bytes of a number, as a list
abbrev pub digits_of : Digits → List ℕ
digits_of None = []
digits_of (One a) = a ∷ []
digits_of (Two a b) = a ∷ b ∷ []
digits_of (Three a b c) = a ∷ b ∷ c ∷ []

-- four bytes are a number, and fewer are its first bytes
abbrev pub IsNumbered : List ℕ → Numbered → Type 0
IsNumbered bytes (Number n) = (length bytes ≡ 4) × (n ≡ from_be_bytes w32 bytes)
IsNumbered bytes (Begun digits) = (length bytes ≡ length (digits_of digits)) × (bytes ≡ digits_of digits)
