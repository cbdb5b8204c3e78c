-- Which bytes a character of UTF-8 has.
use Rattle.std.specs.Prelude.{◌≡◌, ◌⊎◌, ℕ, ◌+◌, ◌<◌, ◌≤◌, List, ◌++◌, length, take}
use Rattle.std.specs.Str.{IsUtf8}

-- the byte may stand after the first byte of a character
abbrev pub Follows : ℕ → Type 0
Follows b = (128 ≤ b) × (b < 192)

-- the byte may stand second: after four first bytes its range is smaller
pub record IsSecond (first second : ℕ) : Type 0 where
  pub low : 128 ≤ second
  pub high : second < 192
  pub least_of_three : first ≡ 224 → 160 ≤ second
  pub most_of_three : first ≡ 237 → second < 160
  pub least_of_four : first ≡ 240 → 144 ≤ second
  pub most_of_four : first ≡ 244 → second < 144

-- how many bytes a character has that begins with the byte; 0, where none does
pub record IsWidth (first width : ℕ) : Type 0 where
  pub most : width ≤ 4
  pub none : width ≡ 0 → ((128 ≤ first) × (first < 194)) ⊎ (245 ≤ first)
  pub one : width ≡ 1 → first < 128
  pub two : width ≡ 2 → (194 ≤ first) × (first < 224)
  pub three : width ≡ 3 → (224 ≤ first) × (first < 240)
  pub four : width ≡ 4 → (240 ≤ first) × (first < 245)

-- the text is a proper prefix of a character of at most so many bytes
abbrev pub IsPrefixOfCharacter : List ℕ → ℕ → Type 0
IsPrefixOfCharacter x left = (y : List ℕ) × IsUtf8 (x ++ y) × (length (x ++ y) ≤ left) × (0 < length y)

-- up to a byte the text is a prefix of UTF-8 of at most so many bytes; with that byte none of so many goes on
pub record IsNoCharacterAt (x : List ℕ) (left at : ℕ) : Type 0 where
  pub inside : at < length x
  pub prefix : (y : List ℕ) × IsUtf8 (take at x ++ y) × (length (take at x ++ y) ≤ left)
  pub wrong : (y : List ℕ) → length (take (at + 1) x ++ y) ≡ left → IsUtf8 (take (at + 1) x ++ y) → ⊥
