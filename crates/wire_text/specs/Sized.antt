-- Texts of so many bytes, and lists of trees as texts.
use Rattle.std.specs.Prelude.{◌≡◌, ℕ, ◌<◌, ◌^◌, ◌+◌, List, [], length, get_or, Result, Ok, Err}
use Rattle.lxp_core.specs.declared.open_tree.HoleId.{HoleId}
use Rattle.wire_text.specs.declared.scanning.Stop.{Stop}
use Rattle.wire_text.specs.declared.scanning.Stop.TheVariants.{Unexpected, Ends}
use Rattle.wire_text.specs.Wired.{Wired, count_of}
use Rattle.wire_text.specs.Bytes.{u32_bytes, hole_bytes, list_bytes, IsHole, AreTrees}

-- the text is a number of 32 bits
abbrev pub IsNumberText : List ℕ → Type 0
IsNumberText x = (n : ℕ) × (n < 2 ^ 32) × (x ≡ u32_bytes n)

-- the text is a hole with its weight
abbrev pub IsHoleText : List ℕ → Type 0
IsHoleText x = (id : HoleId) × (weight : ℕ) × IsHole id × (weight < 2 ^ 128) × (x ≡ hole_bytes id weight)

-- the text is empty
abbrev pub IsNothing : List ℕ → Type 0
IsNothing x = x ≡ []

-- the text is a list of trees
abbrev pub IsListText : List ℕ → Type 0
IsListText x = (o : Wired) × (count_of o < 2 ^ 32) × AreTrees o × (x ≡ list_bytes o)

-- the texts of the grammar are those of so many bytes
pub record IsSized (Is : List ℕ → Type 0) (size : ℕ) : Type 0 where
  pub len : (x : List ℕ) → Is x → length x ≡ size
  pub all : (x : List ℕ) → ((i : ℕ) → get_or x i 0 < 256) → length x ≡ size → Is x

-- the text has so many bytes, or how far it is from that
abbrev pub Measures : {T : Type 0} → List ℕ → ℕ → Result T Stop → Type 0
Measures x size (Ok u) = length x ≡ size
Measures x size (Err (Unexpected left)) = (0 < left) × (size + left ≡ length x)
Measures x size (Err Ends) = length x < size
