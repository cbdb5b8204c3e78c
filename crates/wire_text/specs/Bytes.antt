-- The bytes of what goes over a wire. All numbers are big-endian.
use Rattle.std.specs.Prelude.{◌≡◌, ℕ, ◌<◌, ◌/◌, ◌%◌, ◌^◌, List, [], ◌∷◌, ◌++◌, length, slice_index}
use Rattle.std.specs.Int.{w32, w64, to_be_bytes}
use Rattle.std.specs.Str.{IsUtf8}
use Rattle.lxp_core.specs.declared.open_tree.HoleId.{HoleId}
use Rattle.wire_text.specs.Wired.{Wired, nil, node, hole, count_of}

-- a number of 32 bits
unfoldable pub u32_bytes : ℕ → List ℕ
u32_bytes n = to_be_bytes w32 n

-- a number of 64 bits
unfoldable pub u64_bytes : ℕ → List ℕ
u64_bytes n = to_be_bytes w64 n

-- a number of 128 bits: its higher half and its lower half
abbrev pub u128_bytes : ℕ → List ℕ
u128_bytes n = u64_bytes (n / 2 ^ 64) ++ u64_bytes (n % 2 ^ 64)

-- the three words of a hole
abbrev pub words_bytes : HoleId → List ℕ
words_bytes id = u64_bytes (slice_index id.words 0) ++ (u64_bytes (slice_index id.words 1) ++ u64_bytes (slice_index id.words 2))

-- a hole and its weight
abbrev pub hole_bytes : HoleId → ℕ → List ℕ
hole_bytes id weight = words_bytes id ++ u128_bytes weight

-- the length of a label and the label
abbrev pub label_bytes : List ℕ → List ℕ
label_bytes label = u32_bytes (length label) ++ label

-- trees, one after another: 0, the label, the number of children and these, or 1 and a hole
abbrev pub trees_bytes : Wired → List ℕ
trees_bytes nil = []
trees_bytes (node label kids rest) = 0 ∷ (label_bytes label ++ ((u32_bytes (count_of kids) ++ trees_bytes kids) ++ trees_bytes rest))
trees_bytes (hole id weight rest) = 1 ∷ (hole_bytes id weight ++ trees_bytes rest)

-- the number of trees and the trees
abbrev pub list_bytes : Wired → List ℕ
list_bytes o = u32_bytes (count_of o) ++ trees_bytes o

-- a hole has three words of 64 bits
pub record IsHole (id : HoleId) : Type 0 where
  pub three : length id.words ≡ 3
  pub first : slice_index id.words 0 < 2 ^ 64
  pub second : slice_index id.words 1 < 2 ^ 64
  pub third : slice_index id.words 2 < 2 ^ 64

-- each label is UTF-8, and each length and each number of trees has 32 bits
abbrev pub AreTrees : Wired → Type 0
AreTrees nil = Unit {0}
AreTrees (node label kids rest) = IsUtf8 label × (length label < 2 ^ 32) × (count_of kids < 2 ^ 32) × AreTrees kids × AreTrees rest
AreTrees (hole id weight rest) = IsHole id × (weight < 2 ^ 128) × AreTrees rest
