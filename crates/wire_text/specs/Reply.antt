-- Replies as values apart from how they lie in memory, and which text is one.
use Rattle.std.specs.Prelude.{◌≡◌, ℕ, zero, suc, ◌+◌, ◌<◌, ◌^◌, List, [], ◌∷◌, ◌++◌, length, Option, Some, None, option_map}
use Rattle.lxp_core.specs.declared.open_tree.HoleId.{HoleId}
use Rattle.wire_text.specs.Wired.{Wired, nil, node, hole, count_of}
use Rattle.wire_text.specs.Bytes.{u32_bytes, hole_bytes, label_bytes, trees_bytes, list_bytes, IsHole, AreTrees}

-- a reply
pub data Said : Type 0 where
  count : ℕ → Said
  root : HoleId → ℕ → Said
  list : Wired → Said
  failed : Said
  unknown_hole : Said
  no_memory : Said
  no_source : Said

-- the bytes of a reply
abbrev pub reply_bytes : Said → List ℕ
reply_bytes (count n) = 0x80 ∷ u32_bytes n
reply_bytes (root id weight) = 0x81 ∷ hole_bytes id weight
reply_bytes (list o) = 0x82 ∷ list_bytes o
reply_bytes failed = 0x83 ∷ []
reply_bytes unknown_hole = 0x84 ∷ []
reply_bytes no_memory = 0x85 ∷ []
reply_bytes no_source = 0x86 ∷ []

-- the numbers of a reply fit, and its labels are UTF-8
abbrev pub IsReply : Said → Type 0
IsReply (count n) = n < 2 ^ 32
IsReply (root id weight) = IsHole id × (weight < 2 ^ 128)
IsReply (list o) = (count_of o < 2 ^ 32) × AreTrees o
IsReply failed = Unit {0}
IsReply unknown_hole = Unit {0}
IsReply no_memory = Unit {0}
IsReply no_source = Unit {0}

-- the text is a reply, of any number of levels
abbrev pub SpellsReply : List ℕ → Said → Type 0
SpellsReply x r = IsReply r × (x ≡ reply_bytes r)

-- the first place, or else one so many bytes after the second
abbrev pub first_place : Option ℕ → ℕ → Option ℕ → Option ℕ
first_place (Some i) len later = Some i
first_place None len later = option_map (λ i. len + i) later

-- in the bytes of trees, where the first tree begins that lies below so many levels
abbrev pub deep_place : ℕ → Wired → Option ℕ
deep_place levels nil = None
deep_place zero (node label kids rest) = Some 0
deep_place zero (hole id weight rest) = Some 0
deep_place (suc levels) (node label kids rest) =
    let head = length (label_bytes label) + 5 in
    first_place (option_map (λ i. head + i) (deep_place levels kids)) (head + length (trees_bytes kids)) (deep_place (suc levels) rest)
deep_place (suc levels) (hole id weight rest) = option_map (λ i. 41 + i) (deep_place (suc levels) rest)

-- in the bytes of a reply, where the first tree begins that lies below so many levels
abbrev pub deep_place_in : ℕ → Said → Option ℕ
deep_place_in levels (count n) = None
deep_place_in levels (root id weight) = None
deep_place_in levels (list o) = option_map (λ i. 5 + i) (deep_place levels o)
deep_place_in levels failed = None
deep_place_in levels unknown_hole = None
deep_place_in levels no_memory = None
deep_place_in levels no_source = None

-- no reply begins another, and no text is two replies
abbrev pub RepliesAreApart : Type 0
RepliesAreApart = (a b : Said) (x y : List ℕ) → IsReply a → IsReply b → reply_bytes a ++ x ≡ reply_bytes b ++ y → (a ≡ b) × (x ≡ y)

-- the text is a reply
abbrev pub IsReplyText : List ℕ → Type 0
IsReplyText x = (r : Said) × SpellsReply x r
