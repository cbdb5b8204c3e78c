-- The bytes of a label's text, in place or on the heap.
use Rattle.std.specs.Prelude.{◌≡◌, ℕ, ◌≤◌, ◌-◌, List, length, take, drop, replicate, string_bytes, IsUtf8}
use Rattle.mix_tree.specs.declared.label_text.LabelText.{LabelText}
use Rattle.mix_tree.specs.declared.label_text.LabelText.TheVariants.{Short, Long}

-- the bytes of a text that lies in place or on the heap
abbrev pub text_bytes : LabelText → List ℕ
text_bytes (Short len bytes) = take len bytes
text_bytes (Long text) = string_bytes text.value

-- the length lies within the room, the bytes are UTF-8, and zeros fill the room after them
abbrev pub IsText : LabelText → Type 0
IsText (Short len bytes) = (len ≤ 14) × ∥ IsUtf8 (take len bytes) ∥₁ × (length bytes ≡ 14) × (drop len bytes ≡ replicate (14 - len) 0)
IsText (Long text) = Unit {0}
