-- Where in a reply one stands after its first bytes, and where the next byte leads.
use Rattle.std.specs.Prelude.{ℕ, zero, suc, ◌+◌, ◌^◌, ◌==◌, ◌&&◌, cond, nat_lt, nat_le, List, [], ◌∷◌, ◌++◌, length}
use Rattle.std.specs.Int.{w32, from_be_bytes}

-- where one stands in a reply
pub data Standing : Type 0 where
  -- before its first byte
  at_reply : Standing
  -- in the length of a label, after these bytes of it; so many trees come after the node's own children
  at_length : List ℕ → ℕ → Standing
  -- in a label, of which the next byte and so many more are to come; so many trees come after the node's own children
  at_label : ℕ → ℕ → Standing
  -- in the number of trees of a list, after these bytes of it; so many trees come after that list
  at_count : List ℕ → ℕ → Standing
  -- in a hole or in the number of sources, of which the next byte and so many more are to come; then so many trees come
  at_rest : ℕ → ℕ → Standing
  -- before the first byte of a tree, so many of which are to come; where none is, the reply is whole
  at_tree : ℕ → Standing
  -- after a byte with which no reply goes on
  lost : Standing

-- before so many bytes of a label
abbrev pub before_label : ℕ → ℕ → Standing
before_label zero trees = at_count [] trees
before_label (suc more) trees = at_label more trees

-- before so many bytes of a hole, or of the number of sources
abbrev pub before_rest : ℕ → ℕ → Standing
before_rest zero trees = at_tree trees
before_rest (suc more) trees = at_rest more trees

-- before so many trees; no text that has fewer than 2^64 bytes has more trees than that
abbrev pub before_trees : ℕ → Standing
before_trees trees = cond (nat_lt trees (2 ^ 64)) (at_tree trees) lost

-- after the first byte of a reply
abbrev pub after_reply_tag : ℕ → Standing
after_reply_tag b =
    cond (b == 0x80) (before_rest 4 0) (cond (b == 0x81) (before_rest 40 0) (cond (b == 0x82) (at_count [] 0)
    (cond (nat_le 0x83 b && nat_le b 0x86) (at_tree 0) lost)))

-- after the first byte of a tree, where so many others come after it
abbrev pub after_tree_tag : ℕ → ℕ → Standing
after_tree_tag b trees = cond (b == 0) (at_length [] trees) (cond (b == 1) (before_rest 40 trees) lost)

-- after these bytes of the length of a label
abbrev pub after_length : List ℕ → ℕ → Standing
after_length bytes trees = cond (length bytes == 4) (before_label (from_be_bytes w32 bytes) trees) (at_length bytes trees)

-- after these bytes of the number of trees of a list
abbrev pub after_count : List ℕ → ℕ → Standing
after_count bytes trees = cond (length bytes == 4) (before_trees (trees + from_be_bytes w32 bytes)) (at_count bytes trees)

-- after the next byte
abbrev pub step : Standing → ℕ → Standing
step at_reply b = after_reply_tag b
step (at_length bytes trees) b = after_length (bytes ++ (b ∷ [])) trees
step (at_label more trees) b = before_label more trees
step (at_count bytes trees) b = after_count (bytes ++ (b ∷ [])) trees
step (at_rest more trees) b = before_rest more trees
step (at_tree zero) b = lost
step (at_tree (suc trees)) b = after_tree_tag b trees
step lost b = lost

-- after the next bytes
abbrev pub after : Standing → List ℕ → Standing
after s [] = s
after s (b ∷ bytes) = after (step s b) bytes

-- where one stands after these bytes of a reply
abbrev pub standing_after : List ℕ → Standing
standing_after bytes = after at_reply bytes
