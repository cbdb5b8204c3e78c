-- Which text spells which label.
use Rattle.std.specs.Prelude.{◌≡◌, ◌⊎◌, ℕ, Bool, true, false, cond, ◌||◌, ◌==◌, IsTrue, List, [], ◌∷◌, ◌++◌}
use Rattle.std.specs.List.{list_all}
use Rattle.mix_tree.specs.Spelling.{is_bare_label}

-- what stands between quotes: a byte that stands for itself, or one after a backslash
pub data Piece : Type 0 where
  plain : ℕ → Piece
  escape : ℕ → Piece

-- a byte that stands for itself between quotes: any but a quote and a backslash
abbrev pub is_plain : ℕ → Bool
is_plain b = cond (b == 34) false (cond (b == 92) false true)

-- what may stand after a backslash: a quote, a backslash, n or t
abbrev pub is_escape : ℕ → Bool
is_escape b = b == 34 || b == 92 || b == 110 || b == 116

-- a piece as the grammar has it
abbrev pub is_piece : Piece → Bool
is_piece (plain b) = is_plain b
is_piece (escape b) = is_escape b

-- each of the pieces is one of the grammar
abbrev pub ArePieces : List Piece → Type 0
ArePieces ps = IsTrue (list_all is_piece ps)

-- pieces as they are written
abbrev pub inside_quotes : List Piece → List ℕ
inside_quotes [] = []
inside_quotes (plain b ∷ ps) = b ∷ inside_quotes ps
inside_quotes (escape b ∷ ps) = 92 ∷ b ∷ inside_quotes ps

-- the byte that an escape means: n is LF, t is a tab
abbrev pub escaped_byte : ℕ → ℕ
escaped_byte b = cond (b == 110) 10 (cond (b == 116) 9 b)

-- the label that pieces mean
abbrev pub meaning : List Piece → List ℕ
meaning [] = []
meaning (plain b ∷ ps) = b ∷ meaning ps
meaning (escape b ∷ ps) = escaped_byte b ∷ meaning ps

-- the text is one or more bare characters, which are the label
abbrev pub SpellsBare : List ℕ → List ℕ → Type 0
SpellsBare x label = IsTrue (is_bare_label x) × (x ≡ label)

-- the text is pieces between quotes, which mean the label
abbrev pub SpellsQuoted : List ℕ → List ℕ → Type 0
SpellsQuoted x label = (ps : List Piece) × ArePieces ps × (x ≡ 34 ∷ inside_quotes ps ++ 34 ∷ []) × (meaning ps ≡ label)

-- the text spells the label
abbrev pub SpellsLabel : List ℕ → List ℕ → Type 0
SpellsLabel x label = SpellsBare x label ⊎ SpellsQuoted x label
