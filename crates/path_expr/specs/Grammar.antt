-- How paths are spelled.
use Rattle.std.specs.Prelude.{◌≡◌, ℕ, Bool, ◌||◌, ◌==◌, IsTrue, List, [], ◌∷◌, ◌++◌}
use Rattle.mix_tree.specs.LabelGrammar.{Piece, ArePieces, inside_quotes}
use Rattle.mix_tree.specs.Names.{IsName}

-- a path as it is written: a name or _, a quoted label, a path in parentheses, one with a mark after it, two with a dot or a bar between
pub data Spelled : Type 0 where
  word : List ℕ → Spelled
  quote : List Piece → Spelled
  group : Spelled → Spelled
  marked : Spelled → ℕ → Spelled
  dot : Spelled → Spelled → Spelled
  bar : Spelled → Spelled → Spelled

-- the kinds of the grammar, from the widest to the narrowest
pub data Kind : Type 0 where
  a_path : Kind
  a_sequence : Kind
  a_repeat : Kind
  an_atom : Kind

-- whether a byte is one of * + ?
abbrev pub is_mark : ℕ → Bool
is_mark b = b == 42 || b == 43 || b == 63

-- what is written is of this kind: a path has bars between sequences, a sequence has dots between repeats, a repeat is an atom with a mark
-- or without, and an atom is a name, a quoted label or a path in parentheses
abbrev pub Is : Spelled → Kind → Type 0
Is (word l) k = IsName l
Is (quote ps) k = ArePieces ps
Is (group p) k = Is p a_path
Is (marked p m) an_atom = ⊥
Is (marked p m) a_repeat = Is p an_atom × IsTrue (is_mark m)
Is (marked p m) a_sequence = Is p an_atom × IsTrue (is_mark m)
Is (marked p m) a_path = Is p an_atom × IsTrue (is_mark m)
Is (dot p q) an_atom = ⊥
Is (dot p q) a_repeat = ⊥
Is (dot p q) a_sequence = Is p a_sequence × Is q a_repeat
Is (dot p q) a_path = Is p a_sequence × Is q a_repeat
Is (bar p q) an_atom = ⊥
Is (bar p q) a_repeat = ⊥
Is (bar p q) a_sequence = ⊥
Is (bar p q) a_path = Is p a_path × Is q a_sequence

-- the text of what is written
abbrev pub text_of : Spelled → List ℕ
text_of (word l) = l
text_of (quote ps) = 34 ∷ inside_quotes ps ++ 34 ∷ []
text_of (group p) = 40 ∷ text_of p ++ 41 ∷ []
text_of (marked p m) = text_of p ++ m ∷ []
text_of (dot p q) = text_of p ++ 46 ∷ text_of q
text_of (bar p q) = text_of p ++ 124 ∷ text_of q

-- the text is written so, as the grammar has it
abbrev pub Writes : List ℕ → Spelled → Type 0
Writes x p = Is p a_path × (text_of p ≡ x)
