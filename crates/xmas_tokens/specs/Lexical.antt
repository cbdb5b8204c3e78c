-- Blanks, and the names of variables.
use Rattle.std.specs.Prelude.{ℕ, Bool, ◌||◌, ◌==◌, IsTrue, List, [], ◌∷◌}
use Rattle.std.specs.List.{list_all}
use Rattle.mix_tree.specs.Spelling.{is_between}

-- whether a byte is a blank: a space, a tab, LF or CR
abbrev pub is_blank : ℕ → Bool
is_blank b = b == 32 || b == 9 || b == 10 || b == 13

-- whether a byte is an ASCII letter
abbrev pub is_letter : ℕ → Bool
is_letter b = is_between 97 122 b || is_between 65 90 b

-- an ASCII letter, a digit or _
abbrev pub is_word_byte : ℕ → Bool
is_word_byte b = is_between 97 122 b || is_between 65 90 b || is_between 48 57 b || b == 95

-- the text is of blanks alone, or empty
abbrev pub IsBlanks : List ℕ → Type 0
IsBlanks x = IsTrue (list_all is_blank x)

-- the text is one blank or more
abbrev pub IsGap : List ℕ → Type 0
IsGap [] = ⊥
IsGap (b ∷ x) = IsBlanks (b ∷ x)

-- a variable's name, without the $: a letter, then letters, digits and _
abbrev pub IsVar : List ℕ → Type 0
IsVar [] = ⊥
IsVar (b ∷ x) = IsTrue (is_letter b) × IsTrue (list_all is_word_byte x)
