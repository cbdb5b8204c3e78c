-- The words of a line, and which words are names.
use Rattle.std.specs.Prelude.{ℕ, Bool, true, false, cond, ◌||◌, ◌&&◌, ◌==◌, nat_le, List, [], ◌∷◌}
use Rattle.std.specs.List.{list_all}

-- whether a byte is a space or a tab
abbrev pub is_blank : ℕ → Bool
is_blank b = b == 32 || b == 9

-- one byte more before the first of these pieces
abbrev pub with_first : ℕ → List (List ℕ) → List (List ℕ)
with_first b [] = (b ∷ []) ∷ []
with_first b (piece ∷ pieces) = (b ∷ piece) ∷ pieces

-- whether a word that comes before these bytes ends there
abbrev pub ends_word : List ℕ → Bool
ends_word [] = true
ends_word (b ∷ bs) = is_blank b

-- a blank is in no word; another byte is the whole word where the word ends after it, and else begins the next word
abbrev pub words_of : List ℕ → List (List ℕ)
words_of [] = []
words_of (b ∷ bs) = cond (is_blank b) (words_of bs) (cond (ends_word bs) ((b ∷ []) ∷ words_of bs) (with_first b (words_of bs)))

-- a piece alone, unless it is empty
abbrev pub unless_empty : List ℕ → List (List ℕ)
unless_empty [] = []
unless_empty (b ∷ bs) = (b ∷ bs) ∷ []

-- whether a byte is an ASCII letter
abbrev pub is_letter : ℕ → Bool
is_letter b = (nat_le 97 b && nat_le b 122) || (nat_le 65 b && nat_le b 90)

-- an ASCII letter, a digit or _
abbrev pub is_script_byte : ℕ → Bool
is_script_byte b = is_letter b || (nat_le 48 b && nat_le b 57) || b == 95

-- a script name: a letter, then letters, digits and _
abbrev pub is_name : List ℕ → Bool
is_name [] = false
is_name (b ∷ bs) = is_letter b && list_all is_script_byte bs

-- an SQL name: a letter or _, then letters, digits and _
abbrev pub is_sql_name : List ℕ → Bool
is_sql_name [] = false
is_sql_name (b ∷ bs) = (is_letter b || b == 95) && list_all is_script_byte bs
