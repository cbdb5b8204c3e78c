-- Names: one or more ASCII letters, digits, _ and -.
use Rattle.std.specs.Prelude.{ℕ, ◌<◌, Bool, ◌||◌, ◌==◌, IsTrue, List, length}
use Rattle.std.specs.List.{list_all}
use Rattle.mix_tree.specs.Spelling.{is_between}

-- an ASCII letter, a digit, _ or -
abbrev pub is_name_byte : ℕ → Bool
is_name_byte b = is_between 97 122 b || is_between 65 90 b || is_between 48 57 b || b == 95 || b == 45

-- a name: one or more bytes that are ASCII letters, digits, _ or -
abbrev pub IsName : List ℕ → Type 0
IsName x = IsTrue (list_all is_name_byte x) × (0 < length x)
