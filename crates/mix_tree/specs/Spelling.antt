-- How labels are spelled: bare, or between quotes with four escapes.
use Rattle.std.specs.Prelude.{ℕ, Bool, false, cond, ◌||◌, ◌&&◌, ◌==◌, nat_le, List, [], ◌∷◌, ◌++◌}
use Rattle.std.specs.List.{list_all, flat_map}

-- the byte lies between two others
abbrev pub is_between : ℕ → ℕ → ℕ → Bool
is_between low high b = nat_le low b && nat_le b high

-- an ASCII letter, a digit, one of _ - . : / @ # + $ %
abbrev pub is_ascii_bare : ℕ → Bool
is_ascii_bare b =
    is_between 97 122 b || is_between 65 90 b || is_between 48 57 b || b == 95 || b == 45 || b == 46 || b == 58 || b == 47 || b == 64 || b == 35 || b == 43
    || b == 36
    || b == 37

-- a byte of a bare character: an ASCII one that may stand in a bare label, or any that is not ASCII
abbrev pub is_bare : ℕ → Bool
is_bare b = is_ascii_bare b || nat_le 128 b

-- one or more bare characters
abbrev pub is_bare_label : List ℕ → Bool
is_bare_label [] = false
is_bare_label (b ∷ bs) = list_all is_bare (b ∷ bs)

-- a byte as it stands between quotes: " \ LF and tab are escaped
abbrev pub escaped : ℕ → List ℕ
escaped b =
    cond (b == 34) (92 ∷ 34 ∷ []) (cond (b == 92) (92 ∷ 92 ∷ []) (cond (b == 10) (92 ∷ 110 ∷ []) (cond (b == 9) (92 ∷ 116 ∷ []) (b ∷ []))))

-- a label between quotes, with the escapes wherever they apply
abbrev pub quoted : List ℕ → List ℕ
quoted label = 34 ∷ flat_map escaped label ++ 34 ∷ []

-- the canonical spelling: bare where the label is a bare label, else quoted
abbrev pub spelling : List ℕ → List ℕ
spelling label = cond (is_bare_label label) label (quoted label)
