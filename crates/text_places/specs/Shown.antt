-- What is shown of a place of a text.
use Rattle.std.specs.Prelude.{◌≡◌, ◌==◌, ◌||◌, ℕ, cond, nat_lt, List, ◌++◌, map, filter, slice_range, codes}
use Rattle.std.specs.Fmt.{decimal}
use Rattle.text_places.specs.declared.place.TextPlace.{TextPlace}
use Rattle.text_places.specs.Lines.{IsPlaceOf, begins_char}

-- how a byte of a line is shown: a tab as a space, any other control byte as a question mark
abbrev pub shown_byte : ℕ → ℕ
shown_byte b = cond (b == 9) 32 (cond (nat_lt b 32 || b == 127) 63 b)

-- a blank for each character of bytes
abbrev pub blanks_for : List ℕ → List ℕ
blanks_for bytes = map (λ b. 32) (filter begins_char bytes)

-- a place in words, its line, and a mark below the place
abbrev pub shown_place : List ℕ → ℕ → TextPlace → List ℕ
shown_place text at p =
    codes "line " ++ decimal p.line ++ codes ", column " ++ decimal p.column ++ codes ":\n"
    ++ map shown_byte (slice_range text p.begin p.end) ++ codes "\n"
    ++ blanks_for (slice_range text p.begin at) ++ codes "^\n"

-- bytes show a place of a text
abbrev pub ShowsPlace : List ℕ → ℕ → List ℕ → Type 0
ShowsPlace text at shown = (p : TextPlace) × IsPlaceOf text at p × (shown ≡ shown_place text at p)
