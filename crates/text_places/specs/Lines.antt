-- The line of a text in which a place stands, and the numbers of that line and of the place's column.
use Rattle.std.specs.Prelude.{◌≡◌, ◌≢◌, ◌⊎◌, ◌<◌, ◌≤◌, ◌+◌, ◌-◌, ◌==◌, ◌&&◌, ℕ, Bool, not, nat_le, nat_lt, List, length, take, slice_range, get_or, count_by}
use Rattle.text_places.specs.declared.place.TextPlace.{TextPlace}

-- whether a byte begins a character of UTF-8: the bytes from 128 to 191 go on with one
abbrev pub begins_char : ℕ → Bool
begins_char b = not (nat_le 128 b && nat_lt b 192)

-- no LF stands in a text from one place up to another
abbrev pub IsWithoutLf : List ℕ → ℕ → ℕ → Type 0
IsWithoutLf text from to = (k : ℕ) → from ≤ k → k < to → get_or text k 0 ≢ 10

-- the line of a place begins here: at the beginning of the text or right after an LF, and none stands from here to the place
pub record HasLineBegin (text : List ℕ) (at begin : ℕ) : Type 0 where
  pub before : begin ≤ at
  pub first : (begin ≡ 0) ⊎ (get_or text (begin - 1) 0 ≡ 10)
  pub alone : IsWithoutLf text begin at

-- the line of a place ends here: at an LF or at the end of the text, and none stands from the place to here
pub record HasLineEnd (text : List ℕ) (at end : ℕ) : Type 0 where
  pub after : at ≤ end
  pub inside : end ≤ length text
  pub last : (end ≡ length text) ⊎ (get_or text end 0 ≡ 10)
  pub alone : IsWithoutLf text at end

-- the line of a place, its number and the number of the place's column: one more than lines end before the place, and than characters begin in the line
-- before it
pub record IsPlaceOf (text : List ℕ) (at : ℕ) (p : TextPlace) : Type 0 where
  pub begins : HasLineBegin text at p.begin
  pub ends : HasLineEnd text at p.end
  pub line : p.line ≡ count_by (λ b. b == 10) (take at text) + 1
  pub column : p.column ≡ count_by begins_char (slice_range text p.begin at) + 1
