-- How texts are kept: their bytes one after another, and for each where it ends.
use Rattle.std.specs.Prelude.{◌≡◌, ℕ, zero, suc, ◌+◌, ◌<◌, ◌≤◌, ◌^◌, List, [], ◌∷◌, length, get_or, slice_range}
use Rattle.std.specs.List.{All, concat}
use Rattle.std.specs.Str.{IsUtf8}

-- the texts that end at these places, the first of which begins at a place
abbrev pub texts_from : List ℕ → ℕ → List ℕ → List (List ℕ)
texts_from bytes start [] = []
texts_from bytes start (end ∷ ends) = slice_range bytes start end ∷ texts_from bytes end ends

-- where texts end, the first of which begins at a place
abbrev pub ends_from : ℕ → List (List ℕ) → List ℕ
ends_from start [] = []
ends_from start (t ∷ ts) = (start + length t) ∷ ends_from (start + length t) ts

-- where the text at an index begins, the first of which begins at a place
abbrev pub begin_at : ℕ → List ℕ → ℕ → ℕ
begin_at start ends zero = start
begin_at start ends (suc i) = get_or ends i 0

-- what is kept is that of these texts
pub record KeepsTexts (bytes ends : List ℕ) (ts : List (List ℕ)) : Type 0 where
  pub bytes_are : bytes ≡ concat ts
  pub ends_are : ends ≡ ends_from 0 ts
  pub utf8 : ∥ All IsUtf8 ts ∥₁
  pub short : length bytes ≤ 4294967295

-- what is kept is that of the texts that it shows
abbrev pub AreKept : List ℕ → List ℕ → Type 0
AreKept bytes ends = KeepsTexts bytes ends (texts_from bytes 0 ends)

-- the text is shorter than 2^32
abbrev pub IsShort : List ℕ → Type 0
IsShort text = length text < 2 ^ 32
