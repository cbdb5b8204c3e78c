-- The lines of a text, and which of them are passed over.
use Rattle.std.specs.Prelude.{ℕ, Bool, true, false, cond, ◌&&◌, ◌==◌, List, [], ◌∷◌}
use Rattle.mix_words.specs.Words.{is_blank, with_first}

-- whether a text begins with LF
abbrev pub begins_with_lf : List ℕ → Bool
begins_with_lf [] = false
begins_with_lf (b ∷ bs) = b == 10

-- LF ends a line; a CR right before LF is dropped; any other byte is in the first of the lines
abbrev pub lines_of : List ℕ → List (List ℕ)
lines_of [] = []
lines_of (b ∷ bs) = cond (b == 10) ([] ∷ lines_of bs) (cond (b == 13 && begins_with_lf bs) (lines_of bs) (with_first b (lines_of bs)))

-- a line without a CR at its end
abbrev pub without_cr : List ℕ → List ℕ
without_cr [] = []
without_cr (b ∷ []) = cond (b == 13) [] (b ∷ [])
without_cr (b ∷ c ∷ bs) = b ∷ without_cr (c ∷ bs)

-- a line is passed over where it has only blanks, or # is the first byte after them
abbrev pub is_passed : List ℕ → Bool
is_passed [] = true
is_passed (b ∷ bs) = cond (is_blank b) (is_passed bs) (b == 35)
