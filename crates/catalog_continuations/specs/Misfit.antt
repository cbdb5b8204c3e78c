-- The first word of a line with which no line of a form goes on.
use Rattle.std.specs.Prelude.{◌≡◌, ◌⊎◌, ◌<◌, ◌≤◌, ℕ, true, false, List, length, take, get_or, Some, None}
use Rattle.mix_words.specs.Words.{is_blank}
use Rattle.mix_words.specs.Places.{place_of_word}
use Rattle.catalog_continuations.specs.GoesOn.{Fits}

-- a word that begins at a place of a line ends here: no blank stands from there to here, and the end of the line or a blank does here
pub record IsWordEnd (line : List ℕ) (begin end : ℕ) : Type 0 where
  pub after : begin ≤ end
  pub inside : end ≤ length line
  pub bytes : (k : ℕ) → begin ≤ k → k < end → is_blank (get_or line k 0) ≡ false
  pub last : (end ≡ length line) ⊎ (is_blank (get_or line end 0) ≡ true)

-- up to the end of its word at a place, a line and then the last words of some form are a line
abbrev pub FitsAt : List ℕ → ℕ → Type 0
FitsAt line begin = (end : ℕ) × IsWordEnd line begin end × Fits (take end line)

-- up to the end of its word at a place, a line and then the last words of a form are a line for no form
abbrev pub MisfitsAt : List ℕ → ℕ → Type 0
MisfitsAt line begin = (end : ℕ) × IsWordEnd line begin end × ¬ Fits (take end line)

-- each of the first words of a line, so many, fits
abbrev pub FirstFit : List ℕ → ℕ → Type 0
FirstFit line count = (k begin : ℕ) → k < count → place_of_word k line ≡ Some begin → FitsAt line begin

-- the end of a line, each word of which fits, or each of its first 32
abbrev pub IsWholeFit : List ℕ → ℕ → ℕ → Type 0
IsWholeFit line count at = (at ≡ length line) × ((count ≡ 32) ⊎ (place_of_word count line ≡ None))

-- the first of a line's first 32 words that misfits begins at a place, or, where each of them fits, the line ends there
pub record IsMisfit (line : List ℕ) (at : ℕ) : Type 0 where
  pub count : ℕ
  pub few : count ≤ 32
  pub before : FirstFit line count
  pub inside : at ≤ length line
  pub here : IsWholeFit line count at ⊎ ((place_of_word count line ≡ Some at) × MisfitsAt line at)
