-- The words of a text that has two to four of them.
use Rattle.std.specs.Prelude.{◌≡◌, ◌⊎◌, ℕ, ◌<◌, List, [], ◌∷◌, None, length}
use Rattle.mix_script.specs.Lines.{client_named}
use Rattle.mix_script.specs.declared.words.LineWords.{LineWords}
use Rattle.mix_script.specs.declared.words.LineWords.TheVariants.{Two, Three, Four, Other}

-- words are these two, three or four, or there are fewer than two or more than four of them
abbrev pub AreWords : List (List ℕ) → LineWords → Type 0
AreWords words (Two a b) = words ≡ a.now ∷ b.now ∷ []
AreWords words (Three a b c) = words ≡ a.now ∷ b.now ∷ c.now ∷ []
AreWords words (Four a b c d) = words ≡ a.now ∷ b.now ∷ c.now ∷ d.now ∷ []
AreWords words Other = (length words < 2) ⊎ (4 < length words)

-- the first of the words names no client
abbrev pub NoClientFirst : List (List ℕ) → Type 0
NoClientFirst [] = Unit {0}
NoClientFirst (word ∷ words) = client_named word ≡ None
