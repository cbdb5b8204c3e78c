-- What can stand at a place of a view's text.
use Rattle.std.specs.Prelude.{◌≡◌, ◌⊎◌, ◌<◌, ◌≤◌, ◌-◌, ◌==◌, ℕ, Bool, true, false, cond, List, [], ◌∷◌, ◌++◌, length, take, get_or, codes, vec_len, IsUtf8}
use Rattle.xmas_tokens.specs.Lexical.{is_letter}
use Rattle.view_continuations.specs.declared.candidate.TheConstants.{TOKENS}
use Rattle.view_continuations.specs.declared.candidate.Candidate.{Candidate}
use Rattle.view_continuations.specs.declared.candidate.Candidate.TheVariants.{LabelEnd, Escape}
use Rattle.view_continuations.specs.declared.expected.Expected.{Expected}
use Rattle.view_continuations.specs.Fits.{CanStand, GoesOn, Kept, last_byte}

-- whether a text ends with a backslash
abbrev pub ends_backslash : List ℕ → Bool
ends_backslash text = last_byte text == 92

-- a front ends inside a label: a text of the grammar goes on with a sign that stands nowhere else
abbrev pub IsInsideLabel : List ℕ → Type 0
IsInsideLabel front = GoesOn (front ++ codes ";")

-- the candidates that are tried after a front: inside a label its end, after a backslash there what is escaped, and else every token
abbrev pub AreTried : List ℕ → List Candidate → Type 0
AreTried front tried =
    (IsInsideLabel front × (tried ≡ LabelEnd ∷ [])) ⊎ ((¬ IsInsideLabel front) × (tried ≡ cond (ends_backslash front) (Escape ∷ []) TOKENS.now))

-- candidates are those that were tried and can stand after a front
abbrev pub StandAfter : List ℕ → List Candidate → Type 0
StandAfter front candidates = (tried : List Candidate) × AreTried front tried × Kept (CanStand front) tried candidates

-- candidates are those that can stand at their place of a text
pub record AreExpected (text : List ℕ) (e : Expected) : Type 0 where
  pub inside : e.at ≤ length text
  pub stand : IsUtf8 (take e.at text) → StandAfter (take e.at text) e.candidates.items

-- the word that ends at a place of a text begins here: letters alone stand from here to the place, and none right before
pub record IsLastWord (text : List ℕ) (at begin : ℕ) : Type 0 where
  pub before : begin ≤ at
  pub first : (begin ≡ 0) ⊎ (is_letter (get_or text (begin - 1) 0) ≡ false)
  pub letters : (k : ℕ) → begin ≤ k → k < at → is_letter (get_or text k 0) ≡ true

-- nothing is expected at a place of a text
abbrev pub NothingExpected : List ℕ → ℕ → Type 0
NothingExpected text at = (e : Expected) × AreExpected text e × (e.at ≡ at) × (vec_len e.candidates ≡ 0)

-- the place of what is expected: the given one, or, where nothing is expected there, that of the word before it
abbrev pub IsAskedAt : List ℕ → ℕ → ℕ → Type 0
IsAskedAt text at place = (place ≡ at) ⊎ (NothingExpected text at × IsLastWord text at place)
