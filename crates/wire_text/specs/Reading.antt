-- What a reader says of a text of bytes by a grammar, which is a set of texts.
use Rattle.std.specs.Prelude.{◌≡◌, ℕ, ◌+◌, ◌<◌, List, ◌++◌, length, take}

-- a text of the grammar begins so
abbrev pub Begins : (List ℕ → Type 0) → List ℕ → Type 0
Begins Is x = (y : List ℕ) × Is (x ++ y)

-- the first byte with which no text of the grammar goes on
pub record IsUnexpectedAt (Is : List ℕ → Type 0) (x : List ℕ) (at : ℕ) : Type 0 where
  pub inside : at < length x
  pub prefix : Begins Is (take at x)
  pub wrong : Begins Is (take (at + 1) x) → ⊥

-- a text of the grammar goes on from this one, which is none itself
pub record IsCutOff (Is : List ℕ → Type 0) (x : List ℕ) : Type 0 where
  pub prefix : Begins Is x
  pub none : Is x → ⊥

-- what is said of a text: that it is one of the grammar, that a byte is unexpected, so many bytes before the end, or that it is cut off
pub data Verdict : Type 0 where
  whole : Verdict
  unexpected : ℕ → Verdict
  ends : Verdict

-- the verdict is that of the text
abbrev pub Judges : (List ℕ → Type 0) → List ℕ → Verdict → Type 0
Judges Is x whole = Is x
Judges Is x (unexpected left) = (at : ℕ) × (at + left ≡ length x) × IsUnexpectedAt Is x at
Judges Is x ends = IsCutOff Is x

-- after these bytes the texts of one grammar are those of another
pub record Leads (Is : List ℕ → Type 0) (prefix : List ℕ) (IsRest : List ℕ → Type 0) : Type 0 where
  pub there : (x : List ℕ) → IsRest x → Is (prefix ++ x)
  pub back : (x : List ℕ) → Is (prefix ++ x) → IsRest x
