-- With what the text of a view goes on.
use Rattle.std.specs.Prelude.{◌≡◌, ◌⊎◌, ◌-◌, ℕ, Bool, true, false, ◌&&◌, List, [], ◌∷◌, ◌++◌, length, get_or, Option, Some, None}
use Rattle.mix_base.specs.Reading.{IsPrefix}
use Rattle.xmas_tokens.specs.Lexical.{is_word_byte}
use Rattle.xmas_text.specs.Parsed.{RuleForm}
use Rattle.xmas_text.specs.Results.{Spells}
use Rattle.view_continuations.specs.declared.candidate.Candidate.{Candidate}
use Rattle.view_continuations.specs.Candidates.{begins_word, spelling_of}

-- the text of some rule begins so
abbrev pub GoesOn : List ℕ → Type 0
GoesOn text = IsPrefix Spells text

-- the text is that of a rule
abbrev pub IsWhole : List ℕ → Type 0
IsWhole text = (v : RuleForm) × Spells text v

-- the last byte of a text, or 0
abbrev pub last_byte : List ℕ → ℕ
last_byte text = get_or text (length text - 1) 0

-- whether a text ends with a letter, a digit or _
abbrev pub ends_word : List ℕ → Bool
ends_word text = is_word_byte (last_byte text)

-- the text of some rule begins with a front and a spelling right after it, which isn't one word with what stands before it
abbrev pub FitsAtOnce : List ℕ → List ℕ → Bool → Type 0
FitsAtOnce front spelling joins = (joins ≡ false) × GoesOn (front ++ spelling)

-- the text of some rule begins with a front, a blank and a spelling
abbrev pub FitsAfterBlank : List ℕ → List ℕ → Type 0
FitsAfterBlank front spelling = GoesOn (front ++ 32 ∷ spelling)

-- the text of some rule begins with a front and a spelling after it, or with a blank between them
abbrev pub FitsSpelled : List ℕ → List ℕ → Bool → Type 0
FitsSpelled front spelling joins = FitsAtOnce front spelling joins ⊎ FitsAfterBlank front spelling

-- a candidate of a spelling can stand after the front of a view's text, or, without one, the front is a whole view
abbrev pub StandsSpelled : List ℕ → Option (List ℕ) → Bool → Type 0
StandsSpelled front None joins = IsWhole front
StandsSpelled front (Some spelling) joins = FitsSpelled front spelling joins

-- a candidate can stand after the front of a view's text
abbrev pub CanStand : List ℕ → Candidate → Type 0
CanStand front c = StandsSpelled front (spelling_of c) (ends_word front && begins_word c)

-- of given things those that have a property are kept, in their order
pub data Kept {X : Type 0} (P : X → Type 0) : List X → List X → Type 0 where
  none : Kept P [] []
  with_last : {xs ys : List X} {x : X} → Kept P xs ys → P x → Kept P (xs ++ x ∷ []) (ys ++ x ∷ [])
  without_last : {xs ys : List X} {x : X} → Kept P xs ys → ¬ P x → Kept P (xs ++ x ∷ []) ys

-- whether a claim holds is told
abbrev pub Tells : Type 0 → Bool → Type 0
Tells Claim true = Claim
Tells Claim false = ¬ Claim
