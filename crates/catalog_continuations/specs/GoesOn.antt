-- With what a catalog's line goes on.
use Rattle.std.specs.Prelude.{◌≢◌, ◌⊎◌, ◌<◌, ◌≤◌, ℕ, Bool, true, false, IsTrue, List, ◌++◌, length, drop, get_or, codes}
use Rattle.std.specs.List.{flat_map}
use Rattle.mix_words.specs.Words.{ends_word}
use Rattle.mix_words.specs.Lines.{is_passed}
use Rattle.mix_catalog.specs.declared.source.SourceSpec.{SourceSpec}
use Rattle.mix_catalog.specs.Grammar.{Spells}
use Rattle.catalog_continuations.specs.declared.form_word.FormWord.{FormWord}
use Rattle.catalog_continuations.specs.declared.line_form.LineForm.{LineForm}
use Rattle.catalog_continuations.specs.Forms.{words_in}
use Rattle.catalog_continuations.specs.Words.{spelling_of}

-- no LF stands in a text
abbrev pub IsOneLine : List ℕ → Type 0
IsOneLine text = (k : ℕ) → k < length text → get_or text k 0 ≢ 10

-- a text is a line that a catalog may have: it is passed over, or it spells a source
abbrev pub IsLine : List ℕ → Type 0
IsLine line = IsTrue (is_passed line) ⊎ ((s : SourceSpec) × Spells line s)

-- some line that a catalog may have begins with a front, and a blank or nothing stands there behind it
pub record GoesOn (front : List ℕ) : Type 0 where
  pub rest : List ℕ
  pub apart : IsTrue (ends_word rest)
  pub line : IsLine (front ++ rest)

-- a word in its spelling, and a blank
abbrev pub word_text : FormWord → List ℕ
word_text w = spelling_of w ++ codes " "

-- words in their spellings, a blank after each
abbrev pub spelled : List FormWord → List ℕ
spelled words = flat_map word_text words

-- a front and then words in their spellings are a line; where the front ends inside a label between quotes, a blank and a quote end it first
abbrev pub GoesOnWith : List ℕ → List FormWord → Type 0
GoesOnWith front words = IsLine (front ++ (codes " " ++ spelled words)) ⊎ IsLine (front ++ (codes " \" " ++ spelled words))

-- a front and then the last words of a form are a line
abbrev pub FitsForm : List ℕ → LineForm → Type 0
FitsForm front form = (passed : ℕ) × (passed ≤ length (words_in form)) × GoesOnWith front (drop passed (words_in form))

-- a front and then the last words of some form are a line
abbrev pub Fits : List ℕ → Type 0
Fits front = (form : LineForm) × FitsForm front form

-- some line that a catalog may have begins with a front with which the last words of a form are a line
abbrev pub FittingGoOn : Type 0
FittingGoOn = (front : List ℕ) → Fits front → GoesOn front

-- whether a claim holds is told
abbrev pub Tells : Type 0 → Bool → Type 0
Tells Claim true = Claim
Tells Claim false = ¬ Claim
