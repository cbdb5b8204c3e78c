-- What is said of a refused catalog.
use Rattle.std.specs.Prelude.{◌≡◌, ◌⊎◌, ◌<◌, ◌+◌, ◌==◌, ℕ, List, ◌++◌, length, take, count_by, codes}
use Rattle.std.specs.List.{flat_map}
use Rattle.catalog_continuations.specs.declared.form_word.FormWord.{FormWord}
use Rattle.catalog_continuations.specs.Next.{AreNext}
use Rattle.catalog_continuations.specs.Words.{name_of}
use Rattle.refusal_words.specs.Listing.{item_line}
use Rattle.text_places.specs.Lines.{HasLineBegin}
use Rattle.text_places.specs.Shown.{ShowsPlace}
use Rattle.mix_catalog.specs.declared.fault.CatalogFault.{CatalogFault}
use Rattle.mix_catalog.specs.declared.fault.CatalogFault.TheVariants.{Line, Chunk, Columns, ColumnTwice, NameTwice, TooMany, OutOfMemory}

-- the number of the line that a fault of a catalog names, and of the first where it names none
abbrev pub line_of : CatalogFault → ℕ
line_of (Line n) = n
line_of (Chunk n) = n
line_of (Columns n) = n
line_of (ColumnTwice n) = n
line_of (NameTwice n) = n
line_of (TooMany n) = n
line_of OutOfMemory = 1

-- the number of the line that a place of a text stands in: one more than lines end before the place
abbrev pub line_at : List ℕ → ℕ → ℕ
line_at text at = count_by (λ b. b == 10) (take at text) + 1

-- a text has no line of a number: the number is 0, or the text ends in an earlier line
abbrev pub LacksLine : List ℕ → ℕ → Type 0
LacksLine text number = (number ≡ 0) ⊎ (line_at text (length text) < number)

-- the line of a number begins at a place
abbrev pub BeginsLine : List ℕ → ℕ → ℕ → Type 0
BeginsLine text number at = (line_at text at ≡ number) × HasLineBegin text at at

-- a place stands in the line that a fault names, and begins it where the line fits a form
abbrev pub IsFaultPlace : List ℕ → CatalogFault → ℕ → Type 0
IsFaultPlace text (Line n) at = line_at text at ≡ n
IsFaultPlace text (Chunk n) at = BeginsLine text n at
IsFaultPlace text (Columns n) at = BeginsLine text n at
IsFaultPlace text (ColumnTwice n) at = BeginsLine text n at
IsFaultPlace text (NameTwice n) at = BeginsLine text n at
IsFaultPlace text (TooMany n) at = BeginsLine text n at
IsFaultPlace text OutOfMemory at = BeginsLine text 1 at

-- a place of a kind is shown of a text, and after it stands a hint
abbrev pub ExplainsAt : List ℕ → (ℕ → Type 0) → List ℕ → Type 0
ExplainsAt text IsPlace words = (at : ℕ) × IsPlace at × (shown : List ℕ) × ShowsPlace text at shown × (hint : List ℕ) × (words ≡ shown ++ hint)

-- words explain a fault of a catalog's text: a place in the line that it names is shown, or some place where the text has no such line
abbrev pub ExplainsCatalog : List ℕ → CatalogFault → List ℕ → Type 0
ExplainsCatalog text fault words = ExplainsAt text (λ at. LacksLine text (line_of fault) ⊎ IsFaultPlace text fault at) words

-- the line of the name of a word
abbrev pub word_line : FormWord → List ℕ
word_line w = item_line (name_of w)

-- a hint lists the words that can stand next in a line behind a front
abbrev pub ListsNext : List ℕ → List ℕ → Type 0
ListsNext front hint = (words : List FormWord) × AreNext front words × (hint ≡ codes "here could stand:\n" ++ flat_map word_line words)
