-- The sources of a catalog, line by line.
use Rattle.std.specs.Prelude.{◌≡◌, ◌⊎◌, ◌<◌, ◌≤◌, ◌+◌, ℕ, Bool, true, false, ◌||◌, ◌&&◌, not, IsTrue, IsSome, List, [], ◌∷◌, ◌++◌, length, take, get_or, position, slice_get, Option, Some, None, Result, Ok, Err}
use Rattle.std.specs.List.{list_any, list_all, filter}
use Rattle.std.specs.Str.{bytes_eq}
use Rattle.mix_tree.specs.Names.{IsName}
use Rattle.mix_words.specs.Lines.{lines_of, is_passed}
use Rattle.mix_catalog.specs.declared.source.SourceSpec.{SourceSpec}
use Rattle.mix_catalog.specs.declared.fault.CatalogFault.{CatalogFault}
use Rattle.mix_catalog.specs.declared.fault.CatalogFault.TheVariants.{Line, Chunk, Columns, ColumnTwice, NameTwice, TooMany, OutOfMemory}
use Rattle.mix_catalog.specs.Columns.{are_apart}
use Rattle.mix_catalog.specs.Grammar.{columns_of, is_view, Spells}

-- the number of the source of a name: its place in the list, from 0
abbrev pub source_named : List SourceSpec → List ℕ → Option ℕ
source_named sources name = position (λ s. bytes_eq name s.name) sources

-- each source has a name, and is found by it at its own place
abbrev pub AreNumbered : List SourceSpec → Type 0
AreNumbered sources = (i : ℕ) (s : SourceSpec) → slice_get sources i ≡ Some s → IsName s.name × (source_named sources s.name ≡ Some i)

-- the chunk lies from 1 to 1000
abbrev pub IsChunk : ℕ → Type 0
IsChunk n = (1 ≤ n) × (n ≤ 1000)

-- a list of columns has at most 200 of them, none twice
abbrev pub AreColumns : List (List ℕ) → Type 0
AreColumns columns = (length columns ≤ 200) × (are_apart columns ≡ true)

-- a source that may stand after these: its chunk lies in the range, it has at most 200 columns, none twice, its name is new, and
-- there are fewer than 32
pub record IsTakenBy (before : List SourceSpec) (s : SourceSpec) : Type 0 where
  pub chunk : IsChunk s.chunk
  pub columns : AreColumns (columns_of s.kind)
  pub name : source_named before s.name ≡ None
  pub room : length before < 32

-- whether one of the sources is a view
abbrev pub has_view : List SourceSpec → Bool
has_view sources = list_any (λ s. is_view s.kind) sources

-- whether all views stand after the others
abbrev pub views_last : List SourceSpec → Bool
views_last [] = true
views_last (s ∷ sources) = (not (is_view s.kind) || list_all (λ t. is_view t.kind) sources) && views_last sources

-- the sources that are no views
abbrev pub base_of : List SourceSpec → List SourceSpec
base_of sources = filter (λ s. not (is_view s.kind)) sources

-- a source may stand after these: it is a view, or none of them is
abbrev pub IsInPlace : List SourceSpec → SourceSpec → Type 0
IsInPlace before s = (is_view s.kind || not (has_view before)) ≡ true

-- the line spells a source that may stand after these
abbrev pub Fits : List SourceSpec → List ℕ → SourceSpec → Type 0
Fits before line s = Spells line s × IsInPlace before s

-- the line spells no source that may stand after these
abbrev pub FitsNone : List SourceSpec → List ℕ → Type 0
FitsNone before line = (s : SourceSpec) → Fits before line s → ⊥

-- the sources after a line: those before it where it is passed over, and else one more
abbrev pub Adds : List SourceSpec → List ℕ → List SourceSpec → Type 0
Adds before line after =
    (IsTrue (is_passed line) × (after ≡ before)) ⊎ ((is_passed line ≡ false) × (s : SourceSpec) × Fits before line s × IsTakenBy before s × (after ≡ before ++ s ∷ []))

-- lines after these sources are accepted, and these are the sources in the end
abbrev pub Accepts : List SourceSpec → List (List ℕ) → List SourceSpec → Type 0
Accepts before [] sources = sources ≡ before
Accepts before (line ∷ lines) sources = (after : List SourceSpec) × Adds before line after × Accepts after lines sources

-- the text is a catalog of these sources
abbrev pub IsCatalog : List ℕ → List SourceSpec → Type 0
IsCatalog text sources = Accepts [] (lines_of text) sources

-- the source is spelled in the line of this number but not taken, the fault being the first that stands
abbrev pub RefusesSource : List SourceSpec → SourceSpec → ℕ → CatalogFault → Type 0
RefusesSource before s number (Line n) = ⊥
RefusesSource before s number (Chunk n) = (n ≡ number) × (IsChunk s.chunk → ⊥)
RefusesSource before s number (Columns n) = (n ≡ number) × IsChunk s.chunk × (200 < length (columns_of s.kind))
RefusesSource before s number (ColumnTwice n) = (n ≡ number) × IsChunk s.chunk × (length (columns_of s.kind) ≤ 200) × (are_apart (columns_of s.kind) ≡ false)
RefusesSource before s number (NameTwice n) = (n ≡ number) × IsChunk s.chunk × AreColumns (columns_of s.kind) × IsSome (source_named before s.name)
RefusesSource before s number (TooMany n) = (n ≡ number) × IsChunk s.chunk × AreColumns (columns_of s.kind) × (source_named before s.name ≡ None) × (32 ≤ length before)
RefusesSource before s number OutOfMemory = Unit {0}

-- the line of this number, which isn't passed over, spells a source that may stand there and isn't taken
abbrev pub IsNotTaken : List SourceSpec → List ℕ → ℕ → CatalogFault → Type 0
IsNotTaken before line number e = (is_passed line ≡ false) × (s : SourceSpec) × Fits before line s × RefusesSource before s number e

-- the fault of the line of this number after these sources
abbrev pub IsFault : List SourceSpec → List ℕ → ℕ → CatalogFault → Type 0
IsFault before line number (Line n) = (n ≡ number) × (is_passed line ≡ false) × FitsNone before line
IsFault before line number (Chunk n) = IsNotTaken before line number (Chunk n)
IsFault before line number (Columns n) = IsNotTaken before line number (Columns n)
IsFault before line number (ColumnTwice n) = IsNotTaken before line number (ColumnTwice n)
IsFault before line number (NameTwice n) = IsNotTaken before line number (NameTwice n)
IsFault before line number (TooMany n) = IsNotTaken before line number (TooMany n)
IsFault before line number OutOfMemory = Unit {0}

-- the lines before the one at the place are accepted, and it has this fault; lines are numbered from 1
pub record IsFirstFault (lines : List (List ℕ)) (e : CatalogFault) : Type 0 where
  pub place : ℕ
  pub before : List SourceSpec
  pub inside : place < length lines
  pub accepted : Accepts [] (take place lines) before
  pub fault : IsFault before (get_or lines place []) (place + 1) e

-- why the text is no catalog
abbrev pub Refuses : List ℕ → CatalogFault → Type 0
Refuses text (Line n) = IsFirstFault (lines_of text) (Line n)
Refuses text (Chunk n) = IsFirstFault (lines_of text) (Chunk n)
Refuses text (Columns n) = IsFirstFault (lines_of text) (Columns n)
Refuses text (ColumnTwice n) = IsFirstFault (lines_of text) (ColumnTwice n)
Refuses text (NameTwice n) = IsFirstFault (lines_of text) (NameTwice n)
Refuses text (TooMany n) = IsFirstFault (lines_of text) (TooMany n)
Refuses text OutOfMemory = Unit {0}

-- the sources of the text, or why it is no catalog
abbrev pub Answers : List ℕ → Result (List SourceSpec) CatalogFault → Type 0
Answers text (Ok sources) = IsCatalog text sources
Answers text (Err e) = Refuses text e

-- the fault says that memory ran out
abbrev pub IsWantOfMemory : CatalogFault → Type 0
IsWantOfMemory (Line n) = ⊥
IsWantOfMemory (Chunk n) = ⊥
IsWantOfMemory (Columns n) = ⊥
IsWantOfMemory (ColumnTwice n) = ⊥
IsWantOfMemory (NameTwice n) = ⊥
IsWantOfMemory (TooMany n) = ⊥
IsWantOfMemory OutOfMemory = Unit {0}

-- the answers are the same, or want of memory is one of them
abbrev pub SameAnswer : Result (List SourceSpec) CatalogFault → Result (List SourceSpec) CatalogFault → Type 0
SameAnswer (Ok sources) (Ok others) = sources ≡ others
SameAnswer (Ok sources) (Err f) = IsWantOfMemory f
SameAnswer (Err e) (Ok others) = IsWantOfMemory e
SameAnswer (Err e) (Err f) = (e ≡ f) ⊎ (IsWantOfMemory e ⊎ IsWantOfMemory f)
