-- What reading answers: the tree that a text spells, or the document of it.
use Rattle.std.specs.Prelude.{◌≡◌, ℕ, ◌+◌, ◌<◌, List, length, take, Result, Ok, Err}
use Rattle.std.specs.Str.{IsUtf8}
use Rattle.std.specs.Str.Lossy.{utf8_valid_len}
use Rattle.mix_base.specs.Reading.{IsPrefix, IsUnexpected, IsCut}
use Rattle.mix_tree.specs.Forest.{LabelledTree}
use Rattle.document_store.specs.Laid.{LaidNode, IsDocument}
use Rattle.bracket_text.specs.Grammar.{Spells, SpellsShallow}
use Rattle.bracket_text.specs.declared.fault.BracketFault.{BracketFault}
use Rattle.bracket_text.specs.declared.fault.BracketFault.TheVariants.{NotUtf8, Unexpected, TooDeep, Ends, OutOfMemory}

-- the first byte after which each tree has more than 200 levels, though trees still go on: the label of the first one at level 201
-- begins there
pub record IsTooDeep (x : List ℕ) (at : ℕ) : Type 0 where
  pub inside : at < length x
  pub prefix : IsPrefix SpellsShallow (take at x)
  pub goes_on : IsPrefix Spells (take (at + 1) x)
  pub deep : IsPrefix SpellsShallow (take (at + 1) x) → ⊥

-- the fault is that of the text
abbrev pub Refuses : List ℕ → BracketFault → Type 0
Refuses x (NotUtf8 at) = (¬ IsUtf8 x) × (at ≡ utf8_valid_len x)
Refuses x (Unexpected at) = IsUtf8 x × IsPrefix SpellsShallow (take at x) × IsUnexpected Spells x at
Refuses x (TooDeep at) = IsUtf8 x × IsTooDeep x at
Refuses x Ends = IsUtf8 x × IsPrefix SpellsShallow x × IsCut Spells x
Refuses x OutOfMemory = Unit {0}

-- the tree that the text spells, or why there is none
abbrev pub Answers : List ℕ → Result LabelledTree BracketFault → Type 0
Answers x (Ok t) = IsUtf8 x × SpellsShallow x t
Answers x (Err e) = Refuses x e

-- the fault says that memory ran out
abbrev pub IsWantOfMemory : BracketFault → Type 0
IsWantOfMemory (NotUtf8 at) = ⊥
IsWantOfMemory (Unexpected at) = ⊥
IsWantOfMemory (TooDeep at) = ⊥
IsWantOfMemory Ends = ⊥
IsWantOfMemory OutOfMemory = Unit {0}

-- the result is this tree, unless memory ran out
abbrev pub IsTree : Result LabelledTree BracketFault → LabelledTree → Type 0
IsTree (Ok u) t = u ≡ t
IsTree (Err e) t = IsWantOfMemory e

-- the document of the tree that the text spells, or why there is none
abbrev pub AnswersDocument : List ℕ → Result (List LaidNode) BracketFault → Type 0
AnswersDocument x (Ok d) = (t : LabelledTree) × IsDocument d t × IsUtf8 x × SpellsShallow x t
AnswersDocument x (Err e) = Refuses x e

-- the result is the document of this tree, unless memory ran out
abbrev pub IsDocumentOf : Result (List LaidNode) BracketFault → LabelledTree → Type 0
IsDocumentOf (Ok d) t = IsDocument d t
IsDocumentOf (Err e) t = IsWantOfMemory e
