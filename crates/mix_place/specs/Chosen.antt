-- The files of chosen sources: read one after another, accepted or refused.
use Rattle.std.specs.Prelude.{◌≡◌, ◌⊎◌, ◌<◌, ◌-◌, ℕ, Bool, true, IsTrue, List, Some, slice_get}
use Rattle.mix_tree.specs.Forest.{LabelledTree}
use Rattle.mix_io.specs.Views.{FilesView}
use Rattle.mix_catalog.specs.declared.source.SourceSpec.{SourceSpec}
use Rattle.mix_catalog.specs.Grammar.{file_of}
use Rattle.mix_place.specs.Documents.{StandsForNone, IsSourceDocument, is_file_of}
use Rattle.mix_place.specs.Reading.{IsFileBefore, IsFileFor}
use Rattle.mix_place.specs.Files.{IsRefusedLast}

-- the choice of all sources, by their numbers
abbrev pub every : ℕ → Bool
every s = true

-- the files of the chosen sources before a given number are all accepted; those of tables and of other machines' sources are not read
abbrev pub AreAccepted : FilesView → (ℕ → Bool) → List SourceSpec → ℕ → Type 0
AreAccepted files chosen sources n = (k : ℕ) (before : SourceSpec) → k < n → slice_get sources k ≡ Some before → IsTrue (chosen k) → is_file_of before.kind ≡ true
    → (t : LabelledTree) × IsSourceDocument files before t

-- the file of a chosen source is refused, those of all chosen sources before it are accepted, and nothing was read but given files, these and it
pub record IsChosenRefused (Before : List ℕ → Type 0) (old new : FilesView) (chosen : ℕ → Bool) (sources : List SourceSpec) (status : ℕ) (line : List ℕ) : Type 0 where
  pub number : ℕ
  pub spec : SourceSpec
  pub there : slice_get sources number ≡ Some spec
  pub read : IsTrue (chosen number)
  pub file : is_file_of spec.kind ≡ true
  pub earlier : AreAccepted old chosen sources number
  pub refused : IsRefusedLast (λ p. Before p ⊎ IsFileBefore chosen sources number p) (StandsForNone spec.kind) old new (file_of spec.kind) status line

-- the files of chosen sources that may be read: each where those of all chosen sources before it are accepted
abbrev pub ChosenMayRead : FilesView → (ℕ → Bool) → List SourceSpec → List ℕ → Type 0
ChosenMayRead files chosen sources path =
    (s : ℕ) × (spec : SourceSpec) × (slice_get sources s ≡ Some spec) × IsFileFor chosen s spec path × AreAccepted files chosen sources s
