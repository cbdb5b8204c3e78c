-- What was read of files, and which files are those of sources.
use Rattle.std.specs.Prelude.{◌≡◌, ◌⊎◌, ◌<◌, ℕ, Bool, true, IsTrue, List, Some, slice_get}
use Rattle.mix_io.specs.Views.{FilesView}
use Rattle.mix_catalog.specs.declared.source.SourceSpec.{SourceSpec}
use Rattle.mix_catalog.specs.Grammar.{file_of}
use Rattle.mix_place.specs.Documents.{is_file_of}

-- of no path but those that a given property lets be read was more read than before
abbrev pub ReadsAmong : (List ℕ → Type 0) → FilesView → FilesView → Type 0
ReadsAmong May old new = (path : List ℕ) → ¬ May path → new.furthest path ≡ old.furthest path

-- a path is one of two
abbrev pub IsEither : List ℕ → List ℕ → List ℕ → Type 0
IsEither one other path = (path ≡ one) ⊎ (path ≡ other)

-- a path is that of a source's file, which is read whole: those of tables and of other machines' sources are not
abbrev pub IsWholeFile : SourceSpec → List ℕ → Type 0
IsWholeFile spec path = (is_file_of spec.kind ≡ true) × (path ≡ file_of spec.kind)

-- a path is that of the file of a chosen source, where that is read whole
abbrev pub IsFileFor : (ℕ → Bool) → ℕ → SourceSpec → List ℕ → Type 0
IsFileFor chosen s spec path = IsTrue (chosen s) × IsWholeFile spec path

-- a path is that of the file of a chosen source before a given number, where that is read whole
abbrev pub IsFileBefore : (ℕ → Bool) → List SourceSpec → ℕ → List ℕ → Type 0
IsFileBefore chosen sources n path = (k : ℕ) × (spec : SourceSpec) × (k < n) × (slice_get sources k ≡ Some spec) × IsFileFor chosen k spec path
