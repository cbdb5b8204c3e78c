-- What is read of sources one after another is what may be read of them.
use Rattle.std.proofs.Common.{◌≡◌, ◌<◌, ℕ, Bool, List, Some, refl, arith, slice_get}
use Rattle.mix_io.specs.Views.{FilesView, KeepsFiles}
use Rattle.mix_catalog.specs.declared.source.SourceSpec.{SourceSpec}
use Rattle.mix_catalog.specs.Grammar.{file_of}
use Rattle.mix_mount.specs.declared.mount.Mount.{Mount}
use Rattle.mix_place.specs.Chosen.{AreAccepted, every, ChosenMayRead}
use Rattle.mix_place.specs.Documents.{StandsFor}
use Rattle.mix_place.specs.Reading.{IsFileBefore, IsFileFor, IsWholeFile, ReadsAmong}
use Rattle.mix_place.proofs.MountLaws.{AreMountedTo, document_before}
use Rattle.mix_place.proofs.ReadingLaws.{reads_twice, reads_wider}

-- the sources before a number were mounted, so their files are accepted
pub mounted_accepted : (files : FilesView) (chosen : ℕ → Bool) (sources : List SourceSpec) (n : ℕ) (docs : List Mount) → AreMountedTo files chosen sources n docs → AreAccepted files chosen sources n
mounted_accepted files chosen sources n docs h = λ k before less at is file. let f = ((h.each k before less at).read is).file file in (f.tree, f.document_is)

-- where the files of the sources before a number alone were read, and they were mounted, sources were read as allowed
pub mounted_reads : (old new : FilesView) (chosen : ℕ → Bool) (sources : List SourceSpec) (n : ℕ) (docs : List Mount) → AreMountedTo old chosen sources n docs
    → ReadsAmong (IsFileBefore chosen sources n) old new → ReadsAmong (ChosenMayRead old chosen sources) old new
mounted_reads old new chosen sources n docs h reads =
    reads_wider (IsFileBefore chosen sources n) (ChosenMayRead old chosen sources) old new (λ path is. (is.0, is.1, is.3, is.4, accepted is.0 is.2)) reads
  where
    accepted : (k : ℕ) → k < n → AreAccepted old chosen sources k
    accepted k less = λ j before below. mounted_accepted old chosen sources n docs h j before (omega (arith, less, below))

-- where the files of the sources before it alone were read and then the next source's file, sources were read as allowed
pub source_reads : (old mid new : FilesView) (chosen : ℕ → Bool) (sources : List SourceSpec) (n : ℕ) (docs : List Mount) (spec : SourceSpec) → AreMountedTo old chosen sources n docs
    → slice_get sources n ≡ Some spec → ReadsAmong (IsFileBefore chosen sources n) old mid → ReadsAmong (IsFileFor chosen n spec) mid new → ReadsAmong (ChosenMayRead old chosen sources) old new
source_reads old mid new chosen sources n docs spec h there before now =
    let May = ChosenMayRead old chosen sources in
    reads_twice May old mid new (mounted_reads old mid chosen sources n docs h before)
    (reads_wider (IsFileFor chosen n spec) May mid new (λ path is. (n, spec, there, is, mounted_accepted old chosen sources n docs h)) now)

-- where the file of a source alone was read, it was that of a chosen source where all are chosen
pub whole_reads : (old new : FilesView) (s : ℕ) (spec : SourceSpec) → ReadsAmong (IsWholeFile spec) old new → ReadsAmong (IsFileFor every s spec) old new
whole_reads old new s spec reads = reads_wider (IsWholeFile spec) (IsFileFor every s spec) old new (λ path is. (refl, is)) reads

-- the files of sources that are accepted later were accepted before
pub accepted_before : (old mid : FilesView) (chosen : ℕ → Bool) (sources : List SourceSpec) (n : ℕ) → KeepsFiles old mid → AreAccepted mid chosen sources n → AreAccepted old chosen sources n
accepted_before old mid chosen sources n keeps h = λ k before less at is file.
    let f = h k before less at is file in
    (f.0, document_before (StandsFor before.name before.kind) old mid (file_of before.kind) f.0 keeps f.1)

-- where the files of sources may be read at a later moment, they may be read at an earlier one
pub source_may_before : (old mid : FilesView) (chosen : ℕ → Bool) (sources : List SourceSpec) → KeepsFiles old mid → (path : List ℕ) → ChosenMayRead mid chosen sources path → ChosenMayRead old chosen sources path
source_may_before old mid chosen sources keeps path h = (h.0, h.1, h.2, h.3, accepted_before old mid chosen sources h.0 keeps h.4)
