-- What is read by calls one after another is what commands may read.
use Rattle.std.proofs.Common.{inl, inr, ℕ, List, refl}
use Rattle.mix_io.specs.Views.{FilesView, ReadsOnly}
use Rattle.mix_catalog.specs.declared.source.SourceSpec.{SourceSpec}
use Rattle.mix_tree.specs.Forest.{LabelledTree}
use Rattle.bracket_text.specs.Stands.{SpellsTree}
use Rattle.mix_place.specs.Files.{IsCatalogFile}
use Rattle.mix_place.specs.Documents.{IsDocument}
use Rattle.mix_top.specs.FilesRead.{WalkMayRead, FileMayRead}
use Rattle.mix_place.specs.Reading.{ReadsAmong}
use Rattle.mix_place.proofs.ReadingLaws.{reads_one, reads_twice}

-- where the document of a walk was read and then its script, only what a walk may read was read
pub walk_reads : (old mid new : FilesView) (file script : List ℕ) (t : LabelledTree) → IsDocument SpellsTree old file t → ReadsOnly file old mid → ReadsOnly script mid new
    → ReadsAmong (WalkMayRead old file script) old new
walk_reads old mid new file script t document first second =
    let May = WalkMayRead old file script in
    reads_twice May old mid new (reads_one May file old mid (inl refl) first) (reads_one May script mid new (inr (refl, t, document)) second)

-- where a catalog was read and then a view or a plan text, only what the reading of such a file may read was read
pub file_reads : (old mid new : FilesView) (file catalog : List ℕ) (sources : List SourceSpec) → IsCatalogFile old catalog sources → ReadsOnly catalog old mid → ReadsOnly file mid new
    → ReadsAmong (FileMayRead old file catalog) old new
file_reads old mid new file catalog sources accepted first second =
    let May = FileMayRead old file catalog in
    reads_twice May old mid new (reads_one May catalog old mid (inl refl) first) (reads_one May file mid new (inr (refl, sources, accepted)) second)
