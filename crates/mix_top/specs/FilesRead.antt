-- Which files a command may read: each after those that are accepted before it.
use Rattle.std.specs.Prelude.{◌≡◌, ◌⊎◌, ℕ, List}
use Rattle.mix_tree.specs.Forest.{LabelledTree}
use Rattle.bracket_text.specs.Stands.{SpellsTree}
use Rattle.mix_io.specs.Views.{FilesView}
use Rattle.mix_catalog.specs.declared.source.SourceSpec.{SourceSpec}
use Rattle.mix_top.specs.Commands.{Command, help, version, walk, read, plan, check, run, count, exec, loop, talk, load, unknown}
use Rattle.mix_place.specs.Files.{IsCatalogFile}
use Rattle.mix_run.specs.FilesRead.{MayReadAfter, RunMayRead}
use Rattle.mix_run.specs.Runs.{PlanFile, by_text, by_view}
use Rattle.mix_run.specs.Talks.{TalkMayRead}
use Rattle.mix_place.specs.Documents.{IsDocument}
use Rattle.mix_place.specs.Placed.{ViewsMayRead}

-- the files that a walk may read: its document, and after an accepted one its script
abbrev pub WalkMayRead : FilesView → List ℕ → List ℕ → List ℕ → Type 0
WalkMayRead files file script path = (path ≡ file) ⊎ ((path ≡ script) × (t : LabelledTree) × IsDocument SpellsTree files file t)

-- the files that reading a view may read: the catalog, and after an accepted one the view
abbrev pub FileMayRead : FilesView → List ℕ → List ℕ → List ℕ → Type 0
FileMayRead files file catalog path = (path ≡ catalog) ⊎ ((path ≡ file) × (sources : List SourceSpec) × IsCatalogFile files catalog sources)

-- the files that the writing of a plan may read: the catalog, the file that gives the plan, and then the files of the views that it reads
abbrev pub PlanMayRead : PlanFile → FilesView → List ℕ → List ℕ → List ℕ → Type 0
PlanMayRead given files file catalog = MayReadAfter given (λ sources ops. ViewsMayRead files ops sources) files file catalog

-- the files that a command may read
abbrev pub MayRead : FilesView → Command → List ℕ → Type 0
MayRead files help path = ⊥
MayRead files version path = ⊥
MayRead files (walk file script) path = WalkMayRead files file script path
MayRead files (read view catalog) path = FileMayRead files view catalog path
MayRead files (plan view catalog) path = PlanMayRead by_view files view catalog path
MayRead files (check text catalog) path = PlanMayRead by_text files text catalog path
MayRead files (run view catalog script) path = RunMayRead by_view files view catalog script path
MayRead files (count view catalog script) path = RunMayRead by_view files view catalog script path
MayRead files (exec text catalog script) path = RunMayRead by_text files text catalog script path
MayRead files (loop view catalog script) path = RunMayRead by_view files view catalog script path
MayRead files (talk view catalog) path = TalkMayRead files view catalog path
MayRead files (load people) path = ⊥
MayRead files unknown path = ⊥
