-- Which files a run may read: each after those that are accepted before it.
use Rattle.std.specs.Prelude.{◌≡◌, ◌⊎◌, ℕ, List}
use Rattle.mix_io.specs.Views.{FilesView}
use Rattle.mix_script.specs.declared.step.Forms.{Forms}
use Rattle.mix_script.specs.declared.step.Step.{Step}
use Rattle.mix_catalog.specs.declared.source.SourceSpec.{SourceSpec}
use Rattle.plan_core.specs.Plans.{Operator}
use Rattle.mix_place.specs.Files.{IsCatalogFile, IsScript}
use Rattle.mix_run.specs.Runs.{PlanFile}
use Rattle.mix_place.specs.Placed.{SourceMayRead}

-- the files that a command may read: the catalog, after it the file that is to give a plan, and after that those that a given relation says
abbrev pub MayReadAfter : PlanFile → (List SourceSpec → List Operator → List ℕ → Type 0) → FilesView → List ℕ → List ℕ → List ℕ → Type 0
MayReadAfter given Then files view catalog path =
    (path ≡ catalog) ⊎ ((sources : List SourceSpec) × IsCatalogFile files catalog sources
    × ((path ≡ view) ⊎ ((ops : List Operator) × given.Gives files view sources ops × Then sources ops path)))

-- after the files of its catalog and its plan, the files that a run may read: the script, and after it the files of the sources that the plan reads
abbrev pub ScriptMayRead : Forms → FilesView → List ℕ → List SourceSpec → List Operator → List ℕ → Type 0
ScriptMayRead forms files script sources ops path = (path ≡ script) ⊎ ((steps : List Step) × IsScript forms files script steps × SourceMayRead files ops sources path)

-- the files that a run may read: the catalog, the file that gives its plan, the script, and then the files of the sources that the plan reads
abbrev pub RunMayRead : PlanFile → FilesView → List ℕ → List ℕ → List ℕ → List ℕ → Type 0
RunMayRead given files file catalog script = MayReadAfter given (ScriptMayRead given.forms files script) files file catalog
