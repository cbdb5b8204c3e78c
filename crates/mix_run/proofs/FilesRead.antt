-- What is read by calls one after another is what a run may read.
use Rattle.std.proofs.Common.{◌≡◌, inl, inr, ℕ, List, refl}
use Rattle.mix_io.specs.Views.{FilesView, KeepsFiles, ReadsOnly}
use Rattle.mix_catalog.specs.declared.source.SourceSpec.{SourceSpec}
use Rattle.mix_script.specs.declared.step.Step.{Step}
use Rattle.plan_core.specs.Plans.{Operator}
use Rattle.mix_place.specs.Placed.{SourceMayRead}
use Rattle.mix_place.specs.Files.{IsCatalogFile, IsScript}
use Rattle.mix_run.specs.Runs.{PlanFile}
use Rattle.mix_run.specs.FilesRead.{MayReadAfter, ScriptMayRead, RunMayRead}
use Rattle.mix_place.specs.Reading.{ReadsAmong}
use Rattle.mix_place.proofs.ReadingLaws.{reads_one, reads_twice, reads_wider}
use Rattle.mix_place.proofs.PlaceLaws.{place_may_before}

module _ (given : PlanFile) (Then : List SourceSpec → List Operator → List ℕ → Type 0) (old : FilesView) (view catalog : List ℕ) where
  -- after the reading of the catalog, only what the command may read was read
  pub reads_catalog : (new : FilesView) → ReadsOnly catalog old new → ReadsAmong (MayReadAfter given Then old view catalog) old new
  reads_catalog new only = reads_one (MayReadAfter given Then old view catalog) catalog old new (inl refl) only

  module _ (sources : List SourceSpec) (cat : IsCatalogFile old catalog sources) where
    -- after the reading of the catalog and then the view, only what the command may read was read
    pub reads_view : (mid new : FilesView) → ReadsAmong (MayReadAfter given Then old view catalog) old mid → ReadsOnly view mid new → ReadsAmong (MayReadAfter given Then old view catalog) old new
    reads_view mid new before only =
        let May = MayReadAfter given Then old view catalog in
        reads_twice May old mid new before (reads_one May view mid new (inr (sources, cat, inl refl)) only)

    -- where after the view only what comes next may be read, only what the command may read was read
    pub reads_then : (ops : List Operator) → given.Gives old view sources ops → (mid new : FilesView) → ReadsAmong (MayReadAfter given Then old view catalog) old mid → (May : List ℕ → Type 0)
        → ((path : List ℕ) → May path → Then sources ops path) → ReadsAmong May mid new → ReadsAmong (MayReadAfter given Then old view catalog) old new
    reads_then ops gives mid new before May is reads =
        reads_twice (MayReadAfter given Then old view catalog) old mid new before
        (reads_wider May (MayReadAfter given Then old view catalog) mid new (λ path h. inr (sources, cat, inr (ops, gives, is path h))) reads)

module _ (given : PlanFile) (old : FilesView) (file catalog script : List ℕ) where
  -- after the reading of its catalog a run has read only what it may
  pub run_reads_catalog : (new : FilesView) → ReadsOnly catalog old new → ReadsAmong (RunMayRead given old file catalog script) old new
  run_reads_catalog = reads_catalog given (ScriptMayRead given.forms old script) old file catalog

  module _ (sources : List SourceSpec) (cat : IsCatalogFile old catalog sources) where
    -- after the reading of the file that gives its plan a run has read only what it may
    pub run_reads_file : (mid new : FilesView) → ReadsAmong (RunMayRead given old file catalog script) old mid → ReadsOnly file mid new → ReadsAmong (RunMayRead given old file catalog script) old new
    run_reads_file = reads_view given (ScriptMayRead given.forms old script) old file catalog sources cat

    module _ (ops : List Operator) (gives : given.Gives old file sources ops) where
      -- after the reading of its script a run has read only what it may
      pub run_reads_script : (mid new : FilesView) → ReadsAmong (RunMayRead given old file catalog script) old mid → ReadsOnly script mid new → ReadsAmong (RunMayRead given old file catalog script) old new
      run_reads_script mid new before only =
          reads_then given (ScriptMayRead given.forms old script) old file catalog sources cat ops gives mid new before (λ path. path ≡ script) (λ path h. inl h) (λ path no. only path no)

      -- after the reading of its sources' files a run has read only what it may
      pub run_reads_sources : (mid new : FilesView) (steps : List Step) → IsScript given.forms old script steps → KeepsFiles old mid → ReadsAmong (RunMayRead given old file catalog script) old mid
          → ReadsAmong (SourceMayRead mid ops sources) mid new → ReadsAmong (RunMayRead given old file catalog script) old new
      run_reads_sources mid new steps scr keeps before reads =
          reads_then given (ScriptMayRead given.forms old script) old file catalog sources cat ops gives mid new before (SourceMayRead mid ops sources)
          (λ path h. inr (steps, scr, place_may_before old mid ops sources keeps path h)) reads
