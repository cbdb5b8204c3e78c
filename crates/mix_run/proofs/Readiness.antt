-- How the files of a run are accepted or refused, one after another.
use Rattle.std.proofs.Common.{◌≡◌, ◌⊎◌, inl, inr, ℕ, List, refl, string_bytes, subst}
use Rattle.mix_io.specs.Views.{FilesView, KeepsFiles, ReadsOnly}
use Rattle.mix_catalog.specs.declared.source.SourceSpec.{SourceSpec}
use Rattle.mix_script.specs.declared.step.Forms.{Forms}
use Rattle.mix_script.specs.declared.step.Step.{Step}
use Rattle.plan_core.specs.Plans.{Operator, PlanValue}
use Rattle.xmas_read.specs.Results.{names_of_sources}
use Rattle.mix_run.specs.declared.running.RunForm.{RunForm}
use Rattle.mix_run.specs.declared.running.RunForm.TheVariants.{Answers, Counts, Executed, Looped}
use Rattle.mix_place.specs.declared.refusal.Stop.{Stop}
use Rattle.mix_place.specs.declared.refusal.Stop.TheVariants.{Refused, SinkFailed, OutOfMemory}
use Rattle.mix_place.specs.Causes.{IsNoCatalog, IsNoScript}
use Rattle.mix_place.specs.Files.{IsCatalogFile, IsScript}
use Rattle.mix_run.specs.Runs.{PlanFile, by_view}
use Rattle.mix_run.specs.Running.{IsPlanGiven, IsReadyStop, IsStopAfter, given_by}
use Rattle.mix_place.specs.Plans.{IsViewPlan}
use Rattle.mix_place.specs.Stops.{IsLoadStop}
use Rattle.mix_place.proofs.MountLaws.{IsSteady}
use Rattle.mix_place.specs.Reading.{IsEither, ReadsAmong}
use Rattle.mix_place.proofs.LoadLaws.{refused_after}
use Rattle.mix_place.proofs.Earlier.{plan_before, plan_file_before, rule_before, script_before}
use Rattle.mix_place.specs.Placed.{IsPlaceStop}
use Rattle.mix_place.proofs.PlaceLaws.{place_refused_after}

-- the operators of the plan that a view gives later are those that it gave before
pub gives_before : (old mid : FilesView) (path : List ℕ) (sources : List SourceSpec) (p : PlanValue) → KeepsFiles old mid → IsViewPlan mid path sources p → by_view.Gives old path sources p.ops
gives_before old mid path sources p keeps h = (h.rule, rule_before old mid path (names_of_sources sources) h.rule keeps h.rule_is, h.plan_is)

-- a file that gives a plan to a run later gave it before
pub given_before : (form : RunForm) (old mid : FilesView) (path : List ℕ) (sources : List SourceSpec) (p : PlanValue) → KeepsFiles old mid → IsPlanGiven form mid path sources p → IsPlanGiven form old path sources p
given_before Answers old mid path sources p keeps h = plan_before old mid path sources p keeps h
given_before Counts old mid path sources p keeps h = plan_before old mid path sources p keeps h
given_before Executed old mid path sources p keeps h = plan_file_before old mid path sources p keeps h
given_before Looped old mid path sources p keeps h = plan_before old mid path sources p keeps h

-- the operators of the plan that a file gives to a run later are those that it gave before
pub given_ops_before : (form : RunForm) (old mid : FilesView) (path : List ℕ) (sources : List SourceSpec) (p : PlanValue) → KeepsFiles old mid → IsPlanGiven form mid path sources p → (given_by form).Gives old path sources p.ops
given_ops_before Answers old mid path sources p keeps h = gives_before old mid path sources p keeps h
given_ops_before Counts old mid path sources p keeps h = gives_before old mid path sources p keeps h
given_ops_before Executed old mid path sources p keeps h = (p, plan_file_before old mid path sources p keeps h, refl)
given_ops_before Looped old mid path sources p keeps h = gives_before old mid path sources p keeps h

-- a script of a run in a form that was read later was there before
pub script_of : (form : RunForm) (forms : Forms) → forms ≡ (given_by form).forms → (old mid : FilesView) (script : List ℕ) (steps : List Step) → KeepsFiles old mid → IsScript forms mid script steps
    → IsScript (given_by form).forms old script steps
script_of form forms same old mid script steps keeps s = subst (λ (f : Forms). IsScript f old script steps) same (script_before forms old mid script steps keeps s)

-- a script that was refused by the forms of a run is refused by those of its plan file
pub no_script_of : (form : RunForm) (forms : Forms) → forms ≡ (given_by form).forms → (old new : FilesView) (script : List ℕ) (stop : Stop) → IsLoadStop (IsNoScript forms) old new script stop
    → IsLoadStop (IsNoScript (given_by form).forms) old new script stop
no_script_of form forms same old new script stop h = subst (λ (f : Forms). IsLoadStop (IsNoScript f) old new script stop) same h

-- where the catalog is refused, the run is not ready
pub catalog_unready : (given : PlanFile) (Then : List SourceSpec → List Operator → ℕ → List ℕ → Type 0) (old new : FilesView) (view catalog : List ℕ) (stop : Stop) → ReadsOnly catalog old new → IsLoadStop IsNoCatalog old new catalog stop → IsStopAfter given Then old new view catalog stop
catalog_unready given Then old new view catalog (Refused r) only h = inl (h, only)
catalog_unready given Then old new view catalog SinkFailed only h = absurd h
catalog_unready given Then old new view catalog OutOfMemory only h = tt

-- where the file that is to give a plan is refused after a catalog that is accepted, the run is not ready
pub file_unready : (given : PlanFile) (Then : List SourceSpec → List Operator → ℕ → List ℕ → Type 0) (old mid new : FilesView) (view catalog : List ℕ) (sources : List SourceSpec) (stop : Stop) → IsSteady old mid → IsCatalogFile old catalog sources
    → ReadsOnly catalog old mid → IsLoadStop (given.IsNone sources) mid new view stop → ReadsOnly view mid new → IsStopAfter given Then old new view catalog stop
file_unready given Then old mid new view catalog sources (Refused r) steady cat first h second =
    inr (sources, cat, inl (refused_after (λ p. p ≡ catalog) (given.IsNone sources) old mid new view r.status (string_bytes r.line) steady.keeps steady.faults first h second))
file_unready given Then old mid new view catalog sources SinkFailed steady cat first h second = absurd h
file_unready given Then old mid new view catalog sources OutOfMemory steady cat first h second = tt

module _ (given : PlanFile) (old mid new : FilesView) (file catalog script : List ℕ) (sources : List SourceSpec) (ops : List Operator) (stop : Stop) (steady : IsSteady old mid) (cat : IsCatalogFile old catalog sources)
    (gives : given.Gives old file sources ops) where
  -- where the script is refused after a plan that is accepted, the run is not ready
  pub script_unready : ReadsAmong (IsEither catalog file) old mid → IsLoadStop (IsNoScript given.forms) mid new script stop → ReadsOnly script mid new → IsReadyStop given old new file catalog script stop
  script_unready reads h only = by_stop stop h
    where
      by_stop : (stop : Stop) → IsLoadStop (IsNoScript given.forms) mid new script stop → IsReadyStop given old new file catalog script stop
      by_stop (Refused r) h =
          inr (sources, cat, inr (ops, gives, inl (refused_after (IsEither catalog file) (IsNoScript given.forms) old mid new script r.status (string_bytes r.line) steady.keeps steady.faults reads h only)))
      by_stop SinkFailed h = absurd h
      by_stop OutOfMemory h = tt

  -- where the file of a source is refused after a script that is accepted, the run is not ready
  pub sources_unready : (steps : List Step) → IsScript given.forms old script steps → ReadsAmong (λ p. IsEither catalog file p ⊎ (p ≡ script)) old mid → IsPlaceStop mid new ops sources stop
      → IsReadyStop given old new file catalog script stop
  sources_unready steps scr reads = by_stop stop
    where
      by_stop : (stop : Stop) → IsPlaceStop mid new ops sources stop → IsReadyStop given old new file catalog script stop
      by_stop (Refused r) h =
          inr (sources, cat, inr (ops, gives, inr (steps, scr, place_refused_after (λ p. IsEither catalog file p ⊎ (p ≡ script)) old mid new ops sources r.status (string_bytes r.line) steady reads h)))
      by_stop SinkFailed h = absurd h
      by_stop OutOfMemory h = tt

-- the plan that a file gives to a run later it gave before
pub given_plan_before : (form : RunForm) (old mid : FilesView) (path : List ℕ) (sources : List SourceSpec) (p : PlanValue) → KeepsFiles old mid → IsPlanGiven form mid path sources p → (given_by form).GivesPlan old path sources p
given_plan_before Answers old mid path sources p keeps h = (h.rule, rule_before old mid path (names_of_sources sources) h.rule keeps h.rule_is, h.made)
given_plan_before Counts old mid path sources p keeps h = (h.rule, rule_before old mid path (names_of_sources sources) h.rule keeps h.rule_is, h.made)
given_plan_before Executed old mid path sources p keeps h = plan_file_before old mid path sources p keeps h
given_plan_before Looped old mid path sources p keeps h = (h.rule, rule_before old mid path (names_of_sources sources) h.rule keeps h.rule_is, h.made)
