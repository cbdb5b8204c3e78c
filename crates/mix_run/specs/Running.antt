-- What a run needs, and what its answers come to.
use Rattle.std.specs.Prelude.{◌≡◌, ◌≤◌, ◌⊎◌, ℕ, Bool, ◌+◌, ◌-◌, ◌^◌, List, Option, Some, None, Result, Ok, Err, cond, nat_lt, length, map, string_bytes}
use Rattle.mix_tree.specs.Forest.{Forest, none}
use Rattle.mix_tree.specs.Nodes.{Documents}
use Rattle.mix_catalog.specs.declared.source.SourceSpec.{SourceSpec}
use Rattle.mix_io.specs.Views.{FilesView, SinkView}
use Rattle.lxp_core.specs.View.{View}
use Rattle.mix_loop.specs.Loops.{StandIn}
use Rattle.far_keep.specs.Views.{document as far_document}
use Rattle.mix_mount.specs.declared.mount.Mount.{Mount}
use Rattle.mix_mount.specs.Mounts.{document, mount_at}
use Rattle.mix_reach.specs.Reach.{Reaching, site_at}
use Rattle.mix_reach.specs.Stores.{StoresView, stores_of}
use Rattle.mix_reach.specs.declared.site.Site.{Site}
use Rattle.mix_reach.specs.declared.site.Site.TheVariants.{Here, Far}
use Rattle.mix_lines.specs.declared.fault.LinesFault.{LinesFault}
use Rattle.mix_lines.specs.Ends.{Ends}
use Rattle.mix_lines.specs.Heard.{step}
use Rattle.mix_session.specs.Walks.{plan_course}
use Rattle.lazy_plan.specs.Bench.{ops_of}
use Rattle.lazy_value.specs.Named.{state_of}
use Rattle.lazy_value.specs.declared.mediator.Mediator.{Mediator}
use Rattle.xmas_read.specs.Results.{names_of_sources}
use Rattle.mix_script.specs.Transcript.{Finished}
use Rattle.mix_script.specs.declared.step.Step.{Step}
use Rattle.plan_core.specs.PlanMade.{plan_value}
use Rattle.plan_core.specs.Plans.{Operator, PlanValue, document as plan_document}
use Rattle.plan_core.specs.Events.{visited}
use Rattle.plan_core.specs.declared.plan.Plan.{Plan}
use Rattle.view_stack.specs.Stacks.{tree_alone}
use Rattle.mix_place.specs.Placed.{placed as placed_by, ArePlaced, Placed}
use Rattle.mix_run.specs.declared.outcome.Outcome.{Outcome}
use Rattle.mix_place.specs.declared.refusal.Stop.{Stop}
use Rattle.mix_place.specs.declared.refusal.Stop.TheVariants.{Refused, SinkFailed, OutOfMemory}
use Rattle.mix_run.specs.declared.asked.Asked.{Asked}
use Rattle.mix_run.specs.declared.asked.Ready.{Ready}
use Rattle.mix_run.specs.declared.running.RunForm.{RunForm}
use Rattle.mix_run.specs.declared.running.RunForm.TheVariants.{Answers, Counts, Executed, Looped}
use Rattle.mix_run.specs.declared.running.Running.{Running}
use Rattle.mix_run.specs.Answered.{IsAnswered}
use Rattle.mix_place.specs.Files.{IsCatalogFile, IsPlanFile, IsScript}
use Rattle.mix_run.specs.Runs.{IsRefusedAfter, IsScriptRefused, PlanFile, Runs, RunLines, by_text, by_view, lines_of_count, lines_of_run}
use Rattle.mix_run.specs.Finishing.{IsAnswerable}
use Rattle.mix_run.specs.Outside.{outside}
use Rattle.mix_run.specs.Question.{AreNamed, IsPlanDocument, Question}
use Rattle.mix_place.specs.Reading.{IsEither}
use Rattle.mix_run.specs.Stops.{IsCutShort, IsDoneAlong, IsEndOf}
use Rattle.mix_place.specs.Plans.{IsPlanOver, IsViewPlan}
use Rattle.mix_place.specs.Views.{lower_at, lower_of}

-- how the file of a run in a form gives its plan: a view does for all but the execution of a plan text
abbrev pub given_by : RunForm → PlanFile
given_by Answers = by_view
given_by Counts = by_view
given_by Executed = by_text
given_by Looped = by_view

-- a file was read whole and gives this plan to a run in a form
abbrev pub IsPlanGiven : RunForm → FilesView → List ℕ → List SourceSpec → PlanValue → Type 0
IsPlanGiven Answers = IsViewPlan
IsPlanGiven Counts = IsViewPlan
IsPlanGiven Executed = IsPlanFile
IsPlanGiven Looped = IsViewPlan

-- what was made ready for a run, as its sources
abbrev pub placed : Ready → Placed
placed r = placed_by r.placement

-- all files of a run in a form were accepted: what was read of them is the catalog, the plan, the steps and the mounted sources
pub record IsReady (form : RunForm) (files : FilesView) (file catalog script : List ℕ) (r : Ready) : Type 0 where
  pub catalog_is : IsCatalogFile files catalog r.asked.catalog
  pub plan_is : IsPlanGiven form files file r.asked.catalog (plan_value r.asked.plan)
  pub script_is : IsScript (given_by form).forms files script r.asked.steps.items
  pub answerable : IsAnswerable (plan_value r.asked.plan).ops r.asked.steps.items
  pub over : IsPlanOver r.asked.catalog (plan_value r.asked.plan)
  pub placed_are : ArePlaced files (plan_value r.asked.plan).ops r.asked.catalog (placed r)
  pub few : length r.asked.catalog ≤ 32

-- a command stopped before its lines: the first refused file by the order of catalog, file of the plan and then a given relation, or memory ran out
abbrev pub IsStopAfter : PlanFile → (List SourceSpec → List Operator → ℕ → List ℕ → Type 0) → FilesView → FilesView → List ℕ → List ℕ → Stop → Type 0
IsStopAfter given Then old new view catalog (Refused r) = IsRefusedAfter given Then old new view catalog r.status (string_bytes r.line)
IsStopAfter given Then old new view catalog SinkFailed = ⊥
IsStopAfter given Then old new view catalog OutOfMemory = Unit {0}

-- a run stopped before its lines: the first file of it that is not accepted is refused, or memory ran out
abbrev pub IsReadyStop : PlanFile → FilesView → FilesView → List ℕ → List ℕ → List ℕ → Stop → Type 0
IsReadyStop given old new file catalog script = IsStopAfter given (IsScriptRefused given.forms (IsEither catalog file) old new script) old new file catalog

-- the document of a source over stores, by where it is: what is mounted here, or the document of another machine's source
abbrev pub document_at : StoresView → Site → Mount → Forest
document_at stores Here mount = document stores.tables mount
document_at stores (Far far) mount = far_document stores.fars far

-- sources that are reached and the plans of views over them, as those that were made ready
abbrev pub placed_of : Reaching → List (Option Plan) → Placed
placed_of r views = record { docs = r.mounted.docs; sites = r.sites; views = views }

-- the documents of sources over stores that are no views, by their numbers
abbrev pub documents_of : StoresView → Placed → Documents
documents_of stores p s = cond (nat_lt s (length p.docs)) (document_at stores (site_at p.sites s) (mount_at p.docs s)) none

-- the document of a view over documents: that of its operators; nothing where it is not read
abbrev pub lower_document : Documents → Option (List Operator) → Forest
lower_document docs None = none
lower_document docs (Some ops) = tree_alone (plan_document (visited docs) ops)

-- the documents of all sources, by their numbers: of those that are no views, and over these of the views
abbrev pub with_views : ℕ → Documents → List (Option (List Operator)) → Documents
with_views count docs lower s = cond (nat_lt s count) (docs s) (lower_document docs (lower_at lower (s - count)))

-- the documents of all sources over stores, by their numbers
abbrev pub all_documents : StoresView → Placed → Documents
all_documents stores p = with_views (length p.docs) (documents_of stores p) (lower_of p.views)

-- what given steps ask of a plan's operators over sources, with a finished document as the plan's
abbrev pub question_of : StoresView → Placed → List SourceSpec → List Operator → List Step → Finished → Question
question_of stores p sources ops steps f =
    record { sources = sources; ops = ops; lower = lower_of p.views; steps = steps; below = documents_of stores p; docs = all_documents stores p; tree = f.tree; named = f.named }

-- what a run asks over sources, with a finished document as its plan's
abbrev pub question : StoresView → Placed → Asked → Finished → Question
question stores p asked f = question_of stores p asked.catalog (plan_value asked.plan).ops asked.steps.items f

-- the lines are those that a given relation says of a run over sources, on the plan's document
abbrev pub LinesOver : RunLines → StoresView → StoresView → Placed → Asked → SinkView → SinkView → ℕ → List ℕ → Type 0
LinesOver Lines before after p asked sink sink' status lines =
    (f : Finished) × IsPlanDocument (all_documents before p) (plan_value asked.plan).ops f.tree × AreNamed (question before p asked f)
    × Lines before after (question before p asked f) sink sink' status lines

-- the lines of a run answer its script, by a given number of fills
abbrev pub by_fills : ℕ → RunLines
by_fills fills before after q sink sink' status lines = IsAnswered before after q fills sink sink' status lines

-- how the lines of a given course end, over a sink that meant the first before and means the second after
abbrev pub IsLinesEnd : (SinkView → SinkView → ℕ → List ℕ → Type 0) → SinkView → SinkView → Result Outcome Stop → Type 0
IsLinesEnd Course before after (Ok outcome) = IsDoneAlong Course before after outcome
IsLinesEnd Course before after (Err stop) = IsCutShort (Course before after) before after stop

-- how the lines of a run end over sources that are reached and views over them, by all their fills, where no more pages were asked than fills, the count of which is one of
-- 64 bits
abbrev pub IsReachedEnd : Reaching → Reaching → List (Option Plan) → Asked → SinkView → SinkView → Result Outcome Stop → Type 0
IsReachedEnd old new views asked before after end =
    new.mounted.tables.pages ≤ old.mounted.tables.pages + new.fills → new.fills ≤ 2 ^ 64 - 1
    → IsLinesEnd (LinesOver (by_fills new.fills) (stores_of old) (stores_of new) (placed_of old views) asked) before after end

-- how the lines of a run end over sources and views over these: where the sources stand in for those that are reached, of which no fill was asked before, as over these
abbrev pub IsEndOver : View → View → List (Option Plan) → Asked → SinkView → SinkView → Result Outcome Stop → Type 0
IsEndOver old new views asked before after end =
    (files : FilesView) (a b : Reaching) → ArePlaced files (plan_value asked.plan).ops asked.catalog (placed_of a views) → a.fills ≡ 0 → StandIn old new a b
    → IsReachedEnd a b views asked before after end

-- the steps of a run were answered by a mediator of its plan over sources, and that ended
pub record IsWalked (old new : View) (asked : Asked) (before after : SinkView) (end : Result Outcome Stop) : Type 0 where
  pub mediator : Mediator
  pub ops_are : ops_of (state_of old mediator) ≡ (plan_value asked.plan).ops
  pub result : Result Bool LinesFault
  pub end_is : IsEndOf result end
  pub ends : Ends (plan_course (state_of old mediator)) old new (names_of_sources asked.catalog) (map step asked.steps.items) before after result

-- how the lines of a run end over the sources of its catalog: its steps were answered; or memory ran out before the first, and what is given is so
abbrev pub IsEnd : Type 0 → View → View → Asked → SinkView → SinkView → Result Outcome Stop → Type 0
IsEnd Unbegun old new asked before after end = IsWalked old new asked before after end ⊎ ((end ≡ Err OutOfMemory) × (after ≡ before) × Unbegun)

-- what is written of a run in a form: its answers, or these and its counts
abbrev pub run_lines : RunForm → RunLines
run_lines Answers = lines_of_run
run_lines Counts = lines_of_count
run_lines Executed = lines_of_run
run_lines Looped = lines_of_run

-- the course of a run in the form that is asked for: its answers, or these and its counts
abbrev pub RunCourse : FilesView → FilesView → StoresView → StoresView → Running → SinkView → SinkView → ℕ → List ℕ → Type 0
RunCourse files files' stores stores' running =
    Runs (given_by running.form) (run_lines running.form) (outside files stores) (outside files' stores') running.file.now running.catalog.now running.script.now
