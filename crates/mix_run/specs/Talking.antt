-- A talk over sources that are mounted.
use Rattle.std.specs.Prelude.{◌≡◌, ◌⊎◌, ◌≤◌, ℕ, ◌+◌, ◌-◌, ◌^◌, List, Option, Result, Err, Bool, length}
use Rattle.mix_io.specs.Input.{InputView}
use Rattle.mix_io.specs.Views.{FilesView, SinkView}
use Rattle.mix_reach.specs.Reach.{Reaching}
use Rattle.mix_reach.specs.Stores.{StoresView, stores_of}
use Rattle.mix_lines.specs.Heard.{Heard, steps_in}
use Rattle.mix_lines.specs.Talks.{HeardEnds}
use Rattle.mix_lines.specs.declared.fault.LinesFault.TheVariants.{OutOfMemory}
use Rattle.lxp_core.specs.View.{View}
use Rattle.lazy_plan.specs.Bench.{ops_of}
use Rattle.lazy_value.specs.Named.{state_of}
use Rattle.lazy_value.specs.declared.mediator.Mediator.{Mediator}
use Rattle.mix_session.specs.Walks.{plan_course}
use Rattle.plan_core.specs.declared.plan.Plan.{Plan}
use Rattle.mix_lines.specs.declared.fault.LinesFault.{LinesFault}
use Rattle.mix_script.specs.Transcript.{Finished}
use Rattle.plan_core.specs.PlanMade.{plan_value}
use Rattle.plan_evidence.specs.Held.{UsesHeld}
use Rattle.xmas_read.specs.Results.{names_of_sources}
use Rattle.mix_run.specs.Answered.{IsHeardAnswered}
use Rattle.mix_place.specs.Files.{IsCatalogFile}
use Rattle.mix_place.specs.Placed.{IsSourceRefused, placed as placed_by, ArePlaced, Placed}
use Rattle.mix_run.specs.Runs.{by_view}
use Rattle.mix_run.specs.Question.{AreNamed, IsPlanDocument}
use Rattle.mix_place.specs.Reading.{IsEither}
use Rattle.mix_place.specs.Plans.{IsPlanOver, IsViewPlan}
use Rattle.mix_run.specs.Running.{IsStopAfter, all_documents, placed_of, question_of}
use Rattle.mix_place.specs.declared.refusal.Stop.{Stop}
use Rattle.mix_run.specs.TalkEnds.{TalkedAlong}
use Rattle.mix_run.specs.declared.talking.Basis.{Basis}
use Rattle.mix_run.specs.declared.talking.Ready.{Ready}

-- what was made ready for a talk, as its sources
abbrev pub placed_talk : Ready → Placed
placed_talk r = placed_by r.placement

-- all files of a talk were accepted: what was read of them is the catalog, the plan of the view and the mounted sources
pub record IsTalkReady (files : FilesView) (view catalog : List ℕ) (r : Ready) : Type 0 where
  pub catalog_is : IsCatalogFile files catalog r.basis.catalog
  pub plan_is : IsViewPlan files view r.basis.catalog (plan_value r.basis.plan)
  pub over : IsPlanOver r.basis.catalog (plan_value r.basis.plan)
  pub placed_are : ArePlaced files (plan_value r.basis.plan).ops r.basis.catalog (placed_talk r)
  pub few : length r.basis.catalog ≤ 32
  pub uses : UsesHeld (plan_value r.basis.plan).ops

-- a file of a talk is refused, or memory ran out
abbrev pub IsTalkStop : FilesView → FilesView → List ℕ → List ℕ → Stop → Type 0
IsTalkStop old new view catalog = IsStopAfter by_view (λ sources ops. IsSourceRefused (IsEither catalog view) old new ops sources) old new view catalog

-- given lines answer what was heard on the plan's document over sources, by a number of fills
abbrev pub TalkOver : ℕ → StoresView → StoresView → Placed → Basis → List Heard → SinkView → SinkView → ℕ → List ℕ → Type 0
TalkOver fills before after place basis asked sink sink' status lines =
    (f : Finished) × IsPlanDocument (all_documents before place) (plan_value basis.plan).ops f.tree
    × (let q = question_of before place basis.catalog (plan_value basis.plan).ops (steps_in asked) f in
    AreNamed q × IsHeardAnswered asked before after q fills sink sink' status lines)

-- how a talk ends over sources that are reached and views over them, by all their fills, where no more pages were asked than fills, the count of which is one of 64 bits
abbrev pub IsReachedTalkEnd : Reaching → Reaching → List (Option Plan) → Basis → InputView → InputView → SinkView → SinkView → Result Bool LinesFault → Type 0
IsReachedTalkEnd old new views basis input input' sink sink' end =
    new.mounted.tables.pages ≤ old.mounted.tables.pages + new.fills → new.fills ≤ 2 ^ 64 - 1
    → TalkedAlong (names_of_sources basis.catalog) (TalkOver new.fills (stores_of old) (stores_of new) (placed_of old views) basis) input input' sink sink' end

-- a mediator of a plan over sources was talked to, and that ended
pub record IsHeard (old new : View) (basis : Basis) (input input' : InputView) (sink sink' : SinkView) (end : Result Bool LinesFault) : Type 0 where
  pub mediator : Mediator
  pub ops_are : ops_of (state_of old mediator) ≡ (plan_value basis.plan).ops
  pub ends : HeardEnds (plan_course (state_of old mediator)) old new (names_of_sources basis.catalog) input input' sink sink' end

-- how a talk ends over the sources of its catalog: a mediator was talked to; or memory ran out before anything was taken, and what is given is so
abbrev pub IsTalkEnd : Type 0 → View → View → Basis → InputView → InputView → SinkView → SinkView → Result Bool LinesFault → Type 0
IsTalkEnd Unbegun old new basis input input' sink sink' end =
    IsHeard old new basis input input' sink sink' end ⊎ ((end ≡ Err OutOfMemory) × (input' ≡ input) × (sink' ≡ sink) × Unbegun)
