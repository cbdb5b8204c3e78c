-- How the lines of a talk over sources end.
use Rattle.std.proofs.Common.{◌≡◌, ◌+◌, ◌≤◌, ℕ, Bool, List, [], Option, Result, Err, refl}
use Rattle.mix_io.specs.Input.{InputView}
use Rattle.mix_io.specs.Views.{SinkView}
use Rattle.mix_io.proofs.Taken.{took_none}
use Rattle.mix_reach.specs.Reach.{CameFrom, Reaching}
use Rattle.mix_reach.specs.Stores.{stores_of}
use Rattle.plan_core.specs.PlanMade.{plan_value}
use Rattle.plan_core.specs.declared.plan.Plan.{Plan}
use Rattle.xmas_read.specs.Results.{names_of_sources}
use Rattle.lazy_plan.specs.Bench.{BenchState}
use Rattle.lxp_core.specs.View.{View}
use Rattle.mix_script.specs.Transcript.{Finished}
use Rattle.mix_script.specs.declared.step.Step.{Step}
use Rattle.mix_lines.specs.Heard.{Heard, steps_in}
use Rattle.mix_lines.specs.Talks.{HeardEnds, heard_by}
use Rattle.mix_lines.specs.declared.fault.LinesFault.{LinesFault}
use Rattle.mix_lines.specs.declared.fault.LinesFault.TheVariants.{OutOfMemory}
use Rattle.mix_lines.proofs.Timely.{timely_start}
use Rattle.mix_session.specs.Walks.{plan_course}
use Rattle.mix_run.specs.Answered.{IsHeardAnswered}
use Rattle.mix_run.specs.Finishing.{IsFinishedOf}
use Rattle.mix_run.specs.Question.{Question}
use Rattle.mix_run.specs.Running.{all_documents, placed_of, question_of}
use Rattle.mix_run.proofs.Answering.{IsOver}
use Rattle.mix_run.proofs.LinesEnd.{heard_end, heard_unbegun, heard_weaker}
use Rattle.mix_run.specs.TalkEnds.{TalkedAlong}
use Rattle.mix_run.specs.Talking.{TalkOver}
use Rattle.mix_run.specs.declared.talking.Basis.{Basis}

module _ (a b : Reaching) (views : List (Option Plan)) (basis : Basis) (f : Finished) (texts : (steps : List Step) → IsFinishedOf (all_documents (stores_of a) (placed_of a views)) (plan_value basis.plan).ops steps f)
    (few : b.mounted.tables.pages ≤ a.mounted.tables.pages + b.fills) where
  -- the question of the steps that were heard, on the document, over the sources
  abbrev question : List Heard → Question
  question asked = question_of (stores_of a) (placed_of a views) basis.catalog (plan_value basis.plan).ops (steps_in asked) f

  -- the course of a talk over the sources, by the fills that were asked
  abbrev Course : List Heard → SinkView → SinkView → ℕ → List ℕ → Type 0
  Course = TalkOver b.fills (stores_of a) (stores_of b) (placed_of a views) basis

  -- lines that answer what was heard are those of the talk
  talks_over : (asked : List Heard) (before after : SinkView) (status : ℕ) (lines : List ℕ) → IsHeardAnswered asked (stores_of a) (stores_of b) (question asked) b.fills before after status lines
      → Course asked before after status lines
  talks_over asked before after status lines is = (f, (texts (steps_in asked)).document, ((texts (steps_in asked)).named, is))

  -- a talk over sources ends as its lines do
  pub talk_lines_end : (old new : View) (st : BenchState) → ((steps : List Step) → IsOver old new st a b (question_of (stores_of a) (placed_of a views) basis.catalog (plan_value basis.plan).ops steps f))
      → (input input' : InputView) (before after : SinkView) (r : Result Bool LinesFault) → HeardEnds (plan_course st) old new (names_of_sources basis.catalog) input input' before after r
      → TalkedAlong (names_of_sources basis.catalog) Course input input' before after r
  talk_lines_end old new st over input input' before after r e =
      let asked = heard_by e.bytes r in
      let steps = steps_in asked in
      record {
        bytes = e.bytes;
        took = e.took;
        timely = e.timely;
        input_ends = e.input_ends;
        ends = heard_weaker (IsHeardAnswered asked (stores_of a) (stores_of b) (question asked) b.fills before after) (Course asked before after) before after (talks_over asked before after) r
            (heard_end asked old new a b st (question asked) refl (over steps) few before after (texts steps) r e.ends);
      }

  -- where memory ran out before anything was taken of the input of a talk, nothing was written of its lines
  pub talk_untaken : CameFrom a b → b.fills ≡ 0 → (input : InputView) (before : SinkView) → TalkedAlong (names_of_sources basis.catalog) Course input input before before (Err OutOfMemory)
  talk_untaken came unasked input before =
      let asked = heard_by [] (Err OutOfMemory) in
      let p = heard_unbegun asked a b came (question asked) refl (texts (steps_in asked)) unasked few before in
      record {
        bytes = [];
        took = took_none input;
        timely = timely_start (names_of_sources basis.catalog) before.written;
        input_ends = tt;
        ends = (p.0, p.1, talks_over asked before before p.0 p.1 p.2, p.3);
      }
