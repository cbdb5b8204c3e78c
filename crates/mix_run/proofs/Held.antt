-- How a talk is held, or refused.
use Rattle.std.proofs.Common.{◌≡◌, inl, inr, ℕ, Bool, List, Some, Result, refl, string_bytes}
use Rattle.mix_io.specs.Input.{InputView}
use Rattle.mix_io.specs.Views.{FilesView, SinkView}
use Rattle.mix_lines.specs.Talks.{heard_by}
use Rattle.mix_lines.specs.Heard.{Heard, steps_in}
use Rattle.mix_lines.specs.declared.fault.LinesFault.{LinesFault}
use Rattle.mix_reach.specs.Stores.{StoresView}
use Rattle.plan_core.specs.Events.{VisitedAreMatches, visited}
use Rattle.plan_core.specs.Plans.{PlanValue, document as plan_document}
use Rattle.plan_core.specs.Valid.{IsValid}
use Rattle.mix_tree.specs.Forest.{LabelledTree}
use Rattle.mix_tree.specs.Nodes.{Documents}
use Rattle.xmas_read.specs.Results.{names_of_sources}
use Rattle.plan_core.specs.PlanMade.{plan_value}
use Rattle.mix_run.specs.Ends.{Ends}
use Rattle.mix_run.specs.Outside.{outside}
use Rattle.mix_run.specs.Running.{question_of}
use Rattle.mix_place.specs.declared.refusal.Refusal.{Refusal}
use Rattle.mix_place.specs.declared.refusal.Stop.TheVariants as stop
use Rattle.mix_run.proofs.LinesEnd.{heard_weaker}
use Rattle.mix_run.proofs.RunCourse.{view_question}
use Rattle.mix_run.proofs.CourseEnds.{course_ends}
use Rattle.mix_run.specs.TalkEnds.{TalkEnds, TalkedAlong, talk_status}
use Rattle.mix_run.specs.Talking.{IsTalkReady, IsTalkStop, TalkOver, placed_talk}
use Rattle.mix_run.specs.Talks.{IsTalkRefused, Talks}
use Rattle.mix_run.specs.declared.talking.Ready.{Ready}

-- what lines come to in one manner: by what was heard, their status and their text
abbrev Course : Type 1
Course = List Heard → SinkView → SinkView → ℕ → List ℕ → Type 0

module _ (old new : FilesView) (stores stores' : StoresView) (view catalog : List ℕ) (visits : VisitedAreMatches)
    (has : (p : PlanValue) → IsValid p → (d : Documents) → (t : LabelledTree) × (plan_document (visited d) p.ops ≡ Some t)) (input input' : InputView) (before after : SinkView) where
  -- the talk of a run ends with this status
  abbrev Ended : ℕ → Type 0
  Ended status = TalkEnds (outside old stores) (outside new stores') view catalog input input' before after status

  -- where a talk over what was made ready was held, the talk ends
  pub held : (ready : Ready) → IsTalkReady old view catalog ready → (end : Result Bool LinesFault)
      → (fills : ℕ) × TalkedAlong (names_of_sources ready.basis.catalog) (TalkOver fills stores stores' (placed_talk ready) ready.basis) input input' before after end → (status : ℕ) → status ≡ talk_status end → Ended status
  held ready is end h status same =
      let Over : Course = TalkOver h.0 stores stores' (placed_talk ready) ready.basis in
      let All : Course = Talks (outside old stores) (outside new stores') view catalog in
      let asked = heard_by h.1.bytes end in
      inr (ready.basis.catalog, is.catalog_is, end, same, record { bytes = h.1.bytes; took = h.1.took; timely = h.1.timely; input_ends = h.1.input_ends; ends = heard_weaker (Over asked before after) (All asked before after) before after (talks asked h.0) end h.1.ends })
    where
      talks : (asked : List Heard) (fills status : ℕ) (lines : List ℕ) → TalkOver fills stores stores' (placed_talk ready) ready.basis asked before after status lines
          → Talks (outside old stores) (outside new stores') view catalog asked before after status lines
      talks asked fills status lines h = (
        question_of stores (placed_talk ready) ready.basis.catalog (plan_value ready.basis.plan).ops (steps_in asked) h.0,
        record {
          view_is = view_question visits has old stores ready.basis.catalog (plan_value ready.basis.plan) (steps_in asked) (placed_talk ready) is.placed_are h.0 view catalog is.catalog_is h.1 is.plan_is;
          steps_are = refl;
          texts = h.2.0;
        },
        fills,
        h.2.1,
      )

-- where a talk was refused, and the line of its refusal was written or cut short, the talk ends
pub refused : (old new : FilesView) (stores : StoresView) (view catalog : List ℕ) (input : InputView) (before after : SinkView) (r : Refusal) (status : ℕ) → IsTalkStop old new view catalog (stop.Refused r)
    → Ends (λ s lines. (s ≡ r.status) × (lines ≡ string_bytes r.line)) before after status → TalkEnds (outside old stores) (outside new stores) view catalog input input before after status
refused old new stores view catalog input before after r status cause ends = inl (refl, refl, course_ends (IsTalkRefused old new view catalog) before after r.status (string_bytes r.line) cause status ends)

-- where a talk was stopped before it began, since memory ran out, the talk ends
pub unbegun : (old new : FilesView) (stores : StoresView) (view catalog : List ℕ) (input : InputView) (before : SinkView) → TalkEnds (outside old stores) (outside new stores) view catalog input input before before 6
unbegun old new stores view catalog input before = inl (refl, refl, inr (inr (record { six = refl; prefix = inl (tt, refl) })))
