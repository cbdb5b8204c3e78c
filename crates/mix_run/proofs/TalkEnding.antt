-- How a talk over a stack of views over sources ends.
use Rattle.std.proofs.Common.{◌≡◌, inl, inr, ℕ, Bool, List, Result, arith, sym, subst, length}
use Rattle.std.specs.List.{AllByRecursion}
use Rattle.mix_io.specs.Input.{InputView}
use Rattle.mix_io.specs.Views.{FilesView, SinkView}
use Rattle.mix_tree.specs.Nodes.{Documents}
use Rattle.lxp_core.specs.View.{Keeps, View}
use Rattle.mix_loop.specs.Loops.{StandIn}
use Rattle.mix_reach.specs.Reach.{CameFrom, Reaching, view_of as reached}
use Rattle.mix_reach.specs.Stores.{stores_of}
use Rattle.mix_lines.specs.declared.fault.LinesFault.{LinesFault}
use Rattle.plan_core.specs.PlanMade.{plan_value}
use Rattle.plan_core.specs.Valid.{HasSource}
use Rattle.lazy_value.specs.Named.{state_of}
use Rattle.mix_script.specs.Transcript.{Finished}
use Rattle.mix_script.specs.declared.step.Step.{Step}
use Rattle.view_stack.specs.Stacks.{Stacking, plans_of, view_of}
use Rattle.view_stack.specs.Steps.{AreOpen, AsksEach, Bounds}
use Rattle.xmas_read.specs.Results.{names_of_sources}
use Rattle.mix_place.specs.Placed.{ArePlaced}
use Rattle.mix_place.specs.Plans.{IsPlanOver}
use Rattle.mix_run.specs.Finishing.{HasFinished, IsFinishedOf}
use Rattle.mix_run.specs.Running.{all_documents, placed_of}
use Rattle.mix_run.proofs.Mounts.{count_names}
use Rattle.mix_run.proofs.ReadTables.{plan_within}
use Rattle.mix_run.proofs.Stacked.{over}
use Rattle.mix_run.proofs.StoodFor.{stands_itself}
use Rattle.mix_run.specs.TalkEnds.{TalkedAlong}
use Rattle.mix_run.specs.Talking.{IsTalkEnd, IsReachedTalkEnd, TalkOver}
use Rattle.mix_run.specs.declared.talking.Basis.{Basis}
use Rattle.mix_run.proofs.TalkLines.{talk_lines_end, talk_untaken}

module _ (files : FilesView) (a b : Reaching) (came : CameFrom a b) (basis : Basis) (valid : IsPlanOver basis.catalog (plan_value basis.plan)) (has : (d : Documents) → HasFinished d (plan_value basis.plan).ops (λ steps. Unit {0}))
    (unasked : a.fills ≡ 0) (input : InputView) (sink : SinkView) where
  -- the plan's sources are sources of the catalog
  within : AllByRecursion (HasSource (length basis.catalog)) (plan_value basis.plan).ops
  within = subst (λ (n : ℕ). AllByRecursion (HasSource n) (plan_value basis.plan).ops) (count_names basis.catalog) (plan_within basis.catalog (plan_value basis.plan) valid)

  module _ (input' : InputView) (sink' : SinkView) (end : Result Bool LinesFault) (k k' : Stacking) (base : k.base ≡ reached a) (base' : k'.base ≡ reached b) (Same : Type 0) (same_fills : Same → b.fills ≡ a.fills)
      (plans : plans_of k'.views ≡ plans_of k.views) (none_asked : k.fills ≡ 0) (lazy : (most : ℕ) → Bounds k.base (plans_of k.views) most → AreOpen k.base (plans_of k.views) → AsksEach k k' most) (keeps : Keeps k.base k'.base)
      (place : ArePlaced files (plan_value basis.plan).ops basis.catalog (placed_of a (plans_of k.views))) (h : IsTalkEnd Same (view_of k) (view_of k') basis input input' sink sink' end) where
    -- sources stand in for themselves below the stack
    stand : StandIn k.base k'.base a b
    stand = subst (λ (v : View). StandIn v k'.base a b) (sym base) (subst (λ (v : View). StandIn (reached a) v a b) (sym base') (stands_itself a b came))

    -- a talk over a stack ends as over what is below it, and the views
    pub talk_stack_ends : IsReachedTalkEnd a b (plans_of k.views) basis input input' sink sink' end
    talk_stack_ends few most =
        let found = has (all_documents (stores_of a) (placed_of a (plans_of k.views))) in
        let f : Finished = found.finished in
        let texts : (steps : List Step) → IsFinishedOf (all_documents (stores_of a) (placed_of a (plans_of k.views))) (plan_value basis.plan).ops steps f = λ steps. found.is steps tt in
        let Along : InputView → SinkView → Result Bool LinesFault → Type 0 = λ i s e. TalkedAlong (names_of_sources basis.catalog) (TalkOver b.fills (stores_of a) (stores_of b) (placed_of a (plans_of k.views)) basis) input i sink s e in
        elim h as (λ _. Along input' sink' end) [
          | inl w ↦
              talk_lines_end a b (plans_of k.views) basis f texts few (view_of k) (view_of k') (state_of (view_of k) w.mediator)
              (λ steps. over files a b k k' basis.catalog (plan_value basis.plan).ops place within keeps stand plans steps f unasked none_asked lazy most w.mediator w.ops_are (texts steps).document) input input' sink sink' end w.ends
          | inr none ↦ (
              let same = same_fills none.3 in
              let unasked_still : b.fills ≡ 0 = omega (arith, same, unasked) in
              subst (λ (i : InputView). Along i sink' end) (sym none.1)
              (subst (λ (s : SinkView). Along input s end) (sym none.2)
              (subst (λ (e : Result Bool LinesFault). Along input sink e) (sym none.0) (talk_untaken a b (plans_of k.views) basis f texts few came unasked_still input sink)))
              )
        ]
