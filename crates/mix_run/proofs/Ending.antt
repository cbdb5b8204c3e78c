-- How the lines of a run over a stack of views end, where the sources below stand in for others that are reached.
use Rattle.std.proofs.Common.{◌≡◌, inl, inr, ℕ, List, Option, Result, Err, ap, arith, sym, subst, length}
use Rattle.std.specs.List.{AllByRecursion}
use Rattle.mix_io.specs.Views.{SinkView}
use Rattle.mix_tree.specs.Nodes.{Documents}
use Rattle.lxp_core.specs.View.{Keeps, View}
use Rattle.mix_place.specs.declared.refusal.Stop.{Stop}
use Rattle.mix_place.specs.declared.refusal.Stop.TheVariants.{OutOfMemory}
use Rattle.mix_reach.specs.Stores.{stores_of}
use Rattle.plan_core.specs.declared.plan.Plan.{Plan}
use Rattle.plan_core.specs.PlanMade.{plan_value}
use Rattle.plan_core.specs.Valid.{HasSource}
use Rattle.lazy_value.specs.Named.{state_of}
use Rattle.mix_script.specs.Transcript.{Finished}
use Rattle.view_stack.specs.Stacks.{Stacking, plans_of, view_of}
use Rattle.view_stack.specs.Steps.{AreOpen, AsksEach, Bounds}
use Rattle.mix_place.specs.Plans.{IsPlanOver}
use Rattle.mix_run.specs.declared.asked.Asked.{Asked}
use Rattle.mix_run.specs.declared.outcome.Outcome.{Outcome}
use Rattle.mix_run.specs.Finishing.{IsFinishedOf}
use Rattle.mix_run.specs.Running.{IsEnd, IsEndOver, IsLinesEnd, LinesOver, all_documents, by_fills, placed_of}
use Rattle.mix_run.proofs.LinesEnd.{lines_end, lines_unbegun}
use Rattle.mix_run.proofs.Mounts.{count_names}
use Rattle.mix_run.proofs.ReadTables.{plan_within}
use Rattle.mix_run.proofs.Stacked.{over}

module _ (asked : Asked) (valid : IsPlanOver asked.catalog (plan_value asked.plan)) (has : (d : Documents) → (f : Finished) × IsFinishedOf d (plan_value asked.plan).ops asked.steps.items f)
    (before : SinkView) where
  -- the plan's sources are sources of the catalog
  within : AllByRecursion (HasSource (length asked.catalog)) (plan_value asked.plan).ops
  within = subst (λ (n : ℕ). AllByRecursion (HasSource n) (plan_value asked.plan).ops) (count_names asked.catalog) (plan_within asked.catalog (plan_value asked.plan) valid)

  module _ (after : SinkView) (end : Result Outcome Stop) (k k' : Stacking) (Same : Type 0) (same_below : Same → k'.base ≡ k.base) (keeps : Keeps k.base k'.base) (plans : plans_of k'.views ≡ plans_of k.views) (none_asked : k.fills ≡ 0)
      (lazy : (most : ℕ) → Bounds k.base (plans_of k.views) most → AreOpen k.base (plans_of k.views) → AsksEach k k' most) (h : IsEnd Same (view_of k) (view_of k') asked before after end) where
    -- the lines of a run over a stack ended as over what its sources stand in for, and the views over that
    pub stack_ends : IsEndOver k.base k'.base (plans_of k.views) asked before after end
    stack_ends files a b place unasked stand few most =
        let found = has (all_documents (stores_of a) (placed_of a (plans_of k.views))) in
        let f : Finished = found.0 in
        elim h as (λ _. IsLinesEnd (LinesOver (by_fills b.fills) (stores_of a) (stores_of b) (placed_of a (plans_of k.views)) asked) before after end) [
          | inl w ↦ (
              let st = state_of (view_of k) w.mediator in
              let is = over files a b k k' asked.catalog (plan_value asked.plan).ops place within keeps stand plans asked.steps.items f unasked none_asked lazy most w.mediator w.ops_are found.1.document in
              lines_end a b (plans_of k.views) asked f found.1 few (view_of k) (view_of k') st is before after w.result end w.end_is w.ends
              )
          | inr none ↦ (
              let s = stand.fills in
              let same_fills : k'.base.fills ≡ k.base.fills = ap (λ (v : View). v.fills) (same_below none.2) in
              let unasked_still : b.fills ≡ 0 = omega (arith, s, same_fills, unasked) in
              subst (λ (x : SinkView). IsLinesEnd (LinesOver (by_fills b.fills) (stores_of a) (stores_of b) (placed_of a (plans_of k.views)) asked) before x end) (sym none.1)
              (subst (λ (r : Result Outcome Stop). IsLinesEnd (LinesOver (by_fills b.fills) (stores_of a) (stores_of b) (placed_of a (plans_of k.views)) asked) before before r) (sym none.0)
              (lines_unbegun a b (plans_of k.views) asked f found.1 few stand.came unasked_still before))
              )
        ]

  -- where memory ran out before there was a stack, nothing was written of the run's lines
  pub unopened_ends : (v : View) (views : List (Option Plan)) → IsEndOver v v views asked before before (Err OutOfMemory)
  unopened_ends v views files a b place unasked stand few most =
      let found = has (all_documents (stores_of a) (placed_of a views)) in
      let s = stand.fills in
      lines_unbegun a b views asked found.0 found.1 few stand.came (omega (arith, s, unasked)) before
