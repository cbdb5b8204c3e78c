-- The lines of a run, and those of its counts after them.
use Rattle.std.proofs.Common.{◌≡◌, ◌∙◌, ◌≤◌, ◌-◌, ◌++◌, inl, inr, ℕ, List, Result, Ok, Err, IfOk, IfErr, ap, sym, subst, length}
use Rattle.mix_io.specs.Views.{SinkView}
use Rattle.mix_io.proofs.Written.{one_more}
use Rattle.mix_reach.specs.Stores.{StoresView}
use Rattle.plan_core.specs.PlanMade.{plan_value}
use Rattle.mix_run.specs.declared.counting.Counts.{Counts}
use Rattle.mix_run.specs.declared.outcome.Outcome.{Outcome}
use Rattle.mix_place.specs.declared.refusal.Stop.{Stop}
use Rattle.mix_place.specs.declared.refusal.Stop.TheVariants.{Refused, SinkFailed, OutOfMemory}
use Rattle.mix_run.specs.declared.asked.Asked.{Asked}
use Rattle.mix_run.specs.Counting.{IsCounted, IsCountStop, lines_of_counts}
use Rattle.mix_run.specs.Counts.{class_over}
use Rattle.mix_run.specs.Runs.{lines_of_count}
use Rattle.mix_run.specs.Ends.{TookPrefix}
use Rattle.mix_run.specs.Running.{IsLinesEnd, LinesOver, by_fills, question}
use Rattle.mix_place.specs.Placed.{Placed}
use Rattle.mix_run.specs.Stops.{IsCut, IsCutShort, IsDoneAs, IsStopFrom, outcome_status}
use Rattle.mix_run.proofs.Further.{TookOn, answered_on}
use Rattle.mix_run.proofs.Lines.{cut_last, cut_on, first_prefix, nothing_more}

-- the counts of a run: its commands, its fills, its pages and the class of its view
pub record AreCounts (stores stores' : StoresView) (asked : Asked) (counts : Counts) : Type 0 where
  pub commands : counts.commands ≡ length asked.steps.items
  pub pages : counts.spent.pages ≡ stores'.tables.pages - stores.tables.pages
  pub class : counts.class ≡ class_over asked.catalog (plan_value asked.plan).ops

module _ (stores stores' : StoresView) (p : Placed) (asked : Asked) (counts : Counts) (are : AreCounts stores stores' asked counts) where
  -- the lines that answer the script, by the fills that were counted
  abbrev Answers : SinkView → SinkView → ℕ → List ℕ → Type 0
  Answers = LinesOver (by_fills counts.spent.fills) stores stores' p asked

  -- the lines of `count`: those that answer the script, and those of the counts
  abbrev Counted : SinkView → SinkView → ℕ → List ℕ → Type 0
  Counted = LinesOver lines_of_count stores stores' p asked

  -- the lines that write the counts
  abbrev more : List ℕ
  more = lines_of_counts counts

  module _ (before mid after : SinkView) (on : TookOn mid after) where
    -- the lines of a run's answers with those of its counts after them are a run with counts
    with_counts : (status : ℕ) (answers : List ℕ) → Answers before mid status answers → Counted before after status (answers ++ more)
    with_counts status answers h =
        (h.0, h.1, h.2, (counts.spent.fills, answers, answered_on before mid after on stores stores' (question stores p asked h.0) counts.spent.fills status answers h.3, ap (λ x. answers ++ x) same))
      where
        same : more ≡ lines_of_counts (record { commands = length asked.steps.items; spent = record { fills = counts.spent.fills; pages = stores'.tables.pages - stores.tables.pages }; class = class_over asked.catalog (plan_value asked.plan).ops })
        same =
            ap (λ n. lines_of_counts (record { commands = n; spent = counts.spent; class = counts.class })) are.commands
            ∙ ap (λ n. lines_of_counts (record { commands = length asked.steps.items; spent = record { fills = counts.spent.fills; pages = n }; class = counts.class })) are.pages
            ∙ ap (λ k. lines_of_counts (record { commands = length asked.steps.items; spent = record { fills = counts.spent.fills; pages = stores'.tables.pages - stores.tables.pages }; class = k })) are.class

    -- answers with counts whose lines were cut short stop the command
    cut_counted : (status : ℕ) (all : List ℕ) (stop : Stop) → Counted before after status all → IsCut before after all stop → IsStopFrom (stores' ≡ stores) (Counted before after) before after stop
    cut_counted status all (Refused r) course h = absurd h
    cut_counted status all SinkFailed course h = (h.0, (status, all, course, h.1))
    cut_counted status all OutOfMemory course h = inr (status, all, course, h)

  module _ (before mid after : SinkView) where
    -- a prefix of the lines of the answers is a prefix of the lines of answers and counts
    prefix_counted : TookPrefix (Answers before mid) before mid → TookPrefix (Counted before mid) before mid
    prefix_counted h = (h.0, h.1 ++ more, with_counts before mid mid (nothing_more mid.written) h.0 h.1 h.2, first_prefix before.written mid.written h.1 more h.3)

    -- a run with counts that was cut short in its answers was stopped
    cut_short : (stop : Stop) → IsCutShort (Answers before mid) before mid stop → IsStopFrom (stores' ≡ stores) (Counted before mid) before mid stop
    cut_short (Refused r) h = absurd h
    cut_short SinkFailed h = (h.0, prefix_counted h.1)
    cut_short OutOfMemory h = inr (prefix_counted h)

    module _ (count : before.faults ≤ mid.faults) where
      -- a run with counts was done where its answers and its counts were written
      pub counted_done : (end : Result Outcome Stop) (r : Result Outcome Stop) → IsLinesEnd Answers before mid end → IfOk r (IsCounted end mid after more)
          → IfOk r (IsDoneAs (Counted before after) before after)
      counted_done end (Ok outcome) h w =
          let done = subst (λ (e : Result Outcome Stop). IsLinesEnd Answers before mid e) w.0 h in
          (done.0 ++ more, with_counts before mid after (more, w.1) (outcome_status outcome) done.0 done.1, one_more before.written mid.written after.written done.0 more done.2 w.1)
      counted_done end (Err stop) h w = tt

      -- a run with counts was stopped where its answers or its counts were cut short
      pub counted_stopped : (end : Result Outcome Stop) (r : Result Outcome Stop) → IsLinesEnd Answers before mid end → IfErr r (IsCountStop end mid after more)
          → IfErr r (IsStopFrom (stores' ≡ stores) (Counted before after) before after)
      counted_stopped end (Ok outcome) h w = tt
      counted_stopped end (Err stop) h (inl w) =
          let cut = cut_short stop (subst (λ (e : Result Outcome Stop). IsLinesEnd Answers before mid e) w.0 h) in
          subst (λ (x : SinkView). IsStopFrom (stores' ≡ stores) (Counted before x) before x stop) (sym w.1) cut
      counted_stopped end (Err stop) h (inr w) =
          let done = subst (λ (e : Result Outcome Stop). IsLinesEnd Answers before mid e) w.1 h in
          let on = cut_on mid after more stop w.2 in
          cut_counted before mid after on (outcome_status w.0) (done.0 ++ more) stop (with_counts before mid after on (outcome_status w.0) done.0 done.1) (cut_last before mid after done.0 more stop done.2 count w.2)
