-- What holds of a run over sources that stand in for others, and views over them, holds of a run over these.
use Rattle.std.proofs.Common.{◌≡◌, ◌+◌, ◌-◌, ◌^◌, ◌≤◌, inl, inr, ℕ, List, Option, Result, sym, subst, arith}
use Rattle.mix_io.specs.Views.{FilesView, SinkView}
use Rattle.lxp_core.specs.View.{View}
use Rattle.mix_loop.specs.Loops.{StandIn}
use Rattle.mix_reach.specs.Reach.{AreFewPages, CameFrom, Reaching, view_of}
use Rattle.mix_reach.specs.Stores.{StoresView, stores_of}
use Rattle.plan_core.specs.PlanMade.{plan_value}
use Rattle.plan_core.specs.declared.plan.Plan.{Plan}
use Rattle.mix_place.specs.Placed.{ArePlaced, Placed}
use Rattle.mix_place.specs.declared.refusal.Stop.{Stop}
use Rattle.mix_run.specs.Running.{IsEndOver, IsLinesEnd, LinesOver, by_fills, placed_of}
use Rattle.mix_run.specs.declared.asked.Asked.{Asked}
use Rattle.mix_run.specs.declared.outcome.Outcome.{Outcome}
use Rattle.mix_run.proofs.Answering.{tells_itself}

-- sources stand in for themselves
pub stands_itself : (a b : Reaching) → CameFrom a b → StandIn (view_of a) (view_of b) a b
stands_itself a b came = record { tells = tells_itself a; came = came; fills = omega arith; faults = λ s times h. h; earlier = λ s. omega arith }

-- where no fill was asked, no more pages were than fills
pub few_unfilled : (a b : Reaching) → CameFrom a b → b.fills ≡ 0 → b.mounted.tables.pages ≤ a.mounted.tables.pages + b.fills
few_unfilled a b came none = few came.pages
  where
    few : AreFewPages a b → b.mounted.tables.pages ≤ a.mounted.tables.pages + b.fills
    few (inl h) = omega (arith, h, none)
    few (inr h) = omega (arith, h, none)

module _ (asked : Asked) (before after : SinkView) (end : Result Outcome Stop) (a b : Reaching) (views : List (Option Plan))
    (h : IsLinesEnd (LinesOver (by_fills b.fills) (stores_of a) (stores_of b) (placed_of a views) asked) before after end) where
  -- the lines of a run over sources that were reached ended as they did, whatever the sources are called
  pub end_stood : (place : Placed) (stores stores' : StoresView) (fills : ℕ) (end' : Result Outcome Stop) → placed_of a views ≡ place → stores_of a ≡ stores → stores_of b ≡ stores' → fills ≡ b.fills → end' ≡ end
      → IsLinesEnd (LinesOver (by_fills fills) stores stores' place asked) before after end'
  end_stood place stores stores' fills end' d t t' f e =
      subst (λ (x : Placed). IsLinesEnd (LinesOver (by_fills fills) stores stores' x asked) before after end') d
      (subst (λ (x : StoresView). IsLinesEnd (LinesOver (by_fills fills) x stores' (placed_of a views) asked) before after end') t
      (subst (λ (x : StoresView). IsLinesEnd (LinesOver (by_fills fills) (stores_of a) x (placed_of a views) asked) before after end') t'
      (subst (λ (x : ℕ). IsLinesEnd (LinesOver (by_fills x) (stores_of a) (stores_of b) (placed_of a views) asked) before after end') (sym f)
      (subst (λ (x : Result Outcome Stop). IsLinesEnd (LinesOver (by_fills b.fills) (stores_of a) (stores_of b) (placed_of a views) asked) before after x) (sym e) h))))

module _ (old new : View) (views : List (Option Plan)) (asked : Asked) (before after : SinkView) (end : Result Outcome Stop) (files : FilesView) (a b : Reaching) (over : IsEndOver old new views asked before after end)
    (placed : ArePlaced files (plan_value asked.plan).ops asked.catalog (placed_of a views)) (unasked : a.fills ≡ 0) (stand : StandIn old new a b) (most : b.mounted.tables.pages ≤ 2 ^ 64 - 1) (most_fills : b.fills ≤ 2 ^ 64 - 1) where
  -- no more pages were asked than fills
  few : AreFewPages a b → b.mounted.tables.pages ≤ a.mounted.tables.pages + b.fills
  few (inl h) = omega (arith, h, unasked)
  few (inr h) = omega (arith, h, most)

  -- the lines of a run over sources that stood in for others ended as over these, whatever they are called
  pub reached_end : (place : Placed) (stores stores' : StoresView) (fills : ℕ) (end' : Result Outcome Stop) → placed_of a views ≡ place → stores_of a ≡ stores → stores_of b ≡ stores' → fills ≡ b.fills → end' ≡ end
      → IsLinesEnd (LinesOver (by_fills fills) stores stores' place asked) before after end'
  reached_end = end_stood asked before after end a b views (over files a b placed unasked stand (few stand.came.pages) most_fills)
