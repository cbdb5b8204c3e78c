-- What a call of a bench leaves of a walk.
use Rattle.std.proofs.Common.{ℕ}
use Rattle.lxp_core.specs.View.{View, Keeps as KeepsView}
use Rattle.lazy_plan.specs.Bench.{state_of}
use Rattle.lazy_site.specs.Steps.{Walked}
use Rattle.lazy_site.proofs.Heights.{roots_same, heights_kept}
use Rattle.lazy_walk.specs.Walks.{IsWalkOf, HasWalked}
use Rattle.lazy_walk.specs.declared.walk.Walk.{Walk}
use Rattle.lazy_walk.proofs.Placing.{nodes_stay}

-- what a call of a bench leaves, with heights that didn't rise, is what a call of a walk leaves
pub walk_goes_on : {S : Type 0} {view : S → View} {came_from : S → S → Type 0} → ((a b : S) → came_from a b → KeepsView (view a) (view b)) → (s t : S) (m n : Walk) (most : ℕ) → IsWalkOf (view s) m
    → Walked view came_from s m.bench t n.bench most → HasWalked view came_from s m t n
walk_goes_on {view = view} keeps s t m n most h w =
    let same = roots_same (view s) (view t) m.bench n.bench (keeps s t w.came) h in
    record {
      came = w.came;
      walk = w.bench;
      kept = w.kept;
      nodes = nodes_stay (state_of (view s) m.bench) (state_of (view t) n.bench) w.kept;
      heights = λ x i. heights_kept (state_of (view s) m.bench) (state_of (view t) n.bench) w.kept same x.site i.site;
    }
