-- Operators one over another that pass on each binding: a walk below them is a walk over all of them.
use Rattle.std.proofs.Common.{◌≡◌, ◌≤◌, ℕ, zero, suc, Bool, true, false, None, List, refl, ◌∙◌, ap, sym, subst, arith}
use Rattle.std.specs.Prelude.{IsTrue}
use Rattle.mix_base.specs.Events.{cost}
use Rattle.lazy_descend.specs.Searches.{FindsNone}
use Rattle.lxp_core.specs.View.{View}
use Rattle.mix_tree.specs.declared.var.Key.{Key}
use Rattle.plan_core.specs.Fronts.{apart_over}
use Rattle.plan_core.specs.PlanMade.{plan_value}
use Rattle.plan_core.specs.Plans.{Operator}
use Rattle.plan_core.specs.Shapes.{Stage, extends, first_by_keys, Shape, shape_at, passes_on}
use Rattle.lazy_binding.specs.declared.parts.Fixed.{Fixed}
use Rattle.lazy_binding.specs.declared.parts.Growing.{Growing}
use Rattle.lazy_binding.specs.declared.position.Position.{Position, Start, Pass', First', Seen'}
use Rattle.lazy_binding.specs.World.{World}
use Rattle.lazy_binding.specs.Cursors.{ahead, number, stands, weighs, IsIn}
use Rattle.lazy_binding.specs.Parts.{operators, world_of}
use Rattle.lazy_binding.specs.Reading.{below}
use Rattle.lazy_steps.specs.Chains.{part_below, PassesNone, Descends, IsLifted}
use Rattle.lazy_steps.specs.Steps.{single, telling, Asks, Finds, Ran, CanStep, PassesEach, PassesAt}
use Rattle.lazy_steps.proofs.Goes.{in_shape}
use Rattle.lazy_steps.proofs.Inputs.{over_can}
use Rattle.lazy_steps.proofs.PassSteps.{each_over, each_at}

-- the position of the input in a position of an operator that passes on each binding is the one below
part_is : (ops : List Operator) (n i : ℕ) (stage : Stage) → PassesEach ops i stage → (w : World) (c : Position) → IsIn w ops n (passes_on i stage) c → below c ≡ part_below c
part_is ops n i (extends out made) e w Start h = refl
part_is ops n i (extends out made) e w (Pass' q c) h = refl
part_is ops n i (extends out made) e w c h = absurd h
part_is ops n i (first_by_keys keys None) e w Start h = refl
part_is ops n i (first_by_keys keys None) e w (Pass' q c) h = refl
part_is ops n i (first_by_keys keys None) e w (First' q c k) h = (let z : true ≡ false = sym e ∙ h.10 in cc)
part_is ops n i (first_by_keys keys None) e w (Seen' q c k) h = (let z : true ≡ false = sym e ∙ h.7 in cc)
part_is ops n i (first_by_keys keys None) e w c h = absurd h
part_is ops n i stage e w c h = absurd e

-- a walk of operator m from position d is one of operator n, in this shape, from position c, and what it finds is passed on by k operators
pub record IsUnder (p : Fixed) (v : View) (g : Growing) (n : ℕ) (f : Shape) (c : Position) (k m : ℕ) (d : Position) : Type 0 where
  pub can : CanStep v g p m d
  pub costs : cost (ahead (world_of v g) (operators p) m d) ≤ cost (stands (world_of v g) (operators p) n f c).ahead
  pub less : m ≤ n
  pub alone : IsTrue (single (operators p) n) → IsTrue (single (operators p) m)
  pub over : FindsNone (telling (world_of v g) (operators p)) (ahead (world_of v g) (operators p) m d) → FindsNone (telling (world_of v g) (operators p)) (stands (world_of v g) (operators p) n f c).ahead
  pub at : (b : World) (x y : Position) → Asks (world_of v g) b (operators p) m (ahead (world_of v g) (operators p) m d)
      → Finds (world_of v g) b (operators p) m (shape_at (operators p) m) (ahead (world_of v g) (operators p) m d) (number (world_of v g) (operators p) m d) x → IsLifted k x y
      → Finds (world_of v g) b (operators p) n f (stands (world_of v g) (operators p) n f c).ahead (weighs (world_of v g) (operators p) n f c) y

-- what a walk below asks is what one above asks
pub under_asks : {p : Fixed} {v : View} {g : Growing} {n : ℕ} {f : Shape} {c : Position} {k m : ℕ} {d : Position} → IsUnder p v g n f c k m d → {b : World}
    → Asks (world_of v g) b (operators p) m (ahead (world_of v g) (operators p) m d) → Asks (world_of v g) b (operators p) n (stands (world_of v g) (operators p) n f c).ahead
under_asks u asks = record {
  kept = asks.kept;
  above = λ j l. asks.above j (omega (arith, u.less, l));
  lazy = λ t f. omega (arith, asks.lazy t f, u.costs);
  none = λ s. asks.none (u.alone s);
}

-- what a walk below leaves is what one above leaves
pub under_ran : {S : Type 0} {view : S → View} {came_from : S → S → Type 0} {p : Fixed} {s : S} {g : Growing} {n : ℕ} {f : Shape} {c : Position} {k m : ℕ} {d : Position} {t : S} {h : Growing}
    → IsUnder p (view s) g n f c k m d → Ran view came_from (operators p) m (ahead (world_of (view s) g) (operators p) m d) s g t h
    → Ran view came_from (operators p) n (stands (world_of (view s) g) (operators p) n f c).ahead s g t h
under_ran u ran = record { came = ran.came; bench = ran.bench; asks = under_asks u ran.asks }

-- a walk below one operator that passes on each binding is a walk of that operator
step_under : {p : Fixed} {v : View} {g : Growing} {n : ℕ} {c : Position} → CanStep v g p n c → (i : ℕ) → PassesAt (operators p) n i
    → IsUnder p v g n (shape_at (operators p) n) c 1 i (part_below c)
step_under {p} {v} {g} {n} {c} can i passes =
    let stage = passes.0 in
    let h = in_shape can (passes_on i stage) passes.1 in
    let over = each_over can i stage passes.1 passes.2 in
    subst (λ (f : Shape). IsUnder p v g n f c 1 i (part_below c)) (sym passes.1)
    (subst (IsUnder p v g n (passes_on i stage) c 1 i) (part_is (operators p) n i stage passes.2 (world_of v g) c h) (record {
      can = over_can can over (below c) refl;
      costs = over.costs;
      less = (let less = over.less in omega (arith, less));
      alone = over.alone;
      over = over.over;
      at = λ b x y asks finds lifted.
          subst (Finds (world_of v g) b (operators p) n (passes_on i stage) (stands (world_of v g) (operators p) n (passes_on i stage) c).ahead (weighs (world_of v g) (operators p) n (passes_on i stage) c))
          (sym (subst (λ (z : Position). y ≡ Pass' lifted.1 z) lifted.2 lifted.3))
          (each_at (plan_value p.plan) can.fixed.valid n can.op i (world_of v g) b can.bench c asks x finds stage passes.1 passes.2 h lifted.1);
    }))

-- a walk below operators that pass on each binding, with one more of them on top
then_under : {p : Fixed} {v : View} {g : Growing} {n : ℕ} {f : Shape} {c : Position} {i : ℕ} {x : Position} {k m : ℕ} {d : Position} → IsUnder p v g n f c 1 i x
    → IsUnder p v g i (shape_at (operators p) i) x k m d → IsUnder p v g n f c (suc k) m d
then_under u w = record {
  can = w.can;
  costs = omega (arith, u.costs, w.costs);
  less = omega (arith, u.less, w.less);
  alone = λ s. w.alone (u.alone s);
  over = λ none. u.over (w.over none);
  at = λ b x y asks finds lifted. u.at b lifted.0 y (under_asks w asks) (w.at b x lifted.0 asks finds lifted.2) (lifted.0, lifted.1, refl, lifted.3);
}

-- operators one over another that pass on each binding: a walk below them is a walk over all of them
pub descends_under : {p : Fixed} {v : View} {g : Growing} (k n m : ℕ) (c d : Position) → CanStep v g p n c → Descends (operators p) n c k m d
    → IsUnder p v g n (shape_at (operators p) n) c k m d
descends_under {p} {v} {g} zero n m c d can way =
    subst (λ (z : ℕ). IsUnder p v g n (shape_at (operators p) n) c zero z d) (sym way.0)
    (subst (IsUnder p v g n (shape_at (operators p) n) c zero n) (sym way.1) (record {
      can = can;
      costs = omega arith;
      less = omega arith;
      alone = λ s. s;
      over = λ none. none;
      at = λ b x y asks finds lifted.
          subst (Finds (world_of v g) b (operators p) n (shape_at (operators p) n) (ahead (world_of v g) (operators p) n c) (number (world_of v g) (operators p) n c)) (sym lifted) finds;
    }))
descends_under (suc k) n m c d can way =
    let first = step_under can way.0 way.1 in
    then_under first (descends_under k way.0 m (part_below c) d first.can way.2)

-- a way down goes one operator further
pub descends_more : (ops : List Operator) (k n m i : ℕ) (c d : Position) → Descends ops n c k m d → PassesAt ops m i → Descends ops n c (suc k) i (part_below d)
descends_more ops zero n m i c d way passes = (i, subst (λ (z : ℕ). PassesAt ops z i) way.0 passes, (refl, ap part_below way.1))
descends_more ops (suc k) n m i c d way passes = (way.0, way.1, descends_more ops k way.0 m i (part_below c) d way.2 passes)

-- an operator that passes on no bindings as they are is no project that passes on each of them
pub none_apart : (ops : List Operator) (n i : ℕ) (keys : List Key) → shape_at ops n ≡ passes_on i (first_by_keys keys None) → PassesNone ops n → apart_over ops i keys ≡ false
none_apart ops n i keys is none = by_test (apart_over ops i keys) refl
  where
    by_test : (t : Bool) → apart_over ops i keys ≡ t → apart_over ops i keys ≡ false
    by_test true e = absurd (none i (first_by_keys keys None, is, e))
    by_test false e = e
