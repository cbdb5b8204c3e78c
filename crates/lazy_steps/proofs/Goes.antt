-- How far a call has come: what is still ahead, and what it has cost.
use Rattle.std.proofs.Common.{◌≡◌, ◌<◌, ◌≤◌, ◌+◌, ◌*◌, ℕ, suc, List, Option, Some, None, refl, ◌∙◌, sym, subst, arith}
use Rattle.std.specs.Prelude.{IsTrue, Result, IfOk, option_map}
use Rattle.std.specs.declared.alloc.Global.{Global}
use Rattle.std.specs.declared.rc.Rc.{Rc}
use Rattle.std.proofs.lemmas.Nat.{mul-le}
use Rattle.std.proofs.lemmas.Result.{IfOk-weaker}
use Rattle.mix_base.specs.Events.{nothing, found, cost}
use Rattle.lazy_descend.specs.Searches.{TellsOn, Comes, FindsNone, GivesFirst}
use Rattle.lazy_descend.proofs.Searches.{still_told, still_forward, tells_then, comes_start, comes_none, comes_asks, comes_at, comes_then, comes_steps}
use Rattle.lxp_core.specs.View.{View}
use Rattle.plan_core.specs.Plans.{Operator}
use Rattle.plan_core.specs.Events.{RowEvents}
use Rattle.lxp_core.specs.declared.fault.WalkFault.{WalkFault}
use Rattle.lazy_binding.specs.declared.parts.Growing.{Growing}
use Rattle.lazy_binding.specs.declared.position.Position.{Position}
use Rattle.lazy_steps.specs.declared.step.Step.{Step}
use Rattle.lazy_binding.specs.Bench.{IsBench}
use Rattle.lazy_binding.specs.World.{World, is_told}
use Rattle.plan_core.specs.Shapes.{Shape, shape_at}
use Rattle.lazy_binding.specs.declared.parts.Fixed.{Fixed}
use Rattle.lazy_binding.specs.Cursors.{ahead, stands, weighs, IsIn, IsOf}
use Rattle.lazy_binding.specs.Reading.{below}
use Rattle.lazy_binding.specs.Keeping.{Keeps}
use Rattle.lazy_binding.specs.Parts.{operators, world_of}
use Rattle.lazy_steps.specs.Steps.{single, telling, IsUntouched, KeepsAbove, positions, outcome, Asks, Moves, Steps, Ran, CanStep, StepsIn, StepsFrom, Gives, Led, Advanced}
use Rattle.lazy_binding.proofs.Keep.{told-kept, forward-kept, keeps_same, keeps_then}

-- a number is at most itself
pub le_same : (n : ℕ) → n ≤ n
le_same n = omega arith

-- sources tell on over calls
pub tells_on : {a b : World} → Keeps a b → (ops : List Operator) → TellsOn (telling a ops) (telling b ops)
tells_on k ops = record { told = told-kept k ops; forward = forward-kept k ops }

-- of the events `whole` of operator n some were passed without a binding, `now` are still ahead, and what every call keeps was kept
pub record Goes (a b : World) (ops : List Operator) (n : ℕ) (whole now : RowEvents) (top num : ℕ) : Type 0 where
  pub kept : Keeps a b
  pub above : KeepsAbove a b n
  pub comes : Comes (telling a ops) (telling b ops) whole now top num
  pub none : IsTrue (single ops n) → b.view.fills ≡ a.view.fills

-- what two calls leave untouched
pub untouched_then : (a b c : World) (j : ℕ) → IsUntouched a b j → IsUntouched b c j → IsUntouched a c j
untouched_then a b c j x y = (y.0 ∙ x.0, y.1 ∙ x.1, y.2 ∙ x.2)

-- before any call all events are still ahead
pub goes_same : {w : World} {ops : List Operator} {n : ℕ} {whole now : RowEvents} {top num : ℕ} → Keeps w w → whole ≡ now → top ≡ num → Goes w w ops n whole now top num
goes_same k e f = record { kept = k; above = λ j l. (refl, refl, refl); comes = comes_start e f; none = λ s. refl }

-- where nothing was asked, no more was asked than events allow
pub asks_nothing : (a : World) (ops : List Operator) (n : ℕ) → Keeps a a → (es : RowEvents) → Asks a a ops n es
asks_nothing a ops n k es = record { kept = k; above = λ j l. (refl, refl, refl); lazy = λ t f. omega arith; none = λ s. refl }

module _ {a b c : World} {ops : List Operator} {n : ℕ} {whole now : RowEvents} {top num : ℕ} (g : Goes a b ops n whole now top num) where
  -- what is left to do ends what was begun
  pub goes_asks : Asks b c ops n now → Asks a c ops n whole
  goes_asks k = record { kept = keeps_then g.kept k.kept; above = λ j l. untouched_then a b c j (g.above j l) (k.above j l); lazy = comes_asks g.comes (telling c ops) k.lazy; none = λ s. k.none s ∙ g.none s }

  -- a step of the events that are still ahead goes on the walk over all events
  pub goes_on : (f : Shape) (d : Position) → Asks b c ops n now → Moves b c ops n f now num d → Goes a c ops n whole (stands c ops n f d).ahead top (weighs c ops n f d)
  goes_on f d k m = record {
    kept = keeps_then g.kept k.kept;
    above = λ j l. untouched_then a b c j (g.above j l) (k.above j l);
    comes = comes_then g.comes {now = positions c ops n f} (tells_on k.kept ops) m;
    none = λ s. k.none s ∙ g.none s;
  }

  -- where that walk went on, so did the whole
  pub goes_then : {later : RowEvents} {less : ℕ} → Goes b c ops n now later num less → Goes a c ops n whole later top less
  goes_then k = record {
    kept = keeps_then g.kept k.kept;
    above = λ j l. untouched_then a b c j (g.above j l) (k.above j l);
    comes = record {
      tells = tells_then g.comes.tells k.comes.tells;
      falls = omega (arith, g.comes.falls, k.comes.falls);
      found = λ t. g.comes.found t ∙ k.comes.found (still_told g.comes.tells t);
      lazy = λ t f. omega (arith, g.comes.lazy t f, k.comes.lazy (still_told g.comes.tells t) (still_forward g.comes.tells f));
    };
    none = λ s. k.none s ∙ g.none s;
  }

-- what a call of a step came to
pub goes_result : {a b : World} (c : World) {ops : List Operator} {n : ℕ} {whole now : RowEvents} {top num : ℕ} → Goes a b ops n whole now top num → (f : Shape) (r : Result Step WalkFault)
    → IfOk r (Steps b c ops n f now num) → IfOk r (Steps a c ops n f whole top)
goes_result c {ops} {n} g f r h = IfOk-weaker r _ _ (λ x m. comes_steps g.comes (telling c ops) (positions c ops n f) (outcome x) m) h

-- what a walk over the events ahead gives, it gives over all
pub goes_given : {a b : World} (c : World) {ops : List Operator} {n : ℕ} {whole now : RowEvents} {top num : ℕ} → Goes a b ops n whole now top num → (f : Shape) (r : Option Position)
    → GivesFirst (telling b ops) (positions c ops n f) now num r → GivesFirst (telling a ops) (positions c ops n f) whole top r
goes_given c g f None h = comes_none g.comes h
goes_given c g f (Some d) h = comes_at g.comes h

-- what a walk over the events ahead came to
pub goes_gives : {a b : World} (c : World) {ops : List Operator} {n : ℕ} {whole now : RowEvents} {top num : ℕ} → Goes a b ops n whole now top num → (f : Shape) (r : Result (Option (Rc Position Global)) WalkFault)
    → IfOk r (Gives b c ops n f now num) → IfOk r (Gives a c ops n f whole top)
goes_gives c g f r h = IfOk-weaker r _ _ (λ x m. goes_given c g f (option_map (λ d. d.value) x) m) h

-- the bound of a product by its first factor
pub less_times : (x y r s : ℕ) → x < y → r ≤ s → x * suc s + r < y * suc s
less_times x y r s h k = omega (arith, mul-le (suc x) (suc s) y (suc s) h (le_same (suc s)))

module _ {S : Type 0} {view : S → View} {came_from : S → S → Type 0} {ops : List Operator} where
  -- two calls one after another, of which the first left events ahead, leave what one call over all of them leaves
  pub ran_then : ((x y z : S) → came_from x y → came_from y z → came_from x z) → {n : ℕ} {whole now : RowEvents} {top num : ℕ} {s t u : S} {g h i : Growing}
      → came_from s t → Goes (world_of (view s) g) (world_of (view t) h) ops n whole now top num → Ran view came_from ops n now t h u i → Ran view came_from ops n whole s g u i
  ran_then after {n} {whole} {now} {top} {num} {s} {t} {u} came goes ran = record {
    came = after s t u came ran.came;
    bench = ran.bench;
    asks = goes_asks goes ran.asks;
  }

  -- a call on an input, as a call on the operator
  pub ran_over : {i n : ℕ} {es fs : RowEvents} {s t : S} {g h : Growing} → Ran view came_from ops i es s g t h
      → (cost es ≤ cost fs) → (i < n) → (IsTrue (single ops n) → IsTrue (single ops i)) → Ran view came_from ops n fs s g t h
  ran_over ran l less alone = record {
    came = ran.came;
    bench = ran.bench;
    asks = record {
      kept = ran.asks.kept;
      above = λ j m. ran.asks.above j (omega (arith, less, m));
      lazy = λ t f. omega (arith, ran.asks.lazy t f, l);
      none = λ s. ran.asks.none (alone s);
    };
  }

-- where nothing is called, nothing is asked and the bench is as it was
pub ran_nothing : {S : Type 0} {view : S → View} {came_from : S → S → Type 0} {ops : List Operator} → ((x : S) → came_from x x) → (n : ℕ) (es : RowEvents) (s : S) (g : Growing)
    → IsBench (world_of (view s) g) ops → Ran view came_from ops n es s g s g
ran_nothing {S} {view} {came_from} {ops} same n es s g bench = record {
  came = same s;
  bench = bench;
  asks = asks_nothing (world_of (view s) g) ops n (keeps_same (world_of (view s) g) ops bench) es;
}

-- a step in its own shape is one of the operator
pub shaped : {S : Type 0} {view : S → View} {came_from : S → S → Type 0} {p : Fixed} {n : ℕ} {s : S} {g : Growing} {s' : S} {g' : Growing} {result : Result Step WalkFault}
    (c : Position) (f : Shape) → shape_at (operators p) n ≡ f → StepsIn view came_from p n f c s g s' g' result → StepsFrom view came_from p n c s g s' g' result
shaped {view} {came_from} {p} {n} {s} {g} {s'} {g'} {result} c f is h = subst (λ (z : Shape). StepsIn view came_from p n z c s g s' g' result) (sym is) h

-- a position that a step takes, in its shape
pub in_shape : {v : View} {g : Growing} {p : Fixed} {n : ℕ} {c : Position} → CanStep v g p n c → (f : Shape) → shape_at (operators p) n ≡ f → IsIn (world_of v g) (operators p) n f c
in_shape {v} {g} {p} {n} {c} can f is = subst (λ (z : Shape). IsIn (world_of v g) (operators p) n z c) is can.cursor

-- a position stands over one of the input of its operator
pub record IsOver (ops : List Operator) (n i : ℕ) (f : Shape) (a : World) (c : Position) : Type 0 where
  pub input : IsOf a ops i (below c)
  pub costs : cost (ahead a ops i (below c)) ≤ cost (stands a ops n f c).ahead
  pub less : i < n
  pub alone : IsTrue (single ops n) → IsTrue (single ops i)
  pub over : (FindsNone (telling a ops) (ahead a ops i (below c))) → IsTrue (is_told a ops) → found (stands a ops n f c).ahead ≡ nothing

-- a step from a position in its own words
pub placed : {S : Type 0} {view : S → View} {came_from : S → S → Type 0} {p : Fixed} {n : ℕ} {s : S} {g : Growing} {s' : S} {g' : Growing} {result : Result Step WalkFault}
    (c d : Position) → c ≡ d → (f : Shape) → shape_at (operators p) n ≡ f → StepsIn view came_from p n f d s g s' g' result → StepsFrom view came_from p n c s g s' g' result
placed {view} {came_from} {p} {n} {s} {g} {s'} {g'} {result} c d e f is h =
    shaped c f is (subst (λ (z : Position). StepsIn view came_from p n f z s g s' g' result) (sym e) h)

-- a walk in the shape of its operator is one of the operator
pub led : {S : Type 0} {view : S → View} {came_from : S → S → Type 0} {p : Fixed} {n : ℕ} {s : S} {g : Growing} {s' : S} {g' : Growing} {result : Result (Option (Rc Position Global)) WalkFault}
    (c : Position) (f : Shape) → shape_at (operators p) n ≡ f
    → Led view came_from p n f (stands (world_of (view s) g) (operators p) n f c).ahead (weighs (world_of (view s) g) (operators p) n f c) s g s' g' result
    → Advanced view came_from p n c s g s' g' result
led {S} {view} {came_from} {p} {n} {s} {g} {s'} {g'} {result} c f is h =
    let w = world_of (view s) g in
    let k = subst (λ (z : Shape). Led view came_from p n z (stands w (operators p) n z c).ahead (weighs w (operators p) n z c) s g s' g' result) (sym is) h in
    record { ran = k.ran; cause = k.cause; answer = k.answer }

-- a walk from a position in its own words
pub led_at : {S : Type 0} {view : S → View} {came_from : S → S → Type 0} {p : Fixed} {n : ℕ} {s : S} {g : Growing} {s' : S} {g' : Growing} {result : Result (Option (Rc Position Global)) WalkFault}
    (c d : Position) → c ≡ d → (f : Shape) → shape_at (operators p) n ≡ f
    → Led view came_from p n f (stands (world_of (view s) g) (operators p) n f d).ahead (weighs (world_of (view s) g) (operators p) n f d) s g s' g' result
    → Advanced view came_from p n c s g s' g' result
led_at {S} {view} {came_from} {p} {n} {s} {g} {s'} {g'} {result} c d e f is h =
    let w = world_of (view s) g in
    led c f is (subst (λ (z : Position). Led view came_from p n f (stands w (operators p) n f z).ahead (weighs w (operators p) n f z) s g s' g' result) (sym e) h)

-- a position that is given in other words is the same position
pub in_place : {v : View} {g : Growing} {p : Fixed} {n : ℕ} {c : Position} → CanStep v g p n c → (f : Shape) → shape_at (operators p) n ≡ f → (d : Position) → c ≡ d → IsIn (world_of v g) (operators p) n f d
in_place {v} {g} {p} {n} {c} can f is d e = subst (IsIn (world_of v g) (operators p) n f) e (in_shape can f is)
