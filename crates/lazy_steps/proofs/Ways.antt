-- A walk of an operator, step by step, up to a binding.
use Rattle.std.proofs.Common.{◌≡◌, ℕ, Option, Some, None, List, refl, sym, subst, ap, ◌∙◌}
use Rattle.std.specs.Prelude.{MatchOption}
use Rattle.mix_tree.specs.declared.var.Key.{Key}
use Rattle.plan_core.specs.declared.plan.Piece.{Piece}
use Rattle.plan_core.specs.Shapes.{Shape, first_by_keys, shape_at, passes_on}
use Rattle.lxp_core.specs.View.{View}
use Rattle.lazy_binding.specs.declared.parts.Fixed.{Fixed}
use Rattle.lazy_binding.specs.declared.parts.Growing.{Growing}
use Rattle.lazy_binding.specs.declared.position.Position.{Position}
use Rattle.lazy_binding.specs.Cursors.{ahead, number, stands, weighs}
use Rattle.lazy_binding.specs.Growth.{IsUnknown, Resumes}
use Rattle.lazy_binding.specs.Parts.{operators, world_of}
use Rattle.lazy_binding.proofs.Keep.{keeps_same}
use Rattle.lazy_steps.specs.Steps.{at_of, telling, CanStep, Moves, Ran}
use Rattle.lazy_descend.specs.Searches.{FindsNone}
use Rattle.lazy_descend.proofs.Searches.{comes_none}
use Rattle.lazy_binding.specs.declared.position.Reached.{Reached}
use Rattle.lazy_binding.specs.Reading.{below, count_of}
use Rattle.lazy_steps.proofs.Inputs.{over_can}
use Rattle.lazy_steps.proofs.Goes.{Goes, IsOver, goes_same, goes_on, ran_then, ran_over, asks_nothing, in_shape}
use Rattle.lazy_steps.proofs.Resuming.{firsts_resume}

-- from position c of operator n a walk has come to its position d, with no binding before d or at it
pub record Way {S : Type 0} (view : S → View) (came_from : S → S → Type 0) (p : Fixed) (n : ℕ) (c : Position) (s : S) (g : Growing) (s' : S) (g' : Growing) (d : Position) : Type 0 where
  pub came : came_from s s'
  pub goes : Goes (world_of (view s) g) (world_of (view s') g') (operators p) n (ahead (world_of (view s) g) (operators p) n c) (ahead (world_of (view s') g') (operators p) n d)
      (number (world_of (view s) g) (operators p) n c) (number (world_of (view s') g') (operators p) n d)
  pub can : CanStep (view s') g' p n d

-- a walk begins where it stands
pub way_start : {S : Type 0} {view : S → View} {came_from : S → S → Type 0} {p : Fixed} {n : ℕ} {c : Position} {s : S} {g : Growing} → ((x : S) → came_from x x)
    → CanStep (view s) g p n c → Way view came_from p n c s g s g c
way_start {S} {view} {came_from} {p} {n} {c} {s} {g} same can = record { came = same s; goes = goes_same (keeps_same (world_of (view s) g) (operators p) can.bench) refl refl; can = can }

module _ {S : Type 0} {view : S → View} {came_from : S → S → Type 0} (after : (x y z : S) → came_from x y → came_from y z → came_from x z) {p : Fixed} {n : ℕ} {c d : Position} {s t u : S} {g h i : Growing}
    (way : Way view came_from p n c s g t h d) (ran : Ran view came_from (operators p) n (ahead (world_of (view t) h) (operators p) n d) t h u i) where
  -- what a further call leaves, the walk leaves
  pub way_ran : Ran view came_from (operators p) n (ahead (world_of (view s) g) (operators p) n c) s g u i
  way_ran = ran_then after way.came way.goes ran

  -- a call that comes to an event without a binding goes on
  pub way_on : (e : Position) → Moves (world_of (view t) h) (world_of (view u) i) (operators p) n (shape_at (operators p) n) (ahead (world_of (view t) h) (operators p) n d) (number (world_of (view t) h) (operators p) n d) e
      → Way view came_from p n c s g u i e
  way_on e move = record {
    came = after s t u way.came ran.came;
    goes = goes_on way.goes (shape_at (operators p) n) e ran.asks move;
    can = record { fixed = way.can.fixed; op = way.can.op; bench = ran.bench; cursor = move.cursor };
  }

-- where a walk over first bindings by keys begins: at the last member that was found of the group at hand, or where it stands
pub way_resumed : {S : Type 0} {view : S → View} {came_from : S → S → Type 0} {p : Fixed} {n : ℕ} {c : Position} {s : S} {g : Growing} → ((x : S) → came_from x x) → CanStep (view s) g p n c
    → (i : ℕ) (keys : List Key) (group : Option (Piece × ℕ)) → shape_at (operators p) n ≡ passes_on i (first_by_keys keys group)
    → (r : Option Position) → MatchOption r (IsUnknown g.walked.reached.items n c) (Resumes g.walked.reached.items n c) → Way view came_from p n c s g s g (at_of r c)
way_resumed same can i keys group is None h = way_start same can
way_resumed {S} {view} {came_from} {p} {n} {c} {s} {g} same can i keys group is (Some d) h =
    let w = world_of (view s) g in
    let move = subst (λ (z : Shape). Moves w w (operators p) n z (stands w (operators p) n z c).ahead (weighs w (operators p) n z c) d) (sym is)
    (firsts_resume (operators p) n i keys group is w can.bench c (in_shape can (passes_on i (first_by_keys keys group)) is) d h) in
    record {
      came = same s;
      goes = goes_on (goes_same (keeps_same w (operators p) can.bench) refl refl) (shape_at (operators p) n) d (asks_nothing w (operators p) n (keeps_same w (operators p) can.bench) (ahead w (operators p) n c)) move;
      can = record { fixed = can.fixed; op = can.op; bench = can.bench; cursor = move.cursor };
    }

-- a walk that goes on from the last member that was found has seen as many keys as where it stands
pub resumed_count : (reached : List (Option Reached)) (n : ℕ) (c : Position) (later : Option Position) → MatchOption later (IsUnknown reached n c) (Resumes reached n c) → count_of (at_of later c) ≡ count_of c
resumed_count reached n c None h = refl
resumed_count reached n c (Some d) (r, q, x, u, there, at, to) = ap count_of to ∙ sym (ap count_of at)

-- from position c of operator n a walk has come to a position over position x of an input, with no binding before it or at it
pub record WayOver {S : Type 0} (view : S → View) (came_from : S → S → Type 0) (p : Fixed) (n : ℕ) (c : Position) (s : S) (g : Growing) (s' : S) (g' : Growing) (x : Position) : Type 0 where
  pub at : Position
  pub way : Way view came_from p n c s g s' g' at
  pub over : below at ≡ x

module _ {S : Type 0} {view : S → View} {came_from : S → S → Type 0} {p : Fixed} {n i : ℕ} {f : Shape} (is : shape_at (operators p) n ≡ f) {c x : Position} {s t : S} {g h : Growing}
    (z : WayOver view came_from p n c s g t h x) (over : IsOver (operators p) n i f (world_of (view t) h) z.at) where
  -- the input can step from the position over which a walk stands
  pub way_can : CanStep (view t) h p i x
  way_can = over_can z.way.can over x (sym z.over)

  -- a walk of the input is one of the operator
  pub way_under : {u : S} {j : Growing} → Ran view came_from (operators p) i (ahead (world_of (view t) h) (operators p) i x) t h u j
      → Ran view came_from (operators p) n (ahead (world_of (view t) h) (operators p) n z.at) t h u j
  way_under {u} {j} ran =
      subst (λ (y : Shape). Ran view came_from (operators p) n (stands (world_of (view t) h) (operators p) n y z.at).ahead t h u j) (sym is)
      (ran_over (subst (λ (y : Position). Ran view came_from (operators p) i (ahead (world_of (view t) h) (operators p) i y) t h u j) (sym z.over) ran) over.costs over.less over.alone)

  -- where the input has no more bindings, the operator has none
  pub way_none : FindsNone (telling (world_of (view t) h) (operators p)) (ahead (world_of (view t) h) (operators p) i x)
      → FindsNone (telling (world_of (view s) g) (operators p)) (ahead (world_of (view s) g) (operators p) n c)
  way_none none = comes_none z.way.goes.comes
      (subst (λ (y : Shape). FindsNone (telling (world_of (view t) h) (operators p)) (stands (world_of (view t) h) (operators p) n y z.at).ahead) (sym is)
      (over.over (subst (λ (y : Position). FindsNone (telling (world_of (view t) h) (operators p)) (ahead (world_of (view t) h) (operators p) i y)) (sym z.over) none)))
