-- A walk over the bindings that meet a comparison, from a binding of its input to the next.
use Rattle.std.proofs.Common.{◌≡◌, Bool, true, false, Some, ◌∙◌, sym, subst}
use Rattle.std.specs.Prelude.{IsTrue, Ok}
use Rattle.std.specs.declared.alloc.Global.{Global}
use Rattle.std.specs.declared.rc.Rc.{Rc}
use Rattle.lazy_descend.proofs.Searches.{comes_at}
use Rattle.lxp_core.specs.View.{View}
use Rattle.mix_tree.specs.Comparisons.{passes}
use Rattle.plan_core.specs.Shapes.{Shape, filters, shape_at, passes_on}
use Rattle.plan_core.specs.TolledRows.{row_node}
use Rattle.lazy_binding.specs.declared.parts.Growing.{Growing}
use Rattle.lazy_binding.specs.declared.position.Position.{Position, Pass'}
use Rattle.lazy_binding.specs.Cursors.{ahead, binding, number, stands, weighs}
use Rattle.lazy_binding.specs.Parts.{operators, shape_walked, world_of}
use Rattle.lazy_binding.specs.Reading.{below, Tells}
use Rattle.lazy_binding.specs.World.{docs_of, is_told}
use Rattle.lazy_steps.specs.declared.pass_steps.Filter.{Filter}
use Rattle.lazy_steps.specs.Steps.{Advanced, Asks, Finds, Moves, Ran}
use Rattle.lazy_steps.proofs.Goes.{IsOver, in_shape}
use Rattle.lazy_steps.proofs.PassSteps.{filter_over, filter_at, filter_on}
use Rattle.lazy_steps.proofs.Ways.{WayOver, way_ran, way_under}

module _ {S : Type 0} {view : S → View} {came_from : S → S → Type 0} (k : Filter) (is : shape_walked k.walk ≡ passes_on k.input (filters k.test.now)) {c x : Position} {s t : S} {g h : Growing}
    (z : WayOver view came_from k.walk.fixed.now k.walk.op c s g t h x) where
  -- the position to which the walk has come stands over one of the input
  pub select_over : IsOver (operators k.walk.fixed.now) k.walk.op k.input (passes_on k.input (filters k.test.now)) (world_of (view t) h) z.at
  select_over = filter_over z.way.can k.input k.test.now is

  module _ {u : S} {j : Growing} (ran : Ran view came_from (operators k.walk.fixed.now) k.input (ahead (world_of (view t) h) (operators k.walk.fixed.now) k.input x) t h u j) (y : Position)
      (f : Finds (world_of (view t) h) (world_of (view u) j) (operators k.walk.fixed.now) k.input (shape_at (operators k.walk.fixed.now) k.input) (ahead (world_of (view t) h) (operators k.walk.fixed.now) k.input x) (number (world_of (view t) h) (operators k.walk.fixed.now) k.input x) y) where
    -- what the input was asked, from the position over which the walk stands
    asked : Asks (world_of (view t) h) (world_of (view u) j) (operators k.walk.fixed.now) k.input (ahead (world_of (view t) h) (operators k.walk.fixed.now) k.input (below z.at))
    asked = subst (λ (w : Position). Asks (world_of (view t) h) (world_of (view u) j) (operators k.walk.fixed.now) k.input (ahead (world_of (view t) h) (operators k.walk.fixed.now) k.input w)) (sym z.over) ran.asks

    -- what the input found, from there
    came_to : Finds (world_of (view t) h) (world_of (view u) j) (operators k.walk.fixed.now) k.input (shape_at (operators k.walk.fixed.now) k.input) (ahead (world_of (view t) h) (operators k.walk.fixed.now) k.input (below z.at)) (number (world_of (view t) h) (operators k.walk.fixed.now) k.input (below z.at)) y
    came_to = subst (λ (w : Position). Finds (world_of (view t) h) (world_of (view u) j) (operators k.walk.fixed.now) k.input (shape_at (operators k.walk.fixed.now) k.input) (ahead (world_of (view t) h) (operators k.walk.fixed.now) k.input w) (number (world_of (view t) h) (operators k.walk.fixed.now) k.input w) y) (sym z.over) f

    -- a binding of the input that meets the comparison is one of the operator
    pub select_found : (IsTrue (is_told (world_of (view u) j) (operators k.walk.fixed.now)) → passes (docs_of (world_of (view u) j)) k.test.now (row_node (binding (world_of (view u) j) (operators k.walk.fixed.now) k.input y)) ≡ true) → (q : _)
        → Finds (world_of (view t) h) (world_of (view u) j) (operators k.walk.fixed.now) k.walk.op (shape_at (operators k.walk.fixed.now) k.walk.op) (ahead (world_of (view t) h) (operators k.walk.fixed.now) k.walk.op z.at) (number (world_of (view t) h) (operators k.walk.fixed.now) k.walk.op z.at) (Pass' q y)
    select_found meets q =
        subst (λ (w : Shape). Finds (world_of (view t) h) (world_of (view u) j) (operators k.walk.fixed.now) k.walk.op w (stands (world_of (view t) h) (operators k.walk.fixed.now) k.walk.op w z.at).ahead (weighs (world_of (view t) h) (operators k.walk.fixed.now) k.walk.op w z.at) (Pass' q y)) (sym is)
        (filter_at (operators k.walk.fixed.now) z.way.can.fixed.typed k.walk.op z.way.can.op k.input k.test.now is (world_of (view t) h) (world_of (view u) j) z.at (in_shape z.way.can (passes_on k.input (filters k.test.now)) is) z.way.can.bench asked y came_to q meets)

    -- a binding of the input that doesn't is passed
    pub select_passed : (IsTrue (is_told (world_of (view u) j) (operators k.walk.fixed.now)) → passes (docs_of (world_of (view u) j)) k.test.now (row_node (binding (world_of (view u) j) (operators k.walk.fixed.now) k.input y)) ≡ false) → (q : _)
        → Moves (world_of (view t) h) (world_of (view u) j) (operators k.walk.fixed.now) k.walk.op (shape_at (operators k.walk.fixed.now) k.walk.op) (ahead (world_of (view t) h) (operators k.walk.fixed.now) k.walk.op z.at) (number (world_of (view t) h) (operators k.walk.fixed.now) k.walk.op z.at) (Pass' q y)
    select_passed fails q =
        subst (λ (w : Shape). Moves (world_of (view t) h) (world_of (view u) j) (operators k.walk.fixed.now) k.walk.op w (stands (world_of (view t) h) (operators k.walk.fixed.now) k.walk.op w z.at).ahead (weighs (world_of (view t) h) (operators k.walk.fixed.now) k.walk.op w z.at) (Pass' q y)) (sym is)
        (filter_on (operators k.walk.fixed.now) z.way.can.fixed.typed k.walk.op z.way.can.op k.input k.test.now is (world_of (view t) h) (world_of (view u) j) z.at (in_shape z.way.can (passes_on k.input (filters k.test.now)) is) z.way.can.bench asked y came_to q fails)

    -- whether the comparison holds of the input's binding, as it was told of that binding's position
    meets : (d : Position) → d ≡ y → (holds : Bool) → Tells j (record { fixed = k.walk.fixed; op = k.input }) d (λ w docs row. holds ≡ passes docs k.test.now (row_node row))
        → IsTrue (is_told (world_of (view u) j) (operators k.walk.fixed.now)) → passes (docs_of (world_of (view u) j)) k.test.now (row_node (binding (world_of (view u) j) (operators k.walk.fixed.now) k.input y)) ≡ holds
    meets d e holds tells told =
        sym ((subst (λ (w : Position). Tells j (record { fixed = k.walk.fixed; op = k.input }) w (λ w docs row. holds ≡ passes docs k.test.now (row_node row))) e tells) (view u) ran.bench f.cursor told)

    -- a binding of the input of which the comparison holds ends the walk
    pub select_ends : ((a b c : S) → came_from a b → came_from b c → came_from a c) → (d : Position) → d ≡ y → (holds : Bool)
        → Tells j (record { fixed = k.walk.fixed; op = k.input }) d (λ w docs row. holds ≡ passes docs k.test.now (row_node row)) → holds ≡ true
        → (r : Rc Position Global) (q : _) → r.value ≡ Pass' q y → Advanced view came_from k.walk.fixed.now k.walk.op c s g u j (Ok (Some r))
    select_ends after d e holds tells passed r q made = record {
      ran = way_ran after z.way (way_under is z select_over ran);
      cause = tt;
      answer = comes_at z.way.goes.comes
          (subst (Finds (world_of (view t) h) (world_of (view u) j) (operators k.walk.fixed.now) k.walk.op (shape_at (operators k.walk.fixed.now) k.walk.op) (ahead (world_of (view t) h) (operators k.walk.fixed.now) k.walk.op z.at) (number (world_of (view t) h) (operators k.walk.fixed.now) k.walk.op z.at)) (sym made)
          (select_found (λ told. meets d e holds tells told ∙ passed) q));
    }
