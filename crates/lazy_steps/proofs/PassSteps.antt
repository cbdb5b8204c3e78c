-- Steps of operators that go event for event.
use Rattle.std.proofs.Common.{◌≡◌, ◌<◌, ◌≤◌, ℕ, suc, Bool, None, true, false, List, length, refl, ◌∙◌, sym, ap, subst, arith}
use Rattle.std.specs.Prelude.{IsTrue}
use Rattle.mix_base.specs.Events.{Find, nothing, finds, found, cost}
use Rattle.lazy_descend.proofs.Searches.{still_told}
use Rattle.lazy_descend.specs.Searches.{FindsNone}
use Rattle.mix_tree.specs.Comparisons.{passes}
use Rattle.mix_tree.specs.Nodes.{Documents}
use Rattle.mix_tree.specs.declared.comparing.Test.{Test}
use Rattle.mix_tree.specs.declared.var.Key.{Key}
use Rattle.plan_core.specs.Fronts.{apart_over}
use Rattle.plan_core.specs.PlanMade.{plan_value}
use Rattle.plan_core.specs.Plans.{Operator, PlanValue}
use Rattle.plan_core.specs.Shapes.{Stage, filters, extends, first_by_keys, shape_at, passes_on}
use Rattle.plan_core.specs.Events.{extended}
use Rattle.plan_core.specs.Typed.{IsTyped}
use Rattle.plan_core.specs.TolledRows.{TolledRow, row_node, tolled_restrict}
use Rattle.plan_core.specs.Valid.{IsValid}
use Rattle.plan_core.specs.Events.{RowEvents, events, only, each_row}
use Rattle.plan_core.proofs.Found.{found-only_none, found-only_yes, found-only_no, cost-only_le, cost-only_no, found-each_row_none, found-each_row_some, cost-each_row}
use Rattle.plan_core.proofs.Fronted.{apart_are_passed}
use Rattle.plan_core.proofs.Typed.{valid_is_typed}
use Rattle.lazy_binding.specs.declared.position.Position.{Position, Start, Pass', First', Seen'}
use Rattle.lazy_binding.specs.Bench.{IsBench}
use Rattle.lazy_binding.specs.World.{World, docs_of, is_told}
use Rattle.lazy_binding.specs.Cursors.{Standing, after_found, past_first, binding, ahead, number, stands, weighs, IsIn, IsOf}
use Rattle.lazy_binding.specs.Reading.{below}
use Rattle.lxp_core.specs.View.{View}
use Rattle.lazy_binding.specs.declared.parts.Growing.{Growing}
use Rattle.lazy_binding.specs.declared.parts.Fixed.{Fixed}
use Rattle.lazy_binding.specs.Parts.{operators, world_of}
use Rattle.lazy_steps.specs.Steps.{single, Asks, Finds, Moves, CanStep, telling, PassesEach}
use Rattle.lazy_binding.proofs.Keep.{told-kept, docs_kept}
use Rattle.lazy_steps.proofs.Shapes.{events_at, size_at, single_at}
use Rattle.lazy_binding.proofs.Bound.{inputs_at}
use Rattle.lazy_steps.proofs.Goes.{in_shape, IsOver, tells_on}

module _ (ops : List Operator) (typed : IsTyped ops) (n : ℕ) (within : n < length ops) (i : ℕ) where
  module _ (test : Test) (is : shape_at ops n ≡ passes_on i (filters test)) where
    -- the bindings of which the comparison holds
    abbrev kept_events : Documents → RowEvents → RowEvents
    kept_events docs es = only (λ row. passes docs test (row_node row)) es

    -- the input's position in a position
    pub filter_below : (w : World) (c : Position) → IsIn w ops n (passes_on i (filters test)) c → IsOf w ops i (below c)
    filter_below w Start h = tt
    filter_below w (Pass' q c) h = h.0
    filter_below w c h = absurd h

    -- the events after it are those of the input
    filter_ahead : (w : World) (c : Position) → IsIn w ops n (passes_on i (filters test)) c → (stands w ops n (passes_on i (filters test)) c).ahead ≡ kept_events (docs_of w) (ahead w ops i (below c))
    filter_ahead w Start h = events_at ops typed n within (passes_on i (filters test)) is (docs_of w)
    filter_ahead w (Pass' q c) h = refl
    filter_ahead w c h = absurd h

    -- the number of a select's position is that of its input's
    filter_number : (w : World) (c : Position) → IsIn w ops n (passes_on i (filters test)) c → weighs w ops n (passes_on i (filters test)) c ≡ number w ops i (below c)
    filter_number w Start h = size_at ops typed n within (passes_on i (filters test)) is w
    filter_number w (Pass' q c) h = refl
    filter_number w c h = absurd h

    -- the input of a select that has a single binding has one
    pub filter_single : IsTrue (single ops n) → IsTrue (single ops i)
    filter_single s = (let z : false ≡ true = sym (single_at ops typed n within (passes_on i (filters test)) is) ∙ s in cc)

    module _ (a b : World) (c : Position) (h : IsIn a ops n (passes_on i (filters test)) c) where
      -- what a call below may cost, it may cost here
      pub filter_costs : cost (ahead a ops i (below c)) ≤ cost (stands a ops n (passes_on i (filters test)) c).ahead
      filter_costs = (let p = cost-only_le (λ row. passes (docs_of a) test (row_node row)) (ahead a ops i (below c)) in let q = ap cost (filter_ahead a c h) in omega (arith, p, q))

      -- where no more bindings of the input come, no more bindings of a select come
      pub filter_done : (FindsNone (telling a ops) (ahead a ops i (below c))) → IsTrue (is_told a ops) → found (stands a ops n (passes_on i (filters test)) c).ahead ≡ nothing
      filter_done f t = ap found (filter_ahead a c h) ∙ found-only_none (λ row. passes (docs_of a) test (row_node row)) (ahead a ops i (below c)) (f t)

      module _ (bench : IsBench a ops) (k : Asks a b ops i (ahead a ops i (below c))) (d : Position) (f : Finds a b ops i (shape_at ops i) (ahead a ops i (below c)) (number a ops i (below c)) d) where
        -- the test, under the documents before
        test_old : (v : Bool) → passes (docs_of b) test (row_node (binding b ops i d)) ≡ v → passes (docs_of a) test (row_node (binding b ops i d)) ≡ v
        test_old v e = subst (λ (z : Documents). passes z test (row_node (binding b ops i d)) ≡ v) (docs_kept k.kept ops bench) e

        -- the events after, under the documents afterwards
        later : kept_events (docs_of a) (ahead b ops i d) ≡ kept_events (docs_of b) (ahead b ops i d)
        later = ap (λ (z : Documents). kept_events z (ahead b ops i d)) (sym (docs_kept k.kept ops bench))

        -- a binding of which it holds
        pub filter_at : (q : _) → (IsTrue (is_told b ops) → passes (docs_of b) test (row_node (binding b ops i d)) ≡ true)
            → Finds a b ops n (passes_on i (filters test)) (stands a ops n (passes_on i (filters test)) c).ahead (weighs a ops n (passes_on i (filters test)) c) (Pass' q d)
        filter_at q y = record {
          cursor = (f.cursor, f.row);
          row = refl;
          falls = (let m = filter_number a c h in let g = f.falls in omega (arith, m, g));
          found = λ t.
              ap found (filter_ahead a c h)
              ∙ found-only_yes (λ row. passes (docs_of a) test (row_node row)) (ahead a ops i (below c)) (binding b ops i d) (ahead b ops i d) (f.found t) (test_old true (y (still_told (tells_on k.kept ops) t)))
              ∙ ap (finds (binding b ops i d)) later;
        }

        -- a binding of the input of which the comparison fails is passed
        pub filter_on : (q : _) → (IsTrue (is_told b ops) → passes (docs_of b) test (row_node (binding b ops i d)) ≡ false)
            → Moves a b ops n (passes_on i (filters test)) (stands a ops n (passes_on i (filters test)) c).ahead (weighs a ops n (passes_on i (filters test)) c) (Pass' q d)
        filter_on q y = record {
          cursor = (f.cursor, f.row);
          falls = (let m = filter_number a c h in let g = f.falls in omega (arith, m, g));
          found = λ t.
              ap found (filter_ahead a c h)
              ∙ found-only_no (λ row. passes (docs_of a) test (row_node row)) (ahead a ops i (below c)) (binding b ops i d) (ahead b ops i d) (f.found t) (test_old false (y (still_told (tells_on k.kept ops) t)))
              ∙ ap found later;
          lazy = λ t w.
              let asked = k.lazy t w in
              let whole = ap cost (filter_ahead a c h) in
              let rest = cost-only_no (λ row. passes (docs_of a) test (row_node row)) (ahead a ops i (below c)) (binding b ops i d) (ahead b ops i d) (f.found t) (test_old false (y (still_told (tells_on k.kept ops) t))) in
              let same = ap cost later in
              omega (arith, asked, whole, rest, same);
        }

-- a position of a filter stands over one of its input
pub filter_over : {v : View} {g : Growing} {p : Fixed} {n : ℕ} {c : Position} → CanStep v g p n c → (i : ℕ) (test : Test) → shape_at (operators p) n ≡ passes_on i (filters test)
    → IsOver (operators p) n i (passes_on i (filters test)) (world_of v g) c
filter_over {v} {g} {p} {n} {c} can i test is =
    let h = in_shape can (passes_on i (filters test)) is in record {
      input = filter_below (operators p) can.fixed.typed n can.op i test is (world_of v g) c h;
      costs = filter_costs (operators p) can.fixed.typed n can.op i test is (world_of v g) (world_of v g) c h;
      less = (inputs_at (operators p) can.fixed.typed n can.op (passes_on i (filters test)) is).0;
      alone = filter_single (operators p) can.fixed.typed n can.op i test is;
      over = filter_done (operators p) can.fixed.typed n can.op i test is (world_of v g) (world_of v g) c h;
    }

-- WHERE EACH BINDING IS PASSED ON

-- what such a stage makes of a binding
abbrev passed_row : Documents → Stage → TolledRow → TolledRow
passed_row docs (extends out made) row = extended docs out made row
passed_row docs (first_by_keys keys group) row = tolled_restrict keys row
passed_row docs stage row = row

module _ (p : PlanValue) (valid : IsValid p) (n : ℕ) (within : n < length p.ops) (i : ℕ) where
  -- the operators of a valid plan are typed
  typed : IsTyped p.ops
  typed = valid_is_typed p valid

  -- a position stands over one of the input: the events after it are made of those of the input, and its number is not below that one's
  record IsEach (w : World) (stage : Stage) (c : Position) : Type 0 where
    input : IsOf w p.ops i (below c)
    ahead_is : (stands w p.ops n (passes_on i stage) c).ahead ≡ each_row (passed_row (docs_of w) stage) (ahead w p.ops i (below c))
    number_low : number w p.ops i (below c) ≤ weighs w p.ops n (passes_on i stage) c

  -- what a position of an operator that passes on all bindings stands for is that of its input, each binding changed
  each_is : (stage : Stage) → shape_at p.ops n ≡ passes_on i stage → PassesEach p.ops i stage → (w : World) (c : Position) → IsIn w p.ops n (passes_on i stage) c → IsEach w stage c
  each_is (extends out made) is e w Start h = record {
    input = tt;
    ahead_is = events_at p.ops typed n within (passes_on i (extends out made)) is (docs_of w);
    number_low = (let z = size_at p.ops typed n within (passes_on i (extends out made)) is w in omega (arith, z));
  }
  each_is (extends out made) is e w (Pass' q c) h = record { input = h.0; ahead_is = refl; number_low = omega arith }
  each_is (extends out made) is e w c h = absurd h
  each_is (first_by_keys keys None) is e w Start h = record {
    input = tt;
    ahead_is = (apart_are_passed p valid (docs_of w) n i keys within is e).events_are;
    number_low = (let z = size_at p.ops typed n within (passes_on i (first_by_keys keys None)) is w in omega (arith, z));
  }
  each_is (first_by_keys keys None) is e w (Pass' q c) h = record { input = h.0; ahead_is = refl; number_low = omega arith }
  each_is (first_by_keys keys None) is e w (First' q c k) h = (let z : true ≡ false = sym e ∙ h.10 in cc)
  each_is (first_by_keys keys None) is e w (Seen' q c k) h = (let z : true ≡ false = sym e ∙ h.7 in cc)
  each_is (first_by_keys keys None) is e w c h = absurd h
  each_is stage is e w c h = absurd e

  -- what comes next below is a binding of the input
  next_among : (keys : List Key) → apart_over p.ops i keys ≡ true → (w : World) (c : Position) → IsIn w p.ops n (passes_on i (first_by_keys keys None)) c → IsTrue (is_told w p.ops)
      → (k : ℕ) × (found (past_first k (events (docs_of w) p.ops i)) ≡ found (ahead w p.ops i (below c)))
  next_among keys e w Start h t = (0, refl)
  next_among keys e w (Pass' q c) h t = (let z = h.3 t in (suc z.0, ap (λ (f : Find TolledRow). found (after_found f)) z.1))
  next_among keys e w (First' q c k) h t = (let z : true ≡ false = sym e ∙ h.10 in cc)
  next_among keys e w (Seen' q c k) h t = (let z : true ≡ false = sym e ∙ h.7 in cc)
  next_among keys e w c h t = absurd h

  -- what a position that passes on one stands for
  pass_stands : (stage : Stage) → PassesEach p.ops i stage → (w : World) (q : _) (d : Position)
      → stands w p.ops n (passes_on i stage) (Pass' q d) ≡ record { row = passed_row (docs_of w) stage (binding w p.ops i d); ahead = each_row (passed_row (docs_of w) stage) (ahead w p.ops i d) }
  pass_stands (extends out made) e w q d = refl
  pass_stands (first_by_keys keys None) e w q d = refl
  pass_stands stage e w q d = absurd e

  -- the number of a position of an operator that passes on all bindings is that of its input's
  pass_weighs : (stage : Stage) → PassesEach p.ops i stage → (w : World) (q : _) (d : Position) → weighs w p.ops n (passes_on i stage) (Pass' q d) ≡ number w p.ops i d
  pass_weighs (extends out made) e w q d = refl
  pass_weighs (first_by_keys keys None) e w q d = refl
  pass_weighs stage e w q d = absurd e

  -- a single one is over a single one
  pub each_single : (stage : Stage) → shape_at p.ops n ≡ passes_on i stage → PassesEach p.ops i stage → IsTrue (single p.ops n) → IsTrue (single p.ops i)
  each_single (extends out made) is e s = sym (single_at p.ops typed n within (passes_on i (extends out made)) is) ∙ s
  each_single (first_by_keys keys None) is e s = sym (single_at p.ops typed n within (passes_on i (first_by_keys keys None)) is) ∙ s
  each_single stage is e s = absurd e

  module _ (a b : World) (bench : IsBench a p.ops) (c : Position) (k : Asks a b p.ops i (ahead a p.ops i (below c)))
      (d : Position) (f : Finds a b p.ops i (shape_at p.ops i) (ahead a p.ops i (below c)) (number a p.ops i (below c)) d) where
    -- a binding that is found below is passed on by a position
    pass_in : (stage : Stage) → PassesEach p.ops i stage → IsIn a p.ops n (passes_on i stage) c → (q : _) → IsIn b p.ops n (passes_on i stage) (Pass' q d)
    pass_in (extends out made) e h q = (f.cursor, f.row)
    pass_in (first_by_keys keys None) e h q = (
      f.cursor,
      f.row,
      e,
      λ t.
          let told = subst IsTrue (told-kept k.kept p.ops) t in
          let z = next_among keys e a c h told in
          (z.0, ap (λ (y : Documents). found (past_first z.0 (events y p.ops i))) (docs_kept k.kept p.ops bench) ∙ z.1 ∙ f.found told),
    )
    pass_in stage e h q = absurd e

    module _ (stage : Stage) (is : shape_at p.ops n ≡ passes_on i stage) (e : PassesEach p.ops i stage) (h : IsIn a p.ops n (passes_on i stage) c) where
      -- the next binding of the input is the next binding of an operator that passes on all of them
      pub each_at : (q : _) → Finds a b p.ops n (passes_on i stage) (stands a p.ops n (passes_on i stage) c).ahead (weighs a p.ops n (passes_on i stage) c) (Pass' q d)
      each_at q = record {
        cursor = pass_in stage e h q;
        row = refl;
        falls = (let m = (each_is stage is e a c h).number_low in let g = f.falls in let z = pass_weighs stage e b q d in omega (arith, m, g, z));
        found = λ t.
            ap found (each_is stage is e a c h).ahead_is
            ∙ found-each_row_some (passed_row (docs_of a) stage) (ahead a p.ops i (below c)) (binding b p.ops i d) (ahead b p.ops i d) (f.found t)
            ∙ ap (λ (z : Documents). finds (passed_row z stage (binding b p.ops i d)) (each_row (passed_row z stage) (ahead b p.ops i d))) (sym (docs_kept k.kept p.ops bench))
            ∙ ap (λ (z : Standing). finds z.row z.ahead) (sym (pass_stands stage e b q d));
      }

-- a position of an operator that passes on each binding stands over one of its input
pub each_over : {v : View} {g : Growing} {p : Fixed} {n : ℕ} {c : Position} → CanStep v g p n c → (i : ℕ) (stage : Stage) → shape_at (operators p) n ≡ passes_on i stage → PassesEach (operators p) i stage
    → IsOver (operators p) n i (passes_on i stage) (world_of v g) c
each_over {v} {g} {p} {n} {c} can i stage is e =
    let w = world_of v g in
    let z = each_is (plan_value p.plan) can.fixed.valid n can.op i stage is e w c (in_shape can (passes_on i stage) is) in record {
      input = z.input;
      costs = (let l = cost-each_row (passed_row (docs_of w) stage) (ahead w (operators p) i (below c)) in let y = ap cost z.ahead_is in omega (arith, l, y));
      less = (inputs_at (operators p) can.fixed.typed n can.op (passes_on i stage) is).0;
      alone = each_single (plan_value p.plan) can.fixed.valid n can.op i stage is e;
      over = λ f t. ap found z.ahead_is ∙ found-each_row_none (passed_row (docs_of w) stage) (ahead w (operators p) i (below c)) (f t);
    }
