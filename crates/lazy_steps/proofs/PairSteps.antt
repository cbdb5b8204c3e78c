-- A step of a join: the next member of the right side beside the binding of the left, or the next of the left.
use Rattle.std.proofs.Common.{◌≡◌, ◌<◌, ◌≤◌, ◌+◌, ◌-◌, ◌*◌, ℕ, suc, Bool, true, false, List, [], ◌∷◌, ◌++◌, length, refl, ◌∙◌, sym, ap, subst, arith}
use Rattle.std.specs.Prelude.{IsTrue}
use Rattle.std.specs.List.{AllByRecursion}
use Rattle.std.proofs.lemmas.Nat.{mul-le}
use Rattle.mix_base.specs.Events.{finds, found, cost}
use Rattle.mix_base.proofs.Choices.{and_parts}
use Rattle.mix_base.proofs.EventLaws.{found-append_none, found-append_some, found-append_both, cost-append_none, cost-append_le, cost-append_both}
use Rattle.lazy_descend.proofs.Searches.{still_told}
use Rattle.lazy_descend.specs.Searches.{FindsNone}
use Rattle.lxp_core.specs.View.{View}
use Rattle.mix_tree.specs.Nodes.{Documents}
use Rattle.mix_tree.specs.declared.comparing.Test.{Test}
use Rattle.plan_core.specs.Plans.{Operator}
use Rattle.plan_core.specs.Shapes.{pairs_up, shape_at}
use Rattle.plan_core.specs.Typed.{IsTyped}
use Rattle.plan_core.specs.TolledRows.{TolledRow}
use Rattle.plan_core.specs.Events.{RowEvents, events, pairs, expand, passes_all}
use Rattle.plan_core.specs.Valid.{kinds, Kinds, IsTest, shape_single}
use Rattle.plan_core.proofs.Found.{found-expand_none, found-expand_some, cost-expand_le, cost-expand_some, found-pairs_none, found-pairs_yes, found-pairs_no, cost-pairs_le, cost-pairs_no}
use Rattle.lazy_binding.specs.declared.parts.Growing.{Growing}
use Rattle.lazy_binding.specs.declared.parts.Fixed.{Fixed}
use Rattle.lazy_binding.specs.declared.position.Position.{Position, Start, Pair'}
use Rattle.lazy_binding.specs.Bench.{IsBench}
use Rattle.lazy_binding.specs.World.{World, docs_of, is_told, memo_at, passed}
use Rattle.lazy_binding.specs.Cursors.{left_ahead, binding, ahead, number, size, stands, weighs, IsIn, IsOf, has_row}
use Rattle.lazy_binding.specs.Keeping.{Keeps, Stays}
use Rattle.lazy_binding.specs.Parts.{operators, world_of}
use Rattle.lazy_binding.proofs.Bound.{kinds_at, inputs_at, fit_at}
use Rattle.lazy_binding.proofs.Keep.{keeps_same, docs_kept}
use Rattle.lazy_binding.proofs.Stay.{cursors_kept, size_kept}
use Rattle.lazy_steps.specs.Beside.{lets, IsMemberStep, beside_events, beside_number, last_at}
use Rattle.lazy_steps.specs.declared.step.Step.{Step}
use Rattle.lazy_steps.specs.declared.step.Step.TheVariants.{Done, At, On}
use Rattle.lazy_steps.specs.Steps.{single, Asks, Finds, Moves, Steps, Ran, CanStep, left_events, left_number, telling}
use Rattle.lazy_steps.proofs.Goes.{Goes, goes_same, tells_on, less_times, le_same, ran_over}
use Rattle.lazy_steps.proofs.Growing.{take_none}
use Rattle.lazy_steps.proofs.Shapes.{events_at, size_at, single_at}

module _ (ops : List Operator) (n l r : ℕ) (tests : List Test) where
  -- a position that is at no pair is the one before all events
  pub pair_or_start : (w : World) (c : Position) → IsIn w ops n (pairs_up l r tests) c → ((q x q' y k : _) → c ≡ Pair' q x q' y k → ⊥) → c ≡ Start
  pair_or_start w Start h others = refl
  pair_or_start w (Pair' q x q' y k) h others = absurd (others q x q' y k refl)
  pair_or_start w c h others = absurd h

  module _ (typed : IsTyped ops) (within : n < length ops) (is : shape_at ops n ≡ pairs_up l r tests) where
    -- both sides of a join that has a single binding have one
    pub pairs_single : IsTrue (single ops n) → IsTrue (single ops l) × IsTrue (single ops r)
    pairs_single s = both tests (sym (single_at ops typed n within (pairs_up l r tests) is) ∙ s)
      where
        both : (ts : List Test) → shape_single (pairs_up l r ts) (single ops) ≡ true → IsTrue (single ops l) × IsTrue (single ops r)
        both [] e = and_parts (single ops l) (single ops r) e
        both (t ∷ ts) e = cc

    -- a walk over the pairs of a join begins with the events of its left side
    pub pairs_begin : (w : World) → IsBench w ops → (c : Position) → c ≡ Start
        → Goes w w ops n (stands w ops n (pairs_up l r tests) c).ahead (left_events w ops l r tests c) (weighs w ops n (pairs_up l r tests) c) (left_number w ops l r c)
    pairs_begin w bench c e =
        subst (λ (z : Position). Goes w w ops n (stands w ops n (pairs_up l r tests) z).ahead (left_events w ops l r tests z) (weighs w ops n (pairs_up l r tests) z) (left_number w ops l r z)) (sym e)
        (goes_same (keeps_same w ops bench) (events_at ops typed n within (pairs_up l r tests) is (docs_of w)) (size_at ops typed n within (pairs_up l r tests) is w))

    module _ (a b : World) (bench : IsBench a ops) where
      -- the events of the left bindings that come later, under the documents after a call
      left_same : Keeps a b → (es : RowEvents) → left_ahead a ops r tests es ≡ left_ahead b ops r tests es
      left_same k es = ap (λ (z : Documents). expand (pairs z tests (events z ops r)) es) (sym (docs_kept k ops bench))

      -- what a call of the left side may cost, a call of the join may cost
      pub left_costs : (x : Position) → cost (ahead a ops l x) ≤ cost (left_events a ops l r tests x)
      left_costs x = cost-expand_le (pairs (docs_of a) tests (events (docs_of a) ops r)) (ahead a ops l x)

      -- where no more bindings of the left side come, no more pairs come
      pub left_done : (x : Position) → (FindsNone (telling a ops) (ahead a ops l x)) → FindsNone (telling a ops) (left_events a ops l r tests x)
      left_done x f t = found-expand_none (pairs (docs_of a) tests (events (docs_of a) ops r)) (ahead a ops l x) (f t)

      -- a binding of the left side stands before its pairs with all members of the right side
      pub left_on : (x : Position) → Asks a b ops l (ahead a ops l x) → (d : Position) → Finds a b ops l (shape_at ops l) (ahead a ops l x) (number a ops l x) d → (q p : _)
          → Moves a b ops n (pairs_up l r tests) (left_events a ops l r tests x) (left_number a ops l r x) (Pair' q d p Start 0)
      left_on x k d f q p = record {
        cursor = (f.cursor, f.row, tt, omega arith, take_none (memo_at b n).pairs);
        falls =
            let same = size_kept a b k.kept ops bench r in
            subst (λ (z : ℕ). number b ops l d * suc z + (z - 0) < left_number a ops l r x) (sym same)
            (omega (arith, less_times (number b ops l d) (number a ops l x) (size a ops r) (size a ops r) f.falls (le_same (size a ops r))));
        found = λ t. found-expand_some side (ahead a ops l x) (binding b ops l d) (ahead b ops l d) (f.found t) ∙ ap found later;
        lazy = λ t w.
            let asked = k.lazy t w in
            let whole = cost-expand_some side (ahead a ops l x) (binding b ops l d) (ahead b ops l d) (f.found t) in
            let same = ap cost later in
            omega (arith, asked, whole, same);
      }
        where
          side : TolledRow → RowEvents
          side = pairs (docs_of a) tests (events (docs_of a) ops r)

          later : side (binding b ops l d) ++ left_ahead a ops r tests (ahead b ops l d) ≡ pairs (docs_of b) tests (events (docs_of b) ops r) (binding b ops l d) ++ left_ahead b ops r tests (ahead b ops l d)
          later = ap (λ (z : Documents). pairs z tests (events z ops r) (binding b ops l d) ++ expand (pairs z tests (events z ops r)) (ahead b ops l d)) (sym (docs_kept k.kept ops bench))

      -- a walk beside a binding of the left side, from a position of the right side on
      module _ (x y : Position) (here : IsOf a ops l x) (row : IsTrue (has_row x)) (k : Asks a b ops n (ahead a ops r y)) where
        stays : Stays a b ops l x
        stays = cursors_kept a b k.kept ops bench l x here

        -- the pairs of a left binding with the right side's events, and after them the pairs of later left bindings
        abbrev beside : RowEvents
        beside = pairs (docs_of a) tests (ahead a ops r y) (binding a ops l x)

        abbrev after : RowEvents
        after = left_ahead a ops r tests (ahead a ops l x)

        -- what a call of the right side may cost, a call of the join may cost
        pub beside_asks : Asks a b ops n (beside_events a ops l r tests x y)
        beside_asks = record {
          kept = k.kept;
          above = k.above;
          lazy = λ t w.
              let asked = k.lazy t w in
              let c = cost-pairs_le (docs_of a) tests (ahead a ops r y) (binding a ops l x) in
              let d = cost-append_le beside after in
              omega (arith, asked, c, d);
          none = k.none;
        }

        -- the number of the left side's position doesn't rise by a call of the right side
        left_falls : left_number b ops l r x ≤ left_number a ops l r x
        left_falls =
            let m = mul-le (number b ops l x) (suc (size a ops r)) (number a ops l x) (suc (size a ops r)) stays.number_is (le_same (suc (size a ops r))) in
            subst (λ (z : ℕ). number b ops l x * suc z ≤ left_number a ops l r x) (sym (size_kept a b k.kept ops bench r)) m

        -- where no more members of the right side come, the pairs of the next binding of the left side come next
        pub right_over : (p : ℕ) → (FindsNone (telling a ops) (ahead a ops r y))
            → Goes a b ops n (beside_events a ops l r tests x y) (left_events b ops l r tests x) (beside_number a ops l r x p) (left_number b ops l r x)
        right_over p f = record {
          kept = k.kept;
          above = k.above;
          comes = record {
            tells = tells_on k.kept ops;
            falls = omega (arith, left_falls);
            found = λ t. found-append_none beside after (found-pairs_none (docs_of a) tests (ahead a ops r y) (binding a ops l x) (f t)) ∙ ap found later;
            lazy = λ t w.
                let asked = k.lazy t w in
                let whole = cost-append_none beside after (found-pairs_none (docs_of a) tests (ahead a ops r y) (binding a ops l x) (f t)) in
                let c = cost-pairs_le (docs_of a) tests (ahead a ops r y) (binding a ops l x) in
                let same = ap cost later in
                omega (arith, asked, whole, c, same);
          };
          none = k.none;
        }
          where
            later : after ≡ left_events b ops l r tests x
            later = left_same k.kept (ahead a ops l x) ∙ ap (left_ahead b ops r tests) (sym stays.ahead_is)

        -- the next binding on the right, which is the member at a place
        module _ (d : Position) (p : ℕ) (of : IsOf b ops r d) (at : IsTrue (has_row d)) (next : IsTrue (is_told a ops) → found (ahead a ops r y) ≡ finds (binding b ops r d) (ahead b ops r d))
            (few : suc p ≤ size a ops r) (there : suc p ≤ length (memo_at b n).pairs) (place : passed (memo_at b n).pairs (suc p) ≡ d) where
          pair_cursor : (q q' : _) → IsIn b ops n (pairs_up l r tests) (Pair' q x q' d (suc p))
          pair_cursor q q' = (stays.cursor, row, of, there, place)

          past_falls : beside_number b ops l r x (suc p) < beside_number a ops l r x p
          past_falls = (let e = size_kept a b k.kept ops bench r in omega (arith, left_falls, e, few))

          -- whether a pair meets all comparisons, under the documents before a call
          lets_old : (v : Bool) → lets b ops l r tests x d ≡ v → passes_all (docs_of a) tests (binding a ops l x ++ binding b ops r d) ≡ v
          lets_old v h =
              ap (λ (z : Documents). passes_all z tests (binding a ops l x ++ binding b ops r d)) (sym (docs_kept k.kept ops bench))
              ∙ ap (λ (z : TolledRow). passes_all (docs_of b) tests (z ++ binding b ops r d)) (sym stays.binding_is) ∙ h

          -- the events after the pair of a left binding with a member
          pair_ahead : pairs (docs_of a) tests (ahead b ops r d) (binding a ops l x) ++ after ≡ beside_events b ops l r tests x d
          pair_ahead =
              ap (λ (z : Documents). pairs z tests (ahead b ops r d) (binding a ops l x) ++ expand (pairs z tests (events z ops r)) (ahead a ops l x)) (sym (docs_kept k.kept ops bench))
              ∙ ap (λ (z : TolledRow). pairs (docs_of b) tests (ahead b ops r d) z ++ left_ahead b ops r tests (ahead a ops l x)) (sym stays.binding_is)
              ∙ ap (λ (z : RowEvents). pairs (docs_of b) tests (ahead b ops r d) (binding b ops l x) ++ left_ahead b ops r tests z) (sym stays.ahead_is)

          -- a pair of which all comparisons hold is the next binding of the join
          right_at : (q q' : _) → (IsTrue (is_told b ops) → lets b ops l r tests x d ≡ true)
              → Finds a b ops n (pairs_up l r tests) (beside_events a ops l r tests x y) (beside_number a ops l r x p) (Pair' q x q' d (suc p))
          right_at q q' h = record {
            cursor = pair_cursor q q';
            row = at;
            falls = past_falls;
            found = λ t.
                found-append_some beside after _ _
                (found-pairs_yes (docs_of a) tests (ahead a ops r y) (binding a ops l x) (binding b ops r d) (ahead b ops r d) (next t) (lets_old true (h (still_told (tells_on k.kept ops) t))))
                ∙ ap (λ (z : TolledRow). finds (z ++ binding b ops r d) (pairs (docs_of a) tests (ahead b ops r d) (binding a ops l x) ++ after)) (sym stays.binding_is)
                ∙ ap (finds (binding b ops l x ++ binding b ops r d)) pair_ahead;
          }

          -- a pair of which a comparison fails is passed, and the events after it are ahead
          pub right_past : (IsTrue (is_told b ops) → lets b ops l r tests x d ≡ false)
              → Goes a b ops n (beside_events a ops l r tests x y) (beside_events b ops l r tests x d) (beside_number a ops l r x p) (beside_number b ops l r x (suc p))
          right_past h = record {
            kept = k.kept;
            above = k.above;
            comes = record {
              tells = tells_on k.kept ops;
              falls = omega (arith, past_falls);
              found = λ t. found-append_both beside (pairs (docs_of a) tests (ahead b ops r d) (binding a ops l x)) after (past t).0 ∙ ap found pair_ahead;
              lazy = λ t w.
                  let asked = k.lazy t w in
                  let whole = cost-append_both beside (pairs (docs_of a) tests (ahead b ops r d) (binding a ops l x)) after (cost (ahead a ops r y)) (past t).0 (past t).1 in
                  let same = ap cost pair_ahead in
                  omega (arith, asked, whole, same);
            };
            none = k.none;
          }
            where
              past : IsTrue (is_told a ops)
                  → (found beside ≡ found (pairs (docs_of a) tests (ahead b ops r d) (binding a ops l x)))
                  × (cost beside ≡ cost (ahead a ops r y) + cost (pairs (docs_of a) tests (ahead b ops r d) (binding a ops l x)))
              past t =
                  let e = lets_old false (h (still_told (tells_on k.kept ops) t)) in (
                    found-pairs_no (docs_of a) tests (ahead a ops r y) (binding a ops l x) (binding b ops r d) (ahead b ops r d) (next t) e,
                    cost-pairs_no (docs_of a) tests (ahead a ops r y) (binding a ops l x) (binding b ops r d) (ahead b ops r d) (next t) e,
                  )

          -- a step that passes a pair of which a comparison fails comes to its position
          pub right_on : (q q' : _) → (IsTrue (is_told b ops) → lets b ops l r tests x d ≡ false)
              → Moves a b ops n (pairs_up l r tests) (beside_events a ops l r tests x y) (beside_number a ops l r x p) (Pair' q x q' d (suc p))
          right_on q q' h = (let past = right_past h in record { cursor = pair_cursor q q'; falls = past_falls; found = past.comes.found; lazy = past.comes.lazy })

          -- the event at the pair with a member is the one to which a step comes
          pub member_steps : (s : Step) → IsMemberStep b ops l r tests (memo_at b n).pairs x p s → Steps a b ops n (pairs_up l r tests) (beside_events a ops l r tests x y) (beside_number a ops l r x p) s
          member_steps Done h = absurd h
          member_steps (At z) h =
              subst (Finds a b ops n (pairs_up l r tests) (beside_events a ops l r tests x y) (beside_number a ops l r x p)) (sym (h.0.2 ∙ ap (λ (c : Position). Pair' h.0.0 x h.0.1 c (suc p)) place))
              (right_at h.0.0 h.0.1 (λ t. ap (lets b ops l r tests x) (sym place) ∙ h.1 t))
          member_steps (On z) h =
              subst (Moves a b ops n (pairs_up l r tests) (beside_events a ops l r tests x y) (beside_number a ops l r x p)) (sym (h.0.2 ∙ ap (λ (c : Position). Pair' h.0.0 x h.0.1 c (suc p)) place))
              (right_on h.0.0 h.0.1 (λ t. ap (lets b ops l r tests x) (sym place) ∙ h.1 t))

module _ {v : View} {g : Growing} {p : Fixed} {n : ℕ} {c : Position} (can : CanStep v g p n c) (l r : ℕ) (tests : List Test) (is : shape_at (operators p) n ≡ pairs_up l r tests) where
  -- both sides of a join have smaller numbers
  pub sides : (l < n) × (r < n)
  sides = (let h = inputs_at (operators p) can.fixed.typed n can.op (pairs_up l r tests) is in (h.0, h.1.0))

  -- the left side of a join can step from the position before all events
  pub left_can : c ≡ Start → CanStep v g p l c
  left_can e = record {
    fixed = can.fixed;
    op = (let h = sides.0 in let m = can.op in omega (arith, h, m));
    bench = can.bench;
    cursor = subst (λ (z : Position). IsOf (world_of v g) (operators p) l z) (sym e) tt;
  }

-- where a position can step before a call, it can step after the call
pub can_then : {v : View} {g : Growing} {p : Fixed} {l : ℕ} {x : Position} → CanStep v g p l x → (v' : View) (g' : Growing) → IsBench (world_of v' g') (operators p)
    → Keeps (world_of v g) (world_of v' g') → CanStep v' g' p l x
can_then {v} {g} {p} {l} {x} can v' g' bench kept = record {
  fixed = can.fixed;
  op = can.op;
  bench = bench;
  cursor = (cursors_kept (world_of v g) (world_of v' g') kept (operators p) can.bench l x can.cursor).cursor;
}

-- the comparisons of a join are of nodes
pub tests_fit : (ops : List Operator) → IsTyped ops → (n : ℕ) → n < length ops → (l r : ℕ) (tests : List Test) → shape_at ops n ≡ pairs_up l r tests → AllByRecursion (IsTest (kinds ops n)) tests
tests_fit ops typed n within l r tests is =
    subst (λ (k : Kinds). AllByRecursion (IsTest k) tests) (sym (kinds_at ops typed n within (pairs_up l r tests) is)) (fit_at ops typed n within (pairs_up l r tests) is)

-- of a join: a call of its left side
module _ {S : Type 0} {view : S → View} {came_from : S → S → Type 0} {s t : S} {g h : Growing} {p : Fixed} {x : Position} (l r n : ℕ) (tests : List Test) (can : CanStep (view s) g p l x)
    (within : n < length (operators p)) (is : shape_at (operators p) n ≡ pairs_up l r tests)
    (ran : Ran view came_from (operators p) l (ahead (world_of (view s) g) (operators p) l x) s g t h) where
  -- what a call of the left side leaves, as a call of the join
  pub left_ran : Ran view came_from (operators p) n (left_events (world_of (view s) g) (operators p) l r tests x) s g t h
  left_ran =
      ran_over ran (left_costs (operators p) n l r tests can.fixed.typed within is (world_of (view s) g) (world_of (view s) g) can.bench x)
      (inputs_at (operators p) can.fixed.typed n within (pairs_up l r tests) is).0
      (λ z. (pairs_single (operators p) n l r tests can.fixed.typed within is z).0)

-- a call that brings one more member
module _ {S : Type 0} {view : S → View} {came_from : S → S → Type 0} {s t : S} {g h : Growing} {p : Fixed} {x : Position} (l r n : ℕ) (tests : List Test) (can : CanStep (view s) g p l x)
    (row : IsTrue (has_row x)) (within : n < length (operators p)) (is : shape_at (operators p) n ≡ pairs_up l r tests)
    (ran : Ran view came_from (operators p) n (ahead (world_of (view s) g) (operators p) r (last_at (world_of (view s) g) n)) s g t h) where
  -- what a call that brings one more member of the right side leaves, as a call of the join
  pub beside_ran : Ran view came_from (operators p) n (beside_events (world_of (view s) g) (operators p) l r tests x (last_at (world_of (view s) g) n)) s g t h
  beside_ran = record {
    came = ran.came;
    bench = ran.bench;
    asks = beside_asks (operators p) n l r tests can.fixed.typed within is (world_of (view s) g) (world_of (view t) h) can.bench x (last_at (world_of (view s) g) n) can.cursor row ran.asks;
  }

  -- where the right side has no further member, the pairs of the left side's next binding come next
  pub none_grown : FindsNone (telling (world_of (view s) g) (operators p)) (ahead (world_of (view s) g) (operators p) r (last_at (world_of (view s) g) n))
      → Goes (world_of (view s) g) (world_of (view t) h) (operators p) n (beside_events (world_of (view s) g) (operators p) l r tests x (last_at (world_of (view s) g) n))
      (left_events (world_of (view t) h) (operators p) l r tests x)
      (beside_number (world_of (view s) g) (operators p) l r x (length (memo_at (world_of (view s) g) n).pairs)) (left_number (world_of (view t) h) (operators p) l r x)
  none_grown none =
      right_over (operators p) n l r tests can.fixed.typed within is (world_of (view s) g) (world_of (view t) h) can.bench x (last_at (world_of (view s) g) n) can.cursor row ran.asks
      (length (memo_at (world_of (view s) g) n).pairs) none
