-- A step of an operator that drops bindings by keys that it has seen.
use Rattle.std.proofs.Common.{◌≡◌, ◌<◌, ◌≤◌, ◌+◌, ◌-◌, ◌*◌, ℕ, suc, true, false, List, [], Option, length, take, map, refl, ◌∙◌, sym, ap, subst, arith}
use Rattle.std.specs.Prelude.{IsTrue, slice_index_or}
use Rattle.std.specs.List.{AllByRecursion}
use Rattle.mix_base.specs.Events.{found, cost}
use Rattle.mix_tree.specs.declared.var.Key.{Key}
use Rattle.plan_core.specs.declared.plan.Piece.{Piece}
use Rattle.plan_core.specs.Plans.{Operator}
use Rattle.plan_core.specs.Shapes.{Shape, first_by_keys, shape_at, passes_on}
use Rattle.plan_core.specs.Fronts.{stops_over, shape_apart}
use Rattle.plan_core.specs.Events.{kept_row}
use Rattle.plan_core.specs.Typed.{IsTyped}
use Rattle.plan_core.specs.TolledRows.{key_values}
use Rattle.plan_core.proofs.Distinct.{IsOld}
use Rattle.tree_buffer.specs.Law.{SpotsAreOne}
use Rattle.lazy_binding.specs.declared.key.KeyPart.{KeyPart}
use Rattle.lazy_binding.specs.declared.position.Position.{Position, First', Seen'}
use Rattle.lazy_binding.specs.Bench.{IsBench}
use Rattle.lazy_binding.specs.World.{World, world, docs_of, is_told, seen_at, part_value, IsPart}
use Rattle.lazy_binding.specs.Cursors.{gathers_by, up_to, binding, ahead, number, size as size_of, stands, weighs, IsIn}
use Rattle.lazy_binding.specs.Gathering.{IsPassed}
use Rattle.lazy_binding.specs.Reading.{below, count_of}
use Rattle.lazy_binding.specs.Keys.{was_seen}
use Rattle.lazy_binding.specs.Keeping.{Keeps}
use Rattle.lazy_steps.specs.Steps.{Asks, Finds, Moves, GrowsAt}
use Rattle.lazy_binding.proofs.Bound.{inputs_at}
use Rattle.lazy_binding.proofs.Buffers.{gathered_there}
use Rattle.lazy_binding.proofs.Keep.{keeps_then}
use Rattle.lazy_binding.proofs.Stay.{stays_in_shape}
use Rattle.lazy_steps.proofs.FirstPositions.{firsts_passed, firsts_ahead_is, firsts_above, firsts_over_next, firsts_single, firsts_costs}
use Rattle.lazy_steps.proofs.PassedSteps.{first_events, later_same, old, same_size, passed_old, kept_here, passed_bench, size_here, few_here, first_next, first_new}

module _ (ops : List Operator) (n i : ℕ) (keys : List Key) (group : Option (Piece × ℕ)) (some : shape_apart ops (passes_on i (first_by_keys keys group)) ≡ false)
    (no : gathers_by ops (passes_on i (first_by_keys keys group)) ≡ false) where
  -- the shape of an operator that keeps the first bindings of its input by keys
  abbrev F : Shape
  F = passes_on i (first_by_keys keys group)

  module _ (typed : IsTyped ops) (within : n < length ops) (is : shape_at ops n ≡ F) where
    module _ (a : World) (c : Position) (h : IsIn a ops n F c) where
      -- the walk over the input has passed all that is up to a position of first bindings
      passed : IsPassed a ops n i keys group (below c) (count_of c)
      passed = firsts_passed ops n i keys group some typed within is a c h

      module _ (b : World) (bench : IsBench a ops) (k : Asks a b ops i (ahead a ops i (below c)))
          (d : Position) (f : Finds a b ops i (shape_at ops i) (ahead a ops i (below c)) (number a ops i (below c)) d)
          (late : IsBench b ops) (key : List KeyPart) (parts : AllByRecursion (IsPart b) key)
          (val : IsTrue (is_told b ops) → map (part_value b) key ≡ key_values (docs_of b) keys (binding b ops i d)) (ones : SpotsAreOne) where
        -- a binding of the input whose key was seen before the call is passed
        pub goes_past : was_seen key (take (count_of c) (seen_at b n)) ≡ true → (q : _) → Moves a b ops n F (stands a ops n F c).ahead (weighs a ops n F c) (Seen' q d (count_of c))
        goes_past m q = record {
          cursor = (p.cursor, f.row, p.within, p.seen, p.before, p.few, p.past, some, no);
          falls = subst (λ (z : ℕ). (z - count_of c) * suc z + number b ops i d < weighs a ops n F c)
              (sym (same_size ops n i keys group is a (below c) (count_of c) passed b bench k.kept d f late key parts val ones))
              (firsts_above ops n i keys group some typed within is a c h (number b ops i d) f.falls);
          found = λ t. ap found (firsts_ahead_is ops n i keys group some typed within is a c h) ∙ (gone t).is_found ∙ sym (ap found later);
          lazy = λ t w.
              let asked = k.lazy t w in
              let whole = ap cost (firsts_ahead_is ops n i keys group some typed within is a c h) in
              let rest = (gone t).costs in
              let same = ap cost later in
              omega (arith, asked, whole, rest, same);
        }
          where
            p : IsPassed b ops n i keys group d (count_of c)
            p = passed_old ops n i keys group is a (below c) (count_of c) passed b bench k.kept d f late key parts val ones m

            gone : IsTrue (is_told a ops) → IsOld (docs_of a) keys (kept_row (docs_of a) keys (stops_over ops i keys) group) (up_to a n (count_of c)) (ahead a ops i (below c)) (ahead b ops i d)
            gone t = old ops n i keys group is a (below c) (count_of c) passed b bench k.kept d f late key parts val ones t m

            later : first_events ops n i keys group (docs_of b) (up_to b n (count_of c)) (ahead b ops i d) ≡ first_events ops n i keys group (docs_of a) (up_to a n (count_of c)) (ahead b ops i d)
            later = later_same ops n i keys group is a (below c) (count_of c) passed b bench k.kept d f late key parts val ones

        module _ (seen : List (List (List KeyPart))) (g : GrowsAt b.seen seen n key)
            (pushed : length (slice_index_or seen n []) ≡ length (seen_at b n) + 1 → (count_of c ≡ length (seen_at b n)) × (was_seen key (take (count_of c) (seen_at b n)) ≡ false)) where
          -- the world in which the keys that were seen may have grown
          abbrev here : World
          here = world b.view b.buffers seen b.memos b.walked

          -- a key that is noted leaves what every call keeps
          pub kept : Keeps b here
          kept = kept_here ops n i keys group is a (below c) (count_of c) passed b bench k.kept d f late key parts val ones seen b.walked g pushed refl (λ m number place x y. y)

          -- a key that is noted leaves a sound bench
          pub firsts_bench : IsBench here ops
          firsts_bench =
              passed_bench ops n i keys group is a (below c) (count_of c) passed b bench k.kept d f late key parts val ones seen b.walked g pushed refl (λ m number place x y. y) late.walks
              (λ j m ks gr at by. gathered_there kept ops late j m ks gr at by (ap length (g.others j (λ e. gathers_none j m ks gr at by e))) refl)
            where
              gathers_none : (j m : ℕ) (ks : List Key) (gr : Option (Piece × ℕ)) → shape_at ops j ≡ passes_on m (first_by_keys ks gr) → gathers_by ops (passes_on m (first_by_keys ks gr)) ≡ true → j ≡ n → ⊥
              gathers_none j m ks gr at by e =
                  let z : true ≡ false = sym by ∙ ap (gathers_by ops) (sym at ∙ ap (shape_at ops) e ∙ is) ∙ no in cc

          -- what the call of a step of first bindings asked of the sources
          pub firsts_asks : Asks a here ops n (stands a ops n F c).ahead
          firsts_asks = record {
            kept = keeps_then k.kept kept;
            above = λ j m. (let x = k.above j (omega (arith, (inputs_at ops typed n within F is).0, m)) in (x.0, g.others j (λ e. omega (arith, e, m)) ∙ x.1, x.2));
            lazy = λ t w. (let asked = k.lazy t w in let l = firsts_costs ops n i keys group some typed within is a c h in omega (arith, asked, l));
            none = λ s. k.none (firsts_single ops n i keys group some typed within is s);
          }

          -- a binding of the input whose key is new is one of the operator
          pub firsts_at : was_seen key (take (count_of c) (seen_at b n)) ≡ false → count_of c < length (slice_index_or seen n []) → (q : _)
              → Finds a here ops n F (stands a ops n F c).ahead (weighs a ops n F c) (First' q d (suc (count_of c)))
          firsts_at m l q = record {
            cursor = first_new ops n i keys group is a (below c) (count_of c) passed b bench k.kept d f late key parts val ones seen b.walked g pushed refl (λ m number place x y. y) m l some (λ z. (let x : true ≡ false = sym z ∙ no in cc)) q;
            row = refl;
            falls = subst (λ (z : ℕ). (z - suc (count_of c)) * suc z + z < weighs a ops n F c) (sym size)
                (firsts_over_next ops n i keys group some typed within is a c h (let e = size in omega (arith, few, e)));
            found = λ t. ap found (firsts_ahead_is ops n i keys group some typed within is a c h)
                ∙ first_next ops n i keys group is a (below c) (count_of c) passed b bench k.kept d f late key parts val ones seen b.walked g pushed refl (λ m number place x y. y) m l q t;
          }
            where
              size : size_of here ops i ≡ size_of a ops i
              size = size_here ops n i keys group is a (below c) (count_of c) passed b bench k.kept d f late key parts val ones seen b.walked g pushed refl (λ m number place x y. y) m l

              few : number here ops i d + suc (count_of c) ≤ size_of here ops i
              few = few_here ops n i keys group is a (below c) (count_of c) passed b bench k.kept d f late key parts val ones seen b.walked g pushed refl (λ m number place x y. y) m l

          -- a binding of the input whose key was seen is passed
          pub firsts_on : was_seen key (take (count_of c) (seen_at b n)) ≡ true → (q : _) → Moves a here ops n F (stands a ops n F c).ahead (weighs a ops n F c) (Seen' q d (count_of c))
          firsts_on m q =
              let moves = goes_past m q in
              let stay = stays_in_shape b here kept ops late n F (Seen' q d (count_of c)) moves.cursor in
              record {
                cursor = stay.cursor;
                falls = (let i = moves.falls in let j = stay.number_is in omega (arith, i, j));
                found = λ t. moves.found t ∙ sym (ap found stay.ahead_is);
                lazy = λ t w. (let i = moves.lazy t w in let j = ap cost stay.ahead_is in omega (arith, i, j));
              }
