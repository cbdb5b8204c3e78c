-- A step over the groups of an operator whose members are gathered: the walk of its input goes on until the next group is there.
use Rattle.std.proofs.Common.{◌≡◌, ◌<◌, ◌≤◌, ◌+◌, ◌-◌, ◌*◌, inl, inr, ℕ, zero, suc, Bool, true, false, List, [], ◌∷◌, Option, Some, None, length, take, refl, ◌∙◌, sym, ap, subst, arith}
use Rattle.std.specs.Prelude.{IsTrue, nat_lt, slice_get, slice_index_or}
use Rattle.std.specs.declared.alloc.Global.{Global}
use Rattle.std.specs.declared.rc.Rc.{Rc}
use Rattle.std.proofs.lemmas.Bool.Decides.{nat_tests}
use Rattle.mix_base.proofs.Choices.{some_is}
use Rattle.mix_base.specs.Events.{nothing, finds, found, cost}
use Rattle.lazy_descend.specs.Searches.{FindsNone}
use Rattle.lazy_descend.proofs.Searches.{still_told, still_forward}
use Rattle.mix_tree.specs.Nodes.{Documents}
use Rattle.mix_tree.specs.declared.var.Key.{Key}
use Rattle.plan_core.specs.declared.plan.Piece.{Piece}
use Rattle.plan_core.specs.Plans.{Operator}
use Rattle.plan_core.specs.Shapes.{Shape, first_by_keys, shape_at, passes_on}
use Rattle.plan_core.specs.Fronts.{stops_over}
use Rattle.plan_core.specs.Typed.{IsTyped}
use Rattle.plan_core.specs.Events.{RowEvents, events, kept_row}
use Rattle.plan_core.proofs.Distinct.{found-distinct_none, cost-distinct_le}
use Rattle.tree_buffer.specs.Law.{SpotsAreOne}
use Rattle.lazy_binding.specs.declared.key.KeyPart.{KeyPart}
use Rattle.lazy_binding.specs.declared.position.Position.{Position, Start, First', Seen'}
use Rattle.lazy_binding.specs.Bench.{IsBench}
use Rattle.lazy_binding.specs.Cursors.{up_to, ahead, number, stands, weighs, past_first, gathers_by, IsIn}
use Rattle.lazy_binding.specs.Gathering.{IsPassed, HasGroup, AreGathered}
use Rattle.lazy_binding.specs.Keys.{was_seen}
use Rattle.lazy_binding.specs.Reading.{count_of}
use Rattle.lazy_binding.specs.World.{World, docs_of, is_told, is_forward, seen_at, gathered_at}
use Rattle.lazy_binding.proofs.Keep.{docs_kept, keeps_same, keeps_then}
use Rattle.lazy_binding.proofs.Stay.{size_kept}
use Rattle.lazy_steps.specs.Gathers.{IsFurther}
use Rattle.lazy_steps.specs.Steps.{Asks, Finds, telling}
use Rattle.lazy_steps.proofs.FirstPositions.{firsts_count, firsts_over_next}
use Rattle.lazy_steps.proofs.Goes.{asks_nothing, tells_on, untouched_then}
use Rattle.lazy_steps.proofs.SeenPlaces.{below_is}
use Rattle.lazy_steps.proofs.PassedSteps.{first_events, old, later_same}

-- what a test of two numbers says
is_below : (x y : ℕ) → nat_lt x y ≡ true → x < y
is_below x y v = grind (arith, nat_tests, v)

not_below : (x y : ℕ) → nat_lt x y ≡ false → y ≤ x
not_below x y v = grind (arith, nat_tests, v)

-- the bindings of operator n after the first few, by the binding of its input that was walked to
abbrev pub left_after : List Operator → ℕ → ℕ → List Key → Piece × ℕ → World → ℕ → RowEvents
left_after ops n i keys made w few = first_events ops n i keys (Some made) (docs_of w) (up_to w n few) (ahead w ops i (gathered_at w n).last)

-- the events ahead of a position of an operator that gathers
abbrev pub whole_ahead : List Operator → ℕ → ℕ → List Key → Piece × ℕ → World → Position → RowEvents
whole_ahead ops n i keys made w c = (stands w ops n (passes_on i (first_by_keys keys (Some made))) c).ahead

-- a step from a position has come so far: where there are no more groups than were counted up to it, what the walk has left is what was ahead of it
pub record ComesTo (ops : List Operator) (n i : ℕ) (keys : List Key) (made : Piece × ℕ) (a b : World) (c : Position) : Type 0 where
  pub asks : Asks a b ops n (whole_ahead ops n i keys made a c)
  pub same : length (gathered_at b n).groups ≡ count_of c → IsTrue (is_told a ops) → found (whole_ahead ops n i keys made a c) ≡ found (left_after ops n i keys made b (count_of c))
  pub costs : length (gathered_at b n).groups ≡ count_of c → IsTrue (is_told a ops) → IsTrue (is_forward a ops)
      → b.view.fills + cost (left_after ops n i keys made b (count_of c)) ≤ a.view.fills + cost (whole_ahead ops n i keys made a c)

module _ (ops : List Operator) (n i : ℕ) (keys : List Key) (made : Piece × ℕ) (typed : IsTyped ops) (within : n < length ops)
    (is : shape_at ops n ≡ passes_on i (first_by_keys keys (Some made))) (by : gathers_by ops (passes_on i (first_by_keys keys (Some made))) ≡ true) where
  -- what an operator makes of each of its groups
  abbrev group : Option (Piece × ℕ)
  group = Some made

  -- the shape of an operator whose groups end with its input
  abbrev F : Shape
  F = passes_on i (first_by_keys keys group)

  -- the events of the operator that the walk has left
  abbrev left : World → ℕ → RowEvents
  left w few = left_after ops n i keys made w few

  -- what was gathered of the operator is of its groups
  good : (w : World) → IsBench w ops → AreGathered w ops n i keys group (gathered_at w n)
  good w bench = bench.gathered n i keys group is by

  -- what the input's events cost, the operator's events cost
  left_costs : (w : World) (few : ℕ) → cost (ahead w ops i (gathered_at w n).last) ≤ cost (left w few)
  left_costs w few = cost-distinct_le (docs_of w) keys (kept_row (docs_of w) keys (stops_over ops i keys) group) (up_to w n few) (ahead w ops i (gathered_at w n).last)

  -- where no more bindings of the input come, no more groups come
  left_none : (w : World) (few : ℕ) → found (ahead w ops i (gathered_at w n).last) ≡ nothing → found (left w few) ≡ nothing
  left_none w few e = found-distinct_none (docs_of w) keys (kept_row (docs_of w) keys (stops_over ops i keys) group) (up_to w n few) (ahead w ops i (gathered_at w n).last) e

  module _ (a : World) (bench : IsBench a ops) (c : Position) (h : IsIn a ops n F c) where
    -- no more groups were counted up to a position than there are
    count_low : count_of c ≤ length (seen_at a n)
    count_low = firsts_count ops n i keys group refl a c h

    -- the bindings ahead of a position of an operator that makes groups are those after as many as were counted up to it
    whole_is : IsTrue (is_told a ops) → (z : Position) → IsIn a ops n F z → (stands a ops n F z).ahead ≡ past_first (count_of z) (events (docs_of a) ops n)
    whole_is t Start k = refl
    whole_is t (First' q x m) k = k.9 t
    whole_is t (Seen' q x m) k = (let z : true ≡ false = sym by ∙ k.8 in cc)
    whole_is t z k = absurd k

    -- a walk to the next group begins with all of its events ahead
    pub comes_first : ComesTo ops n i keys made a a c
    comes_first = record {
      asks = asks_nothing a ops n (keeps_same a ops bench) (stands a ops n F c).ahead;
      same = λ e t.
          let p = (good a bench).walked.past t in
          ap found (whole_is t c h) ∙ ap (λ (z : ℕ). found (past_first z (events (docs_of a) ops n))) (sym e) ∙ p.found
          ∙ ap (λ (z : ℕ). found (left a z)) e;
      costs = λ e t f.
          let p = ((good a bench).walked.past t).costs in
          let x = ap cost (whole_is t c h) in
          let y = ap (λ (z : ℕ). cost (past_first z (events (docs_of a) ops n))) e in
          let z = ap (λ (z : ℕ). cost (left a z)) e in
          omega (arith, p, x, y, z);
    }

    module _ (b : World) (late : IsBench b ops) (come : ComesTo ops n i keys made a b c) where
      -- what was told before a walk is told after it
      told_then : IsTrue (is_told a ops) → IsTrue (is_told b ops)
      told_then t = still_told (tells_on come.asks.kept ops) t

      -- where the next group isn't there, no more were found than were counted
      pub none_there : slice_get (slice_index_or (gathered_at b n).groups (count_of c) []) 0 ≡ None → length (gathered_at b n).groups ≡ count_of c
      none_there e = by_case (slice_index_or (gathered_at b n).groups (count_of c) []) refl
        where
          low : count_of c ≤ length (gathered_at b n).groups
          low = (let l = count_low in let m = come.asks.kept.longer n in let k = (good b late).count in omega (arith, l, m, k))

          by_case : (ls : List (Rc Position Global)) → slice_index_or (gathered_at b n).groups (count_of c) [] ≡ ls → length (gathered_at b n).groups ≡ count_of c
          by_case (m ∷ ms) f = (let z : Some m ≡ None = ap (λ (ls : List (Rc Position Global)). slice_get ls 0) (sym f) ∙ e in cc)
          by_case [] f = at_end (nat_lt (count_of c) (length (gathered_at b n).groups)) refl
            where
              at_end : (v : Bool) → nat_lt (count_of c) (length (gathered_at b n).groups) ≡ v → length (gathered_at b n).groups ≡ count_of c
              at_end true v = absurd (subst (HasGroup b ops n i keys (gathered_at b n).last (count_of c)) f ((good b late).groups (count_of c) (is_below (count_of c) (length (gathered_at b n).groups) v)))
              at_end false v = (let l = not_below (count_of c) (length (gathered_at b n).groups) v in omega (arith, l, low))

      -- the next group is the operator's next binding
      pub group_found : (m : Rc Position Global) → slice_get (slice_index_or (gathered_at b n).groups (count_of c) []) 0 ≡ Some m → (q : Rc (Unit {0}) Global)
          → Finds a b ops n F (stands a ops n F c).ahead (weighs a ops n F c) (First' q m.value (suc (count_of c)))
      group_found m e q = by_case (slice_index_or (gathered_at b n).groups (count_of c) []) refl
        where
          within_groups : (ls : List (List (Rc Position Global))) (k : ℕ) (r : Rc Position Global) (rs : List (Rc Position Global)) → slice_index_or ls k [] ≡ r ∷ rs → k < length ls
          within_groups [] k r rs f = cc
          within_groups (x ∷ xs) zero r rs f = omega arith
          within_groups (x ∷ xs) (suc k) r rs f = (let l = within_groups xs k r rs f in omega (arith, l))

          by_case : (ls : List (Rc Position Global)) → slice_index_or (gathered_at b n).groups (count_of c) [] ≡ ls
              → Finds a b ops n F (stands a ops n F c).ahead (weighs a ops n F c) (First' q m.value (suc (count_of c)))
          by_case [] f = (let z : None ≡ Some m = ap (λ (ls : List (Rc Position Global)). slice_get ls 0) (sym f) ∙ e in cc)
          by_case (x ∷ ms) f =
              let same : x ≡ m = some_is x m (ap (λ (ls : List (Rc Position Global)). slice_get ls 0) (sym f) ∙ e) in
              subst (λ (y : Rc Position Global). Finds a b ops n F (stands a ops n F c).ahead (weighs a ops n F c) (First' q y.value (suc (count_of c)))) same (there x ms f)
            where
              there : (x : Rc Position Global) (ms : List (Rc Position Global)) → slice_index_or (gathered_at b n).groups (count_of c) [] ≡ x ∷ ms
                  → Finds a b ops n F (stands a ops n F c).ahead (weighs a ops n F c) (First' q x.value (suc (count_of c)))
              there x ms f =
                  let has = subst (HasGroup b ops n i keys (gathered_at b n).last (count_of c)) f ((good b late).groups (count_of c) (within_groups (gathered_at b n).groups (count_of c) x ms f)) in
                  let cursor = subst (λ (z : Shape). IsIn b ops n z (First' q x.value (suc (count_of c)))) is (has.0 q) in
                  let same = size_kept a b come.asks.kept ops bench i in
                  record {
                    cursor = cursor;
                    row = refl;
                    falls = subst (λ (z : ℕ). (z - suc (count_of c)) * suc z + z < weighs a ops n F c) (sym same)
                        (firsts_over_next ops n i keys group refl typed within is a c h (let l = cursor.7 in omega (arith, l, same)));
                    found = λ t.
                        ap found (whole_is t c h)
                        ∙ ap (λ (z : Documents). found (past_first (count_of c) (events z ops n))) (sym (docs_kept come.asks.kept ops bench))
                        ∙ subst (λ (z : Shape). found (past_first (count_of c) (events (docs_of b) ops n)) ≡ finds (stands b ops n z (First' q x.value (suc (count_of c)))).row (stands b ops n z (First' q x.value (suc (count_of c)))).ahead) is
                        (has.1 q (told_then t));
                  }

      -- where the walk has ended, there is no further group
      pub group_none : length (gathered_at b n).groups ≡ count_of c → (IsTrue (is_told b ops) → found (ahead b ops i (gathered_at b n).last) ≡ nothing) → FindsNone (telling a ops) (stands a ops n F c).ahead
      group_none e none t = come.same e t ∙ left_none b (count_of c) (none (told_then t))

      module _ (e : World) (k : Asks b e ops n (ahead b ops i (gathered_at b n).last)) (count : length (gathered_at b n).groups ≡ count_of c) where
        -- a call for one more member after others asks in all for no more than the events ahead of the position allow
        pub comes_asks : Asks a e ops n (stands a ops n F c).ahead
        comes_asks = record {
          kept = keeps_then come.asks.kept k.kept;
          above = λ j l. untouched_then a b e j (come.asks.above j l) (k.above j l);
          lazy = λ t f.
              let x = come.costs count t f in
              let y = k.lazy (told_then t) (still_forward (tells_on come.asks.kept ops) f) in
              let z = left_costs b (count_of c) in
              omega (arith, x, y, z);
          none = λ s. k.none s ∙ come.asks.none s;
        }

        -- a walk to the next group goes on by one more member that was found
        pub comes_on : IsBench e ops → IsFurther b e ops n i keys → SpotsAreOne → ComesTo ops n i keys made a e c
        comes_on last m ones = record {
          asks = comes_asks;
          same = λ x t.
              let p = (good b late).walked.past (told_then t) in
              let q = (good e last).walked.past (still_told (tells_on k.kept ops) (told_then t)) in
              come.same count t
              ∙ ap (λ (z : ℕ). found (left b z)) (sym count) ∙ sym p.found
              ∙ ap (λ (z : ℕ). found (past_first z (events (docs_of b) ops n))) (count ∙ sym x)
              ∙ ap (λ (z : Documents). found (past_first (length (gathered_at e n).groups) (events z ops n))) (sym (docs_kept k.kept ops late))
              ∙ q.found ∙ ap (λ (z : ℕ). found (left e z)) x;
          costs = λ x t f.
              let was = known x in
              let u = told_then t in
              let cost_b = come.costs count t f in
              let asked = k.lazy u (still_forward (tells_on come.asks.kept ops) f) in
              let gone = old ops n i keys group is b (gathered_at b n).last (count_of c) passed e late k.kept m.next m.found last m.key m.parts m.value ones u was in
              let rest = gone.costs in
              let same = ap cost (later_same ops n i keys group is b (gathered_at b n).last (count_of c) passed e late k.kept m.next m.found last m.key m.parts m.value ones) in
              let at = ap (λ (z : Position). cost (first_events ops n i keys group (docs_of e) (up_to e n (count_of c)) (ahead e ops i z))) last_is in
              omega (arith, cost_b, asked, rest, same, at);
        }
          where
            passed : IsPassed b ops n i keys group (gathered_at b n).last (count_of c)
            passed = subst (IsPassed b ops n i keys group (gathered_at b n).last) count (good b late).walked

            last_is : (gathered_at e n).last ≡ m.next
            last_is = m.goes.2.last ∙ m.goes.1

            known : length (gathered_at e n).groups ≡ count_of c → was_seen m.key (take (count_of c) (seen_at e n)) ≡ true
            known x = elim m.goes.2.member [
              | inl y ↦ (
                  let l = y.2.within in
                  ap (λ (z : List (List KeyPart)). was_seen m.key (take (count_of c) z)) y.1 ∙ sym (y.2.known (count_of c)) ∙ below_is y.0 (count_of c) (omega (arith, l, count)))
              | inr y ↦ absurd (let l = y.begun.lists in omega (arith, l, x, count))
            ]

-- with one more member the walk stands nearer to the end of the input
pub further_falls : (b e : World) (ops : List Operator) (n i : ℕ) (keys : List Key) → IsFurther b e ops n i keys → number e ops i (gathered_at e n).last < number b ops i (gathered_at b n).last
further_falls b e ops n i keys m = subst (λ (z : Position). number e ops i z < number b ops i (gathered_at b n).last) (sym (m.goes.2.last ∙ m.goes.1)) m.found.falls
