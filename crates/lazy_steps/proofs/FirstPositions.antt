-- The positions of an operator that drops bindings by keys that it has seen: each stands over one of the input.
use Rattle.std.proofs.Common.{◌≡◌, ◌<◌, ◌≤◌, ◌+◌, ◌-◌, ◌*◌, ℕ, zero, suc, true, false, List, [], ◌∷◌, Option, Some, None, length, refl, ◌∙◌, sym, ap, arith}
use Rattle.std.specs.Prelude.{IsTrue, not}
use Rattle.mix_base.specs.Events.{nothing, found, cost}
use Rattle.lazy_descend.specs.Searches.{FindsNone}
use Rattle.mix_tree.specs.declared.var.Key.{Key}
use Rattle.plan_core.specs.declared.plan.Piece.{Piece}
use Rattle.plan_core.specs.Plans.{Operator, over}
use Rattle.plan_core.specs.Unary.{group_by}
use Rattle.plan_core.specs.Valid.{shape_single}
use Rattle.plan_core.specs.Shapes.{Stage, Shape, first_by_keys, shape_of, shape_at, passes_on}
use Rattle.plan_core.specs.Fronts.{stops_over, op_stops, shape_apart}
use Rattle.plan_core.specs.Events.{kept_row}
use Rattle.plan_core.specs.Typed.{IsTyped}
use Rattle.plan_core.specs.Events.{distinct}
use Rattle.plan_core.proofs.Distinct.{found-distinct_none, cost-distinct_le}
use Rattle.lazy_binding.specs.declared.position.Position.{Position, Start, Pass', First', Seen'}
use Rattle.lazy_binding.specs.World.{World, docs_of, is_told, seen_at}
use Rattle.lazy_binding.specs.Cursors.{gathers_by, up_to, ahead, number, size, stands, weighs, IsIn, IsOf}
use Rattle.lazy_binding.specs.Gathering.{IsPassed}
use Rattle.lazy_binding.specs.Reading.{below, count_of}
use Rattle.lxp_core.specs.View.{View}
use Rattle.lazy_binding.specs.declared.parts.Growing.{Growing}
use Rattle.lazy_binding.specs.declared.parts.Fixed.{Fixed}
use Rattle.lazy_binding.specs.Parts.{operators, world_of}
use Rattle.lazy_steps.specs.Steps.{single, CanStep, telling}
use Rattle.lazy_binding.proofs.Bound.{inputs_at}
use Rattle.lazy_binding.proofs.Gathering.{passed_there, passed_first}
use Rattle.lazy_steps.proofs.Goes.{in_shape, less_times, IsOver}
use Rattle.lazy_steps.proofs.Shapes.{events_at, size_at, single_at}

-- an operator that passes on bindings of its input is one of the plan's
is_within : (ops : List Operator) (n i : ℕ) (stage : Stage) → shape_at ops n ≡ passes_on i stage → n < length ops
is_within [] n i stage e = cc
is_within (o ∷ ops) zero i stage e = omega arith
is_within (o ∷ ops) (suc n) i stage e = (let l = is_within ops n i stage e in omega (arith, l))

-- before all events nothing is passed
pub passed_start : (w : World) (ops : List Operator) → IsTyped ops → (n i : ℕ) (keys : List Key) (group : Option (Piece × ℕ)) → shape_at ops n ≡ passes_on i (first_by_keys keys group)
    → IsPassed w ops n i keys group Start 0
passed_start w ops typed n i keys group is = record {
  cursor = tt;
  few = omega arith;
  within = omega arith;
  seen = λ t. refl;
  before = λ t row e. refl;
  past = λ t.
      let e = events_at ops typed n (is_within ops n i (first_by_keys keys group) is) (passes_on i (first_by_keys keys group)) is (docs_of w) in
      let l = ap cost e in
      record { found = ap found e; costs = omega (arith, l) };
}

module _ (ops : List Operator) (n i : ℕ) (keys : List Key) (group : Option (Piece × ℕ)) (some : shape_apart ops (passes_on i (first_by_keys keys group)) ≡ false) where
  -- the shape of an operator that keeps the first bindings of its input by keys
  abbrev F : Shape
  F = passes_on i (first_by_keys keys group)

  -- no position passes on a binding whose keys aren't looked at
  not_passed : (w : World) (q : _) (c : Position) → IsIn w ops n F (Pass' q c) → ⊥
  not_passed w q c h = by_group group some h
    where
      by_group : (g : Option (Piece × ℕ)) → shape_apart ops (passes_on i (first_by_keys keys g)) ≡ false → IsIn w ops n (passes_on i (first_by_keys keys g)) (Pass' q c) → ⊥
      by_group None e k = (let z : true ≡ false = sym k.2 ∙ e in cc)
      by_group (Some g) e k = k

  -- the part of a position of first bindings that is a position of the input
  pub firsts_below : (w : World) (c : Position) → IsIn w ops n F c → IsOf w ops i (below c)
  firsts_below w Start h = tt
  firsts_below w (First' q c k) h = h.0
  firsts_below w (Seen' q c k) h = h.0
  firsts_below w (Pass' q c) h = absurd (not_passed w q c h)
  firsts_below w c h = absurd h

  -- no more keys were seen up to a position of first bindings than the operator has seen
  pub firsts_count : (w : World) (c : Position) → IsIn w ops n F c → count_of c ≤ length (seen_at w n)
  firsts_count w Start h = omega arith
  firsts_count w (First' q c k) h = h.2
  firsts_count w (Seen' q c k) h = h.2
  firsts_count w (Pass' q c) h = absurd (not_passed w q c h)
  firsts_count w c h = absurd h

  module _ (typed : IsTyped ops) (within : n < length ops) (is : shape_at ops n ≡ F) where
    -- the events after a position of first bindings are those of the input whose keys were not seen up to it
    pub firsts_ahead_is : (w : World) (c : Position) → IsIn w ops n F c → (stands w ops n F c).ahead ≡ distinct (docs_of w) keys (kept_row (docs_of w) keys (stops_over ops i keys) group) (up_to w n (count_of c)) (ahead w ops i (below c))
    firsts_ahead_is w Start h = events_at ops typed n within F is (docs_of w)
    firsts_ahead_is w (First' q c k) h = refl
    firsts_ahead_is w (Seen' q c k) h = refl
    firsts_ahead_is w (Pass' q c) h = absurd (not_passed w q c h)
    firsts_ahead_is w c h = absurd h

    -- the walk over the input has passed all that is up to a position of first bindings
    pub firsts_passed : (w : World) (c : Position) → IsIn w ops n F c → IsPassed w ops n i keys group (below c) (count_of c)
    firsts_passed w Start h = passed_start w ops typed n i keys group is
    firsts_passed w (First' q c k) h = passed_first w ops n i keys group c k q h
    firsts_passed w (Seen' q c k) h = passed_there w ops n i keys group c k q h
    firsts_passed w (Pass' q c) h = absurd (not_passed w q c h)
    firsts_passed w c h = absurd h

    -- the number of a position of first bindings is above that of a later position with as many keys seen
    pub firsts_above : (w : World) (c : Position) → IsIn w ops n F c → (m : ℕ) → m < number w ops i (below c) → (size w ops i - count_of c) * suc (size w ops i) + m < weighs w ops n F c
    firsts_above w Start h m l =
        let z = size_at ops typed n within F is w in
        let k = less_times (size w ops i - count_of Start) (suc (size w ops i)) m (size w ops i) (omega arith) (omega (arith, l)) in
        omega (arith, k, z)
    firsts_above w (First' q c k) h m l = (let few = h.7 in omega (arith, few, l))
    firsts_above w (Seen' q c k) h m l = omega (arith, l)
    firsts_above w (Pass' q c) h m l = absurd (not_passed w q c h)
    firsts_above w c h m l = absurd h

    -- the number of a position of first bindings is above that of one at a binding with one key more
    pub firsts_over_next : (w : World) (c : Position) → IsIn w ops n F c → suc (count_of c) ≤ size w ops i
        → (size w ops i - suc (count_of c)) * suc (size w ops i) + size w ops i < weighs w ops n F c
    firsts_over_next w Start h l =
        let z = size_at ops typed n within F is w in
        let k = less_times (size w ops i - suc (count_of Start)) (suc (size w ops i)) (size w ops i) (size w ops i) (omega arith) (omega arith) in
        omega (arith, k, z)
    firsts_over_next w (First' q c k) h l =
        let m = less_times (size w ops i - suc k) (size w ops i - k) (size w ops i) (size w ops i) (omega (arith, l)) (omega arith) in
        omega (arith, m)
    firsts_over_next w (Seen' q c k) h l =
        let m = less_times (size w ops i - suc k) (size w ops i - k) (size w ops i) (size w ops i) (omega (arith, l)) (omega arith) in
        omega (arith, m)
    firsts_over_next w (Pass' q c) h l = absurd (not_passed w q c h)
    firsts_over_next w c h l = absurd h

    -- first bindings of which there is a single one are of an input that has a single one
    pub firsts_single : IsTrue (single ops n) → IsTrue (single ops i)
    firsts_single s = alone group (sym (single_at ops typed n within F is) ∙ s)
      where
        alone : (g : Option (Piece × ℕ)) → shape_single (passes_on i (first_by_keys keys g)) (single ops) ≡ true → IsTrue (single ops i)
        alone None e = e
        alone (Some g) e = cc

    module _ (a : World) (c : Position) (h : IsIn a ops n F c) where
      -- what a call of the input may cost, a call for first bindings may cost
      pub firsts_costs : cost (ahead a ops i (below c)) ≤ cost (stands a ops n F c).ahead
      firsts_costs =
          let p = cost-distinct_le (docs_of a) keys (kept_row (docs_of a) keys (stops_over ops i keys) group) (up_to a n (count_of c)) (ahead a ops i (below c)) in
          let q = ap cost (firsts_ahead_is a c h) in
          omega (arith, p, q)

      -- where no more bindings of the input come, no more first bindings come
      pub firsts_done : (FindsNone (telling a ops) (ahead a ops i (below c))) → IsTrue (is_told a ops) → found (stands a ops n F c).ahead ≡ nothing
      firsts_done f t =
          ap found (firsts_ahead_is a c h)
          ∙ found-distinct_none (docs_of a) keys (kept_row (docs_of a) keys (stops_over ops i keys) group) (up_to a n (count_of c)) (ahead a ops i (below c)) (f t)

-- a groupBy passes on no binding as a project may
pub group_some : (ops : List Operator) (i j : ℕ) (keys others : List Key) (piece : Piece) (out : ℕ) (group : Option (Piece × ℕ)) → shape_of (over i (group_by keys piece out)) ≡ passes_on j (first_by_keys others group)
    → shape_apart ops (passes_on j (first_by_keys others group)) ≡ false
group_some ops i j keys others piece out (Some g) e = refl
group_some ops i j [] others piece out None e = cc
group_some ops i j (k ∷ keys) others piece out None e = cc

-- an operator that makes groups by keys makes something of each group
pub group_made : (i j : ℕ) (keys others : List Key) (piece : Piece) (out : ℕ) (group : Option (Piece × ℕ)) → shape_of (over i (group_by keys piece out)) ≡ passes_on j (first_by_keys others group)
    → (made : Piece × ℕ) × (group ≡ Some made)
group_made i j [] others piece out group e = cc
group_made i j (k ∷ keys) others piece out group e = ((piece, out), cc)

-- a groupBy by keys gathers the members of its groups where they end with its input
pub group_gathers : (ops : List Operator) (i j : ℕ) (keys others : List Key) (piece : Piece) (out : ℕ) (group : Option (Piece × ℕ)) → shape_of (over i (group_by keys piece out)) ≡ passes_on j (first_by_keys others group)
    → gathers_by ops (passes_on j (first_by_keys others group)) ≡ not (op_stops ops (over i (group_by keys piece out)))
group_gathers ops i j [] others piece out group e = cc
group_gathers ops i j (k ∷ keys) others piece out group e = sym (ap (gathers_by ops) e)

-- a position of first bindings stands over one of its input
pub firsts_over : {v : View} {g : Growing} {p : Fixed} {n : ℕ} {c : Position} → CanStep v g p n c → (i : ℕ) (keys : List Key) (group : Option (Piece × ℕ))
    → shape_at (operators p) n ≡ passes_on i (first_by_keys keys group) → shape_apart (operators p) (passes_on i (first_by_keys keys group)) ≡ false → IsOver (operators p) n i (passes_on i (first_by_keys keys group)) (world_of v g) c
firsts_over {v} {g} {p} {n} {c} can i keys group is some =
    let h = in_shape can (passes_on i (first_by_keys keys group)) is in record {
      input = firsts_below (operators p) n i keys group some (world_of v g) c h;
      costs = firsts_costs (operators p) n i keys group some can.fixed.typed can.op is (world_of v g) c h;
      less = (inputs_at (operators p) can.fixed.typed n can.op (passes_on i (first_by_keys keys group)) is).0;
      alone = firsts_single (operators p) n i keys group some can.fixed.typed can.op is;
      over = firsts_done (operators p) n i keys group some can.fixed.typed can.op is (world_of v g) c h;
    }
