-- A walk over first bindings by keys, from a binding of its input to the next.
use Rattle.std.proofs.Common.{◌≡◌, ◌<◌, ◌≤◌, ℕ, suc, true, false, [], length, Option, Some, inl, inr, ◌∙◌, sym, subst, arith, add-one}
use Rattle.std.specs.Prelude.{◌⊎◌, Ok, slice_index_or, take}
use Rattle.std.specs.declared.alloc.Global.{Global}
use Rattle.std.specs.declared.rc.Rc.{Rc}
use Rattle.lazy_descend.proofs.Searches.{comes_at}
use Rattle.lxp_core.specs.View.{View}
use Rattle.plan_core.specs.Shapes.{Shape, first_by_keys, shape_at, passes_on}
use Rattle.tree_buffer.specs.Law.{SpotsAreOne}
use Rattle.lazy_binding.specs.declared.parts.Growing.{Growing}
use Rattle.lazy_binding.specs.declared.position.Position.{Position, First', Seen'}
use Rattle.lazy_binding.specs.Cursors.{ahead, number, stands, weighs}
use Rattle.lazy_binding.specs.Keeping.{Keeps}
use Rattle.lazy_binding.specs.Keys.{was_seen}
use Rattle.lazy_binding.specs.Parts.{operators, world_of}
use Rattle.lazy_binding.specs.Reading.{below, count_of}
use Rattle.lazy_binding.proofs.Stay.{cursors_kept}
use Rattle.lazy_steps.specs.declared.pass_steps.Distinct.{Distinct}
use Rattle.lazy_steps.specs.Firsts.{IsSeenAt, Noted}
use Rattle.lazy_steps.specs.Steps.{Advanced, Asks, Finds, Moves, KeepsFirsts, Ran}
use Rattle.lazy_steps.proofs.Goes.{IsOver, in_shape}
use Rattle.lazy_steps.proofs.FirstPositions.{firsts_over, firsts_count}
use Rattle.lazy_steps.proofs.FirstSteps.{kept as firsts_kept, firsts_bench, firsts_asks, firsts_at, firsts_on}
use Rattle.lazy_steps.proofs.Ways.{WayOver, way_ran, way_under}

module _ {S : Type 0} {view : S → View} {came_from : S → S → Type 0} (k : Distinct) (is : KeepsFirsts k.walk k.input k.keys.now) {c x : Position} {s t : S} {g h : Growing}
    (z : WayOver view came_from k.walk.fixed.now k.walk.op c s g t h x) where
  -- the position to which the walk has come stands over one of the input
  pub first_over : IsOver (operators k.walk.fixed.now) k.walk.op k.input (passes_on k.input (first_by_keys k.keys.now is.0)) (world_of (view t) h) z.at
  first_over = firsts_over z.way.can k.input k.keys.now is.0 is.1 is.2

  module _ {u : S} {j : Growing} (ran : Ran view came_from (operators k.walk.fixed.now) k.input (ahead (world_of (view t) h) (operators k.walk.fixed.now) k.input x) t h u j) where
    -- the keys that were seen up to there are still among those that were seen
    pub first_few : (m : ℕ) → count_of z.at ≡ m → m ≤ length (slice_index_or j.seen.items k.walk.op [])
    first_few m e =
        let few = firsts_count (operators k.walk.fixed.now) k.walk.op k.input k.keys.now is.0 is.2 (world_of (view t) h) z.at (in_shape z.way.can (passes_on k.input (first_by_keys k.keys.now is.0)) is.1) in
        let more = ran.asks.kept.longer k.walk.op in
        omega (arith, few, more, e)

    module _ (y : Position) (f : Finds (world_of (view t) h) (world_of (view u) j) (operators k.walk.fixed.now) k.input (shape_at (operators k.walk.fixed.now) k.input) (ahead (world_of (view t) h) (operators k.walk.fixed.now) k.input x) (number (world_of (view t) h) (operators k.walk.fixed.now) k.input x) y)
        (ones : SpotsAreOne) (l : Growing) (up : Noted j l k y (count_of z.at)) where
      -- what the input was asked, from the position over which the walk stands
      asked : Asks (world_of (view t) h) (world_of (view u) j) (operators k.walk.fixed.now) k.input (ahead (world_of (view t) h) (operators k.walk.fixed.now) k.input (below z.at))
      asked = subst (λ (w : Position). Asks (world_of (view t) h) (world_of (view u) j) (operators k.walk.fixed.now) k.input (ahead (world_of (view t) h) (operators k.walk.fixed.now) k.input w)) (sym z.over) ran.asks

      -- what the input found, from there
      came_to : Finds (world_of (view t) h) (world_of (view u) j) (operators k.walk.fixed.now) k.input (shape_at (operators k.walk.fixed.now) k.input) (ahead (world_of (view t) h) (operators k.walk.fixed.now) k.input (below z.at)) (number (world_of (view t) h) (operators k.walk.fixed.now) k.input (below z.at)) y
      came_to = subst (λ (w : Position). Finds (world_of (view t) h) (world_of (view u) j) (operators k.walk.fixed.now) k.input (shape_at (operators k.walk.fixed.now) k.input) (ahead (world_of (view t) h) (operators k.walk.fixed.now) k.input w) (number (world_of (view t) h) (operators k.walk.fixed.now) k.input w) y) (sym z.over) f

      -- the state afterwards, in which the keys alone may have changed
      abbrev noted : Growing
      noted = record { buffers = j.buffers; seen = l.seen; memos = j.memos; walked = j.walked }

      -- what every call keeps, a look at a key keeps
      pub first_kept : Keeps (world_of (view u) j) (world_of (view u) l)
      first_kept = subst (λ (w : Growing). Keeps (world_of (view u) j) (world_of (view u) w)) (sym up.rest)
          (firsts_kept (operators k.walk.fixed.now) k.walk.op k.input k.keys.now is.0 is.2 is.3 z.way.can.fixed.typed z.way.can.op is.1 (world_of (view t) h) z.at (in_shape z.way.can (passes_on k.input (first_by_keys k.keys.now is.0)) is.1) (world_of (view u) j) z.way.can.bench asked y came_to ran.bench
          up.key (up.parts (view u) ran.bench f.cursor) (up.value (view u) ran.bench f.cursor) ones l.seen.items up.grows up.pushed)

      -- what a look at a key leaves of the operator
      left : Ran view came_from (operators k.walk.fixed.now) k.walk.op (stands (world_of (view t) h) (operators k.walk.fixed.now) k.walk.op (passes_on k.input (first_by_keys k.keys.now is.0)) z.at).ahead t h u noted
      left = record {
        came = ran.came;
        bench = firsts_bench (operators k.walk.fixed.now) k.walk.op k.input k.keys.now is.0 is.2 is.3 z.way.can.fixed.typed z.way.can.op is.1 (world_of (view t) h) z.at (in_shape z.way.can (passes_on k.input (first_by_keys k.keys.now is.0)) is.1) (world_of (view u) j) z.way.can.bench asked y came_to ran.bench
            up.key (up.parts (view u) ran.bench f.cursor) (up.value (view u) ran.bench f.cursor) ones l.seen.items up.grows up.pushed;
        asks = firsts_asks (operators k.walk.fixed.now) k.walk.op k.input k.keys.now is.0 is.2 is.3 z.way.can.fixed.typed z.way.can.op is.1 (world_of (view t) h) z.at (in_shape z.way.can (passes_on k.input (first_by_keys k.keys.now is.0)) is.1) (world_of (view u) j) z.way.can.bench asked y came_to ran.bench
            up.key (up.parts (view u) ran.bench f.cursor) (up.value (view u) ran.bench f.cursor) ones l.seen.items up.grows up.pushed;
      }

      -- what a look at the key of the input's binding leaves
      pub first_left : Ran view came_from (operators k.walk.fixed.now) k.walk.op (ahead (world_of (view t) h) (operators k.walk.fixed.now) k.walk.op z.at) t h u l
      first_left =
          subst (λ (w : Growing). Ran view came_from (operators k.walk.fixed.now) k.walk.op (ahead (world_of (view t) h) (operators k.walk.fixed.now) k.walk.op z.at) t h u w) (sym up.rest)
          (subst (λ (w : Shape). Ran view came_from (operators k.walk.fixed.now) k.walk.op (stands (world_of (view t) h) (operators k.walk.fixed.now) k.walk.op w z.at).ahead t h u noted) (sym is.1) left)

      -- a binding of a new key is one of the operator
      pub first_found : was_seen up.key (take (count_of z.at) (slice_index_or j.seen.items k.walk.op [])) ≡ false → count_of z.at < length (slice_index_or l.seen.items k.walk.op []) → (q : _) (m : ℕ) → m ≡ suc (count_of z.at)
          → Finds (world_of (view t) h) (world_of (view u) l) (operators k.walk.fixed.now) k.walk.op (shape_at (operators k.walk.fixed.now) k.walk.op) (ahead (world_of (view t) h) (operators k.walk.fixed.now) k.walk.op z.at) (number (world_of (view t) h) (operators k.walk.fixed.now) k.walk.op z.at) (First' q y m)
      first_found new more q m e =
          subst (λ (w : ℕ). Finds (world_of (view t) h) (world_of (view u) l) (operators k.walk.fixed.now) k.walk.op (shape_at (operators k.walk.fixed.now) k.walk.op) (ahead (world_of (view t) h) (operators k.walk.fixed.now) k.walk.op z.at) (number (world_of (view t) h) (operators k.walk.fixed.now) k.walk.op z.at) (First' q y w)) (sym e)
          (subst (λ (w : Growing). Finds (world_of (view t) h) (world_of (view u) w) (operators k.walk.fixed.now) k.walk.op (shape_at (operators k.walk.fixed.now) k.walk.op) (ahead (world_of (view t) h) (operators k.walk.fixed.now) k.walk.op z.at) (number (world_of (view t) h) (operators k.walk.fixed.now) k.walk.op z.at) (First' q y (suc (count_of z.at)))) (sym up.rest)
          (subst (λ (w : Shape). Finds (world_of (view t) h) (world_of (view u) noted) (operators k.walk.fixed.now) k.walk.op w (stands (world_of (view t) h) (operators k.walk.fixed.now) k.walk.op w z.at).ahead (weighs (world_of (view t) h) (operators k.walk.fixed.now) k.walk.op w z.at) (First' q y (suc (count_of z.at)))) (sym is.1)
          (firsts_at (operators k.walk.fixed.now) k.walk.op k.input k.keys.now is.0 is.2 is.3 z.way.can.fixed.typed z.way.can.op is.1 (world_of (view t) h) z.at (in_shape z.way.can (passes_on k.input (first_by_keys k.keys.now is.0)) is.1) (world_of (view u) j) z.way.can.bench asked y came_to ran.bench
          up.key (up.parts (view u) ran.bench f.cursor) (up.value (view u) ran.bench f.cursor) ones l.seen.items up.grows up.pushed new more q)))

      -- a binding whose key was seen is passed
      pub first_passed : was_seen up.key (take (count_of z.at) (slice_index_or j.seen.items k.walk.op [])) ≡ true → (q : _)
          → Moves (world_of (view t) h) (world_of (view u) l) (operators k.walk.fixed.now) k.walk.op (shape_at (operators k.walk.fixed.now) k.walk.op) (ahead (world_of (view t) h) (operators k.walk.fixed.now) k.walk.op z.at) (number (world_of (view t) h) (operators k.walk.fixed.now) k.walk.op z.at) (Seen' q y (count_of z.at))
      first_passed old q =
          subst (λ (w : Growing). Moves (world_of (view t) h) (world_of (view u) w) (operators k.walk.fixed.now) k.walk.op (shape_at (operators k.walk.fixed.now) k.walk.op) (ahead (world_of (view t) h) (operators k.walk.fixed.now) k.walk.op z.at) (number (world_of (view t) h) (operators k.walk.fixed.now) k.walk.op z.at) (Seen' q y (count_of z.at))) (sym up.rest)
          (subst (λ (w : Shape). Moves (world_of (view t) h) (world_of (view u) noted) (operators k.walk.fixed.now) k.walk.op w (stands (world_of (view t) h) (operators k.walk.fixed.now) k.walk.op w z.at).ahead (weighs (world_of (view t) h) (operators k.walk.fixed.now) k.walk.op w z.at) (Seen' q y (count_of z.at))) (sym is.1)
          (firsts_on (operators k.walk.fixed.now) k.walk.op k.input k.keys.now is.0 is.2 is.3 z.way.can.fixed.typed z.way.can.op is.1 (world_of (view t) h) z.at (in_shape z.way.can (passes_on k.input (first_by_keys k.keys.now is.0)) is.1) (world_of (view u) j) z.way.can.bench asked y came_to ran.bench
          up.key (up.parts (view u) ran.bench f.cursor) (up.value (view u) ran.bench f.cursor) ones l.seen.items up.grows up.pushed old q))

  -- where memory was wanting, a walk of the input and a look at its binding's key are a walk of the operator all the same
  pub first_refused : {u : S} {j : Growing} (ran : Ran view came_from (operators k.walk.fixed.now) k.input (ahead (world_of (view t) h) (operators k.walk.fixed.now) k.input x) t h u j) (y : Position)
      (f : Finds (world_of (view t) h) (world_of (view u) j) (operators k.walk.fixed.now) k.input (shape_at (operators k.walk.fixed.now) k.input) (ahead (world_of (view t) h) (operators k.walk.fixed.now) k.input x) (number (world_of (view t) h) (operators k.walk.fixed.now) k.input x) y)
      (ones : SpotsAreOne) (l : Growing) → (l ≡ j) ⊎ Noted j l k y (count_of z.at)
      → Ran view came_from (operators k.walk.fixed.now) k.walk.op (ahead (world_of (view t) h) (operators k.walk.fixed.now) k.walk.op z.at) t h u l
  first_refused {u} ran y f ones l (inl same) =
      subst (λ (w : Growing). Ran view came_from (operators k.walk.fixed.now) k.walk.op (ahead (world_of (view t) h) (operators k.walk.fixed.now) k.walk.op z.at) t h u w) (sym same) (way_under is.1 z first_over ran)
  first_refused ran y f ones l (inr up) = first_left ran y f ones l up

  -- after a walk of the input, a look at the key of its binding; as many keys were seen up to where the walk of the operator stands as the look begins after
  module _ (after : (a b c : S) → came_from a b → came_from b c → came_from a c) {u : S} {j : Growing} (ran : Ran view came_from (operators k.walk.fixed.now) k.input (ahead (world_of (view t) h) (operators k.walk.fixed.now) k.input x) t h u j) (y : Position)
      (f : Finds (world_of (view t) h) (world_of (view u) j) (operators k.walk.fixed.now) k.input (shape_at (operators k.walk.fixed.now) k.input) (ahead (world_of (view t) h) (operators k.walk.fixed.now) k.input x) (number (world_of (view t) h) (operators k.walk.fixed.now) k.input x) y)
      (ones : SpotsAreOne) (l : Growing) (m : ℕ) (counted : count_of z.at ≡ m) where
    -- what was looked for, after the keys that were seen up to where the walk stands
    looked : (seen : Option ℕ) → IsSeenAt j l k y m seen → IsSeenAt j l k y (count_of z.at) seen
    looked seen h = subst (λ (i : ℕ). IsSeenAt j l k y i seen) (sym counted) h

    -- a look at a key leaves what a walk of the operator leaves, whatever it answers
    pub look_ran : (seen : Option ℕ) → IsSeenAt j l k y m seen → Ran view came_from (operators k.walk.fixed.now) k.walk.op (ahead (world_of (view s) g) (operators k.walk.fixed.now) k.walk.op c) s g u l
    look_ran seen h = way_ran after z.way (first_left ran y f ones l (looked seen h).0)

    -- a look at a key for which memory was wanting leaves what a walk of the operator leaves
    pub look_refused : (l ≡ j) ⊎ Noted j l k y m → Ran view came_from (operators k.walk.fixed.now) k.walk.op (ahead (world_of (view s) g) (operators k.walk.fixed.now) k.walk.op c) s g u l
    look_refused h = way_ran after z.way (first_refused ran y f ones l (subst (λ (i : ℕ). (l ≡ j) ⊎ Noted j l k y i) (sym counted) h))

    -- a binding of the input whose key is new ends the walk
    pub look_ends : (seen : ℕ) → IsSeenAt j l k y m (Some seen) → (r : Rc Position Global) (q : _) → r.value ≡ First' q y seen → Advanced view came_from k.walk.fixed.now k.walk.op c s g u l (Ok (Some r))
    look_ends seen is_new r q made =
        let now = looked (Some seen) is_new in record {
          ran = look_ran (Some seen) is_new;
          cause = tt;
          answer = comes_at z.way.goes.comes
              (subst (Finds (world_of (view t) h) (world_of (view u) l) (operators k.walk.fixed.now) k.walk.op (shape_at (operators k.walk.fixed.now) k.walk.op) (ahead (world_of (view t) h) (operators k.walk.fixed.now) k.walk.op z.at) (number (world_of (view t) h) (operators k.walk.fixed.now) k.walk.op z.at)) (sym made)
              (first_found ran y f ones l now.0 now.1.0 now.1.1 q seen (now.1.2 ∙ add-one (count_of z.at))));
        }

    -- after a look at the key of the input's binding fewer bindings of the input are ahead
    pub look_falls : (seen : Option ℕ) → IsSeenAt j l k y m seen → number (world_of (view u) l) (operators k.walk.fixed.now) k.input y < number (world_of (view t) h) (operators k.walk.fixed.now) k.input x
    look_falls seen h =
        let kept = first_kept ran y f ones l (looked seen h).0 in
        let stays = cursors_kept (world_of (view u) j) (world_of (view u) l) kept (operators k.walk.fixed.now) ran.bench k.input y f.cursor in
        omega (arith, f.falls, stays.number_is)
