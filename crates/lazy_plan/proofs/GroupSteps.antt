-- Groups whose members stand side by side: where one begins, and how it is walked.
use Rattle.std.proofs.Common.{◌≡◌, ◌⊎◌, inl, inr, ◌<◌, ◌≤◌, ◌-◌, ℕ, suc, Bool, true, false, List, [], ◌∷◌, Option, Some, None, length, map, take, get_or, refl, ◌∙◌, sym, ap, subst, arith}
use Rattle.std.specs.Prelude.{IsTrue, not, slice_index_or}
use Rattle.std.specs.List.{AllByRecursion, last_or}
use Rattle.std.specs.declared.alloc.Global.{Global}
use Rattle.std.specs.declared.rc.Rc.{Rc}
use Rattle.std.proofs.lemmas.Bool.{cases_eq}
use Rattle.std.proofs.lemmas.List.{get_or_default}
use Rattle.mix_base.proofs.Choices.{some_is}
use Rattle.mix_base.specs.Events.{nothing, finds, found, cost}
use Rattle.mix_tree.specs.Nodes.{Documents}
use Rattle.mix_tree.specs.declared.var.Key.{Key}
use Rattle.lxp_core.specs.View.{View}
use Rattle.tree_buffer.specs.Law.{SpotsAreOne}
use Rattle.plan_core.specs.declared.plan.Piece.{Piece}
use Rattle.plan_core.specs.declared.plan.Plan.{Plan}
use Rattle.plan_core.specs.Plans.{Operator, over}
use Rattle.plan_core.specs.PlanMade.{plan_value}
use Rattle.plan_core.specs.Unary.{group_by}
use Rattle.plan_core.specs.ByNumber.{op_at}
use Rattle.plan_core.specs.Shapes.{Shape, passes_on, first_by_keys, shape_of, shape_at}
use Rattle.plan_core.specs.Typed.{IsTyped}
use Rattle.plan_core.specs.Events.{RowEvents, passing}
use Rattle.plan_core.specs.TolledRows.{TolledRow, KeyValue, key_values, same_values}
use Rattle.plan_core.proofs.Found.{cost-passing_le, found-passing_none, found-passing_yes, found-run_no}
use Rattle.lazy_descend.specs.Searches as Searches
use Rattle.lazy_descend.specs.Searches.{FindsNone}
use Rattle.lazy_descend.proofs.Searches.{still_told}
use Rattle.lazy_binding.specs.declared.key.KeyPart.{KeyPart}
use Rattle.lazy_binding.specs.declared.parts.Growing.{Growing}
use Rattle.lazy_binding.specs.declared.position.Position.{Position, Start, First', Seen'}
use Rattle.std.proofs.Common.{Vec}
use Rattle.lazy_binding.specs.Gathered.{Gathered, no_groups}
use Rattle.lazy_binding.specs.declared.parts.Walked.{Walked}
use Rattle.lazy_binding.specs.declared.position.Reached.{Reached}
use Rattle.lazy_binding.specs.Bench.{IsBench}
use Rattle.lazy_binding.specs.World.{World, world, docs_of, is_told, seen_at, part_value, IsPart, IsFound}
use Rattle.plan_core.specs.Fronts.{op_stops, stops_over}
use Rattle.lazy_binding.specs.Cursors.{gathers_by, binding, ahead, number, size, has_row, up_to, IsIn, IsOf, HasSeen}
use Rattle.plan_forms.specs.Forms.{form, gathers_groups, input_of, input_at, keys_of}
use Rattle.lazy_binding.specs.Keeping.{Keeps, Stays}
use Rattle.lazy_binding.specs.Keys.{same_parts, was_seen}
use Rattle.lazy_binding.specs.Parts.{operators, world_of}
use Rattle.lazy_binding.specs.Reading.{below, count_of}
use Rattle.lazy_binding.specs.Unders.{part_in, part_at}
use Rattle.lazy_binding.proofs.Bound.{inputs_at}
use Rattle.lazy_binding.proofs.Buffers.{keys_stay, gathered_there}
use Rattle.lazy_binding.proofs.FoundMembers.{found_same}
use Rattle.lazy_binding.proofs.Keep.{docs_kept, told-kept, keeps_walked, keeps_then}
use Rattle.lazy_binding.proofs.Members.{same_members}
use Rattle.lazy_binding.proofs.SameKeys.{same_parts-is}
use Rattle.lazy_binding.proofs.Stay.{seen_kept, cursors_kept, size_kept}
use Rattle.lazy_plan.specs.declared.bench.Bench.{Bench}
use Rattle.lazy_plan.specs.Bench.{state_of, told_by, IsBenchOf, IsCursor, AsksAtMost}
use Rattle.lazy_plan.specs.Groups.{stops_at, group_ahead, IsGroup, members_of}
use Rattle.lazy_binding.specs.Growth.{IsReached}
use Rattle.lazy_steps.specs.Steps.{Asks, CanStep, Finds, Ran, telling}
use Rattle.lazy_steps.proofs.FirstSteps.{goes_past}
use Rattle.lazy_steps.proofs.Goes.{tells_on}
use Rattle.lazy_steps.proofs.SeenPlaces.{last_taken, each_one}

-- WHERE A GROUP BEGINS

-- an operator that gathers groups by keys keeps the first bindings by these, each with the list of its group
pub group_shape : (o : Operator) → form o ≡ gathers_groups → (group : Piece × ℕ) × (shape_of o ≡ passes_on (input_of o) (first_by_keys (keys_of o) (Some group)))
group_shape (over i (group_by [] piece out)) h = cc
group_shape (over i (group_by (k ∷ keys) piece out)) h = ((piece, out), refl)
group_shape o h = cc

-- the groups of a groupBy by keys end at the first other key, or with its input
pub group_stops : (ops : List Operator) (o : Operator) → form o ≡ gathers_groups → op_stops ops o ≡ stops_over ops (input_of o) (keys_of o)
group_stops ops (over i (group_by [] piece out)) h = cc
group_stops ops (over i (group_by (k ∷ keys) piece out)) h = refl
group_stops ops o h = cc

module _ (w : World) (ops : List Operator) (n i : ℕ) (keys : List Key) (group : Piece × ℕ) (is : shape_at ops n ≡ passes_on i (first_by_keys keys (Some group))) where
  -- the shape of the operator
  abbrev F : Shape
  F = passes_on i (first_by_keys keys (Some group))

  -- a position in that shape is one of the operator
  shaped : (c : Position) → IsIn w ops n F c → IsOf w ops n c
  shaped c h = subst (λ (z : Shape). IsIn w ops n z c) (sym is) h

  -- a position at a binding stands at the first member of a group
  begins_in : (c : Position) → IsIn w ops n F c → IsTrue (has_row c)
      → ((q : _) → IsOf w ops n (First' q (below c) (count_of c))) × (gathers_by ops F ≡ false → HasSeen w ops n (below c) (count_of c))
      × (number w ops i (below c) ≤ size w ops i) × (gathers_by ops F ≡ true → IsFound w n (count_of c) 0 (below c))
  begins_in Start h row = cc
  begins_in (First' q x k) h row = (
    λ u. shaped (First' u x k) h,
    λ no u. shaped (Seen' u x k) (h.0, h.1, h.2, h.3, h.4, h.7, λ t. record { found = ap found (sym (h.9 t)); costs = (let e = ap cost (h.9 t) in omega (arith, e)) }, h.10, no),
    (let l = h.7 in omega (arith, l)),
    h.11,
  )
  begins_in (Seen' q x k) h row = cc
  begins_in c h row = absurd h

-- at a cursor of a groupBy by keys a group begins, at the member below
pub group_begins : (w : World) (p : Plan) (n : ℕ) (c d : Position) (m : ℕ) → form (op_at (plan_value p).ops n) ≡ gathers_groups → IsCursor (record { world = w; plan = p }) n c
    → d ≡ part_at (plan_value p).ops n c (input_at (plan_value p).ops n) → m ≡ count_of c
    → IsGroup (record { world = w; plan = p }) n m d d 0
group_begins w p n c d m f k e g =
    let sh = group_shape (op_at (plan_value p).ops n) f in
    let b = begins_in w (plan_value p).ops n (input_at (plan_value p).ops n) (keys_of (op_at (plan_value p).ops n)) sh.0 sh.1 c
    (subst (λ (z : Shape). IsIn w (plan_value p).ops n z c) sh.1 k.of) k.row in
    subst (λ (x : Position). IsGroup (record { world = w; plan = p }) n m x x 0) (sym (e ∙ ap (λ (z : Shape). part_in z c (input_at (plan_value p).ops n)) sh.1))
    (subst (λ (x : ℕ). IsGroup (record { world = w; plan = p }) n x (below c) (below c) 0) (sym g) (record {
      begins = b.0;
      member = λ s. b.1 (ap not (sym (group_stops (plan_value p).ops (op_at (plan_value p).ops n) f) ∙ s));
      few = (let l = b.2 in omega (arith, l));
      placed = λ s. b.3 (ap not (sym (group_stops (plan_value p).ops (op_at (plan_value p).ops n) f) ∙ s));
    }))

-- HOW FAR A GROUP WAS WALKED

-- where no members were gathered, a group that was walked on leaves what every call keeps
keeps_reached : (b : World) (walked : Walked) → walked.gathered ≡ b.walked.gathered → Keeps b (world b.view b.buffers b.seen b.memos walked)
keeps_reached b walked same = keeps_walked b walked (found_same b b.seen walked (λ n. ap (λ (z : Vec Gathered Global). slice_index_or z.items n no_groups) same))

-- a bench stays sound where it notes that a group was walked on
pub reached_bench : (b : World) (ops : List Operator) → IsBench b ops → (walked : Walked) (n : ℕ) (to : Reached) → IsReached b.walked walked n to → HasSeen b ops n to.below.value to.seen
    → IsBench (world b.view b.buffers b.seen b.memos walked) ops
reached_bench b ops late walked n to r seen = record {
  roots = late.roots;
  few = late.few;
  sources = late.sources;
  enough = late.enough;
  lists = late.lists;
  memos = late.memos;
  parts = λ j. keys_stay keeps (seen_at b j) (late.parts j);
  seen = late.seen;
  members = same_members keeps ops late refl;
  marks = r.lists ∙ late.marks;
  reached = λ j x e q. reached_at_one j x e q (cases_eq j n);
  walks = ap (λ (z : Vec Gathered Global). length z.items) r.gathered ∙ late.walks;
  gathered = λ j i keys group is by.
      gathered_there keeps ops late j i keys group is by refl (ap (λ (z : Vec Gathered Global). slice_index_or z.items j no_groups) r.gathered);
}
  where
    here : World
    here = world b.view b.buffers b.seen b.memos walked

    keeps : Keeps b here
    keeps = keeps_reached b walked r.gathered

    reached_at_one : (j : ℕ) (x : Reached) → slice_index_or walked.reached.items j None ≡ Some x → (q : _) → (j ≡ n) ⊎ (j ≡ n → ⊥) → IsOf here ops j (Seen' q x.below.value x.seen)
    reached_at_one j x e q (inl z) =
        let same : to ≡ x = some_is to x (sym r.here ∙ ap (λ (m : ℕ). slice_index_or walked.reached.items m None) (sym z) ∙ e) in
        subst (λ (m : ℕ). IsOf here ops m (Seen' q x.below.value x.seen)) (sym z)
        (subst (λ (y : Reached). IsOf here ops n (Seen' q y.below.value y.seen)) same (cursors_kept b here keeps ops late n (Seen' q to.below.value to.seen) (seen q)).cursor)
    reached_at_one j x e q (inr ne) =
        (cursors_kept b here keeps ops late j (Seen' q x.below.value x.seen) (late.reached j x (sym (r.others j ne) ∙ e) q)).cursor

-- a call after which it is noted that a group was walked on leaves what a call leaves
pub ran_reached : {S : Type 0} {view : S → View} {came_from : S → S → Type 0} {ops : List Operator} {n : ℕ} {es : RowEvents} {s t : S} {g h : Growing} (walked : Walked)
    → walked.gathered ≡ h.walked.gathered → IsBench (world (view t) h.buffers.items h.seen.items h.memos.items walked) ops
    → Ran view came_from ops n es s g t h → Ran view came_from ops n es s g t (record { buffers = h.buffers; seen = h.seen; memos = h.memos; walked = walked })
ran_reached {view} {t} {h} walked same bench ran = record {
  came = ran.came;
  bench = bench;
  asks = record {
    kept = keeps_then ran.asks.kept (keeps_reached (world_of (view t) h) walked same);
    above = λ j l. (let x = ran.asks.above j l in (x.0, x.1, ap (λ (z : Vec Gathered Global). slice_index_or z.items j no_groups) same ∙ x.2));
    lazy = ran.asks.lazy;
    none = ran.asks.none;
  };
}

-- THE NEXT MEMBER

-- the keys that an operator has seen, as they are read, are those of the world
pub seen_read : (v : View) (g : Growing) (ops : List Operator) → IsBench (world_of v g) ops → (n : ℕ) → n < length ops → (keys : List (List KeyPart)) → keys ≡ get_or g.seen.items n keys
    → keys ≡ seen_at (world_of v g) n
seen_read v g ops bench n within keys e = e ∙ get_or_default g.seen.items n keys [] (let l = bench.lists in omega (arith, l, within))

-- from a member of a group the walk of the input may go on
pub group_can : {place : ℕ} (v : View) (b : Bench) (op m : ℕ) (first at : Position) (q : Rc (Unit {0}) Global) → IsBenchOf v b → op < length (operators b.fixed) → form (op_at (operators b.fixed) op) ≡ gathers_groups
    → IsTrue (stops_at (operators b.fixed) op) → IsGroup (state_of v b) op m first at place → CanStep v b.growing b.fixed (input_at (operators b.fixed) op) at
group_can {place} v b op m first at q bench within is stops g =
    let sh = group_shape (op_at (operators b.fixed) op) is in
    let less = (inputs_at (operators b.fixed) bench.fixed.typed op within (passes_on (input_at (operators b.fixed) op) (first_by_keys (keys_of (op_at (operators b.fixed) op)) (Some sh.0))) sh.1).0 in
    record {
      fixed = bench.fixed;
      op = omega (arith, less, within);
      bench = bench.bench;
      cursor = (subst (λ (z : Shape). IsIn (world_of v b.growing) (operators b.fixed) op z (Seen' q at m)) sh.1 (g.member stops q)).0;
    }

module _ {place : ℕ} (a b : World) (p : Plan) (op m : ℕ) (first at : Position) (q : Rc (Unit {0}) Global) (typed : IsTyped (plan_value p).ops) (within : op < length (plan_value p).ops)
    (is : form (op_at (plan_value p).ops op) ≡ gathers_groups) (stops : IsTrue (stops_at (plan_value p).ops op)) (bench : IsBench a (plan_value p).ops)
    (g : IsGroup (record { world = a; plan = p }) op m first at place) (k : Asks a b (plan_value p).ops (input_at (plan_value p).ops op) (ahead a (plan_value p).ops (input_at (plan_value p).ops op) at))
    (late : IsBench b (plan_value p).ops) where
  -- the operators of the plan of a bench
  abbrev ops : List Operator
  ops = (plan_value p).ops

  -- the input of the groupBy
  abbrev i : ℕ
  i = input_at ops op

  -- the keys of the groupBy
  abbrev keys : List Key
  keys = keys_of (op_at ops op)

  -- what the groupBy makes of a group
  abbrev made : Option (Piece × ℕ)
  made = Some (group_shape (op_at ops op) is).0

  -- the shape of the operator
  at_shape : shape_at ops op ≡ passes_on i (first_by_keys keys made)
  at_shape = (group_shape (op_at ops op) is).1

  -- the group begins at its first member
  begun : IsIn a ops op (passes_on i (first_by_keys keys made)) (First' q first m)
  begun = subst (λ (z : Shape). IsIn a ops op z (First' q first m)) at_shape (g.begins q)

  -- the members of a group that ends at the first other key are not gathered
  walked_on : gathers_by ops (passes_on i (first_by_keys keys made)) ≡ false
  walked_on = ap not (sym (group_stops ops (op_at ops op) is) ∙ stops)

  -- the group was walked to one of its members
  member : IsIn a ops op (passes_on i (first_by_keys keys made)) (Seen' q at m)
  member = subst (λ (z : Shape). IsIn a ops op z (Seen' q at m)) at_shape (g.member stops q)

  -- the key of the group is among those that were seen
  pub few_seen : m - 1 < length (seen_at b op)
  few_seen =
      let some = begun.6 in
      let few = begun.2 in
      let longer = k.kept.longer op in
      omega (arith, some, few, longer)

  -- whether a binding is of the group
  abbrev of_group : Documents → TolledRow → TolledRow → Bool
  of_group docs r row = same_values (key_values docs keys r) (key_values docs keys row)

  -- where the input has no further binding, the group has no further member
  pub no_member : FindsNone (telling a ops) (ahead a ops i at) → IsTrue (is_told a ops) → found (group_ahead (record { world = a; plan = p }) op first at) ≡ nothing
  no_member h t = found-passing_none (stops_at ops op) (of_group (docs_of a) (binding a ops i first)) (ahead a ops i at) (h t)

  -- what a call for the next member asks is within the cost of the group's events
  pub member_lazy : AsksAtMost (record { world = a; plan = p }) (record { world = b; plan = p }) (cost (group_ahead (record { world = a; plan = p }) op first at))
  member_lazy t w =
      let asked = k.lazy t w in
      let l = cost-passing_le (stops_at ops op) (of_group (docs_of a) (binding a ops i first)) (ahead a ops i at) in
      omega (arith, asked, l)

  module _ (d : Position) (f : Finds a b ops i (shape_at ops i) (ahead a ops i at) (number a ops i at) d) (key : List KeyPart) (parts : AllByRecursion (IsPart b) key)
      (val : IsTrue (is_told b ops) → map (part_value b) key ≡ key_values (docs_of b) keys (binding b ops i d)) (ones : SpotsAreOne) where
    -- the key that was seen last is that of the group
    last_key : IsTrue (is_told b ops) → map (part_value b) (slice_index_or (seen_at b op) (m - 1) []) ≡ key_values (docs_of a) keys (binding a ops i first)
    last_key t =
        let some = begun.6 in
        let few = begun.2 in
        let one : suc (m - 1) ≡ m = omega (arith, some) in
        some_is _ _ (
        sym (last_taken (map (part_value b)) (seen_at b op) (m - 1) [] (let l = few_seen in omega (arith, l)))
        ∙ ap (λ (z : ℕ). last_or None (up_to b op z)) one
        ∙ ap (last_or None) (seen_kept a b k.kept ops bench op m few)
        ∙ begun.8 (subst IsTrue (told-kept k.kept ops) t))

    -- the key of the binding is compared with it
    compares : IsTrue (is_told b ops) → same_parts (slice_index_or (seen_at b op) (m - 1) []) key ≡ of_group (docs_of a) (binding a ops i first) (binding b ops i d)
    compares t =
        same_parts-is ones b (slice_index_or (seen_at b op) (m - 1) []) key (each_one (AllByRecursion (IsPart b)) (seen_at b op) (m - 1) [] few_seen (late.parts op)) parts
        ∙ ap (λ (z : List KeyValue). same_values z (map (part_value b) key)) (last_key t)
        ∙ ap (same_values (key_values (docs_of a) keys (binding a ops i first))) (val t ∙ ap (λ (z : Documents). key_values z keys (binding b ops i d)) (docs_kept k.kept ops bench))

    -- what is compared where the sources were told before the call
    tests : (w : Bool) → same_parts (slice_index_or (seen_at b op) (m - 1) []) key ≡ w → IsTrue (is_told a ops) → of_group (docs_of a) (binding a ops i first) (binding b ops i d) ≡ w
    tests w e t = sym (compares (still_told (tells_on k.kept ops) t)) ∙ e

    -- a binding with another key ends the group
    pub member_other : same_parts (slice_index_or (seen_at b op) (m - 1) []) key ≡ false → IsTrue (is_told a ops) → found (group_ahead (record { world = a; plan = p }) op first at) ≡ nothing
    member_other e t =
        ap (λ (w : Bool). found (passing w (of_group (docs_of a) (binding a ops i first)) (ahead a ops i at))) stops
        ∙ found-run_no (of_group (docs_of a) (binding a ops i first)) (ahead a ops i at) (binding b ops i d) (ahead b ops i d) (f.found t) (tests false e t)

    module _ (seen : was_seen key (take (suc (m - 1)) (seen_at b op)) ≡ true) where
      -- the operator may stand there
      pub member_seen : HasSeen b ops op d m
      member_seen u =
          let some = begun.6 in
          let one : suc (m - 1) ≡ m = omega (arith, some) in
          subst (λ (z : Shape). IsIn b ops op z (Seen' u d m)) (sym at_shape)
          (goes_past ops op i keys made refl walked_on typed within at_shape a (Seen' q at m) member b bench k d f late key parts val ones
          (ap (λ (z : ℕ). was_seen key (take z (seen_at b op))) (sym one) ∙ seen) u).cursor

      -- the next binding of the input is the next member of the group where its keys are those of the group
      pub member_found : (walked : Walked) → walked.gathered ≡ b.walked.gathered → same_parts (slice_index_or (seen_at b op) (m - 1) []) key ≡ true
          → Searches.Finds (told_by (record { world = a; plan = p })) (members_of (record { world = world b.view b.buffers b.seen b.memos walked; plan = p }) op m first (suc place))
          (group_ahead (record { world = a; plan = p }) op first at) (size a ops i - place) d
      member_found walked same e = record {
        cursor = (
          record { of = stay.cursor; row = f.row },
          record {
            begins = λ u. (cursors_kept a here all_keeps ops bench op (First' u first m) (g.begins u)).cursor;
            member = λ s u. (cursors_kept b here keeps ops late op (Seen' u d m) (member_seen u)).cursor;
            few = (let x = f.falls in let y = stay.number_is in let z = g.few in let s = same_size in omega (arith, x, y, z, s));
            placed = λ s. (let x : true ≡ false = sym stops ∙ s in cc);
          },
        );
        row = tt;
        falls = (let x = f.falls in let z = g.few in let s = same_size in omega (arith, x, z, s));
        found = λ t.
            found-passing_yes (stops_at ops op) (of_group (docs_of a) (binding a ops i first)) (ahead a ops i at) (binding b ops i d) (ahead b ops i d) (f.found t) (tests true e t)
            ∙ ap (λ (z : TolledRow). finds z (events_left (docs_of a) (binding a ops i first) (ahead b ops i d))) (sym stay.binding_is)
            ∙ ap (λ (z : RowEvents). finds (binding here ops i d) (events_left (docs_of a) (binding a ops i first) z)) (sym stay.ahead_is)
            ∙ ap (λ (z : TolledRow). finds (binding here ops i d) (events_left (docs_of a) z (ahead here ops i d))) (sym same_first)
            ∙ ap (λ (z : Documents). finds (binding here ops i d) (events_left z (binding here ops i first) (ahead here ops i d))) (sym (docs_kept k.kept ops bench));
      }
        where
          here : World
          here = world b.view b.buffers b.seen b.memos walked

          keeps : Keeps b here
          keeps = keeps_reached b walked same

          all_keeps : Keeps a here
          all_keeps = keeps_then k.kept keeps

          stay : Stays b here ops i d
          stay = cursors_kept b here keeps ops late i d f.cursor

          events_left : Documents → TolledRow → RowEvents → RowEvents
          events_left docs r es = passing (stops_at ops op) (of_group docs r) es

          same_first : binding here ops i first ≡ binding a ops i first
          same_first = (cursors_kept a here all_keeps ops bench i first begun.0).binding_is

          same_size : size here ops i ≡ size a ops i
          same_size = size_kept a here all_keeps ops bench i
