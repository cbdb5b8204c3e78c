-- The members of a group stay, and come one by one as the input is walked.
use Rattle.std.proofs.Common.{◌≡◌, ◌<◌, ◌+◌, ℕ, zero, suc, Bool, true, false, List, [], ◌∷◌, ◌++◌, Option, length, drop, refl, ◌∙◌, sym, ap, subst, arith}
use Rattle.std.specs.Prelude.{IsTrue, slice_index_or}
use Rattle.std.specs.declared.alloc.Global.{Global}
use Rattle.std.specs.declared.rc.Rc.{Rc}
use Rattle.mix_base.proofs.Choices.{some_is}
use Rattle.mix_base.specs.Events.{nothing, finds, found, cost}
use Rattle.mix_tree.specs.Nodes.{Documents}
use Rattle.mix_tree.specs.declared.var.Key.{Key}
use Rattle.plan_core.specs.Plans.{Operator}
use Rattle.plan_core.specs.declared.plan.Piece.{Piece}
use Rattle.plan_core.specs.Fronts.{stops_over}
use Rattle.plan_core.specs.Shapes.{first_by_keys, passes_on}
use Rattle.plan_core.specs.Events.{RowEvents, same_group, events, distinct, keys_seen, kept_row}
use Rattle.plan_core.specs.TolledRows.{TolledRow, KeyValue, key_values, same_values}
use Rattle.plan_core.proofs.Found.{found-only_none, found-only_yes, found-only_no, cost-only_no}
use Rattle.lazy_binding.specs.declared.position.Position.{Position, First', Seen'}
use Rattle.lazy_binding.specs.Bench.{IsBench}
use Rattle.lazy_binding.specs.World.{World, docs_of, is_told, seen_at}
use Rattle.lazy_binding.specs.Cursors.{binding, ahead, number, up_to, has_row, IsIn, IsOf, IsPast, past_first}
use Rattle.lazy_binding.specs.Gathered.{Gathered, at_place}
use Rattle.lazy_binding.specs.Gathering.{IsNextMember, AreInGroup, IsPassed, HasGroup, AreGathered}
use Rattle.lazy_binding.specs.Keeping.{Keeps, Stays}
use Rattle.lazy_binding.proofs.Keep.{docs_kept, told-kept}
use Rattle.lazy_binding.proofs.Stay.{cursors_kept, size_kept, seen_kept}
use Rattle.lazy_binding.proofs.FirstMembers.{none_before_kept}

module _ (a b : World) (ops : List Operator) (bench : IsBench a ops) (k : Keeps a b) (i : ℕ) (keys : List Key) (row : TolledRow) where
  -- the events of a group among these events, by the earlier documents
  abbrev in_group : RowEvents → RowEvents
  in_group es = same_group (docs_of a) keys row es

  -- whether a binding is of a group, by the earlier documents
  abbrev of_group : TolledRow → Bool
  of_group r = same_values (key_values (docs_of a) keys row) (key_values (docs_of a) keys r)

  -- the events of a group among these are the same by the earlier and by the later documents
  same_docs : (es : RowEvents) → same_group (docs_of b) keys row es ≡ in_group es
  same_docs es = ap (λ (z : Documents). same_group z keys row es) (docs_kept k ops bench)

  -- the events of a group after an earlier position are the same by the later world
  same_after : (c : Position) → IsOf a ops i c → same_group (docs_of b) keys row (ahead b ops i c) ≡ in_group (ahead a ops i c)
  same_after c h = same_docs (ahead b ops i c) ∙ ap in_group (cursors_kept a b k ops bench i c h).ahead_is

  -- sources that are told in the later world were told in the earlier one
  was_told : IsTrue (is_told b ops) → IsTrue (is_told a ops)
  was_told t = subst IsTrue (told-kept k ops) t

  -- a next member of a group is one after every call
  member_kept : (at : Position) (n : ℕ) (m : Position) → IsOf a ops i at → IsNextMember a ops i keys row at n m → IsNextMember b ops i keys row at n m
  member_kept at n m of h = record {
    cursor = here.cursor;
    stands = h.stands;
    few = (let l = here.number_is in let s = size_kept a b k ops bench i in let f = h.few in omega (arith, l, s, f));
    found = λ t.
        ap found (same_after at of) ∙ h.found (was_told t) ∙ ap (λ (z : TolledRow). finds z (in_group (ahead a ops i m))) (sym here.binding_is)
        ∙ ap (finds (binding b ops i m)) (sym (same_after m h.cursor));
  }
    where
      here : Stays a b ops i m
      here = cursors_kept a b k ops bench i m h.cursor

  -- the members that were found stay, wherever the walk is
  pub group_kept : (last at : Position) (n : ℕ) (ms : List (Rc Position Global)) → IsOf a ops i last → IsOf a ops i at → AreInGroup a ops i keys row last at n ms
      → AreInGroup b ops i keys row last at n ms
  group_kept last at n [] l of h = (
    (let x = (cursors_kept a b k ops bench i last l).number_is in let s = size_kept a b k ops bench i in let f = h.0 in omega (arith, x, s, f)),
    λ t. (
        let p = h.1 (was_told t) in
        let x = ap cost (same_after at of) in
        let y = ap cost (same_after last l) in
        record {
          found = ap found (same_after at of) ∙ p.found ∙ sym (ap found (same_after last l));
          costs = (let z = p.costs in omega (arith, x, y, z));
        }),
  )
  group_kept last at n (m ∷ ms) l of h = (member_kept at n m.value of h.0, group_kept last m.value (suc n) ms l h.0.cursor h.1)

  module _ (last d : Position) (l : IsOf a ops i last) (cursor : IsOf b ops i d) (stands : IsTrue (has_row d)) (falls : number b ops i d < number a ops i last)
      (there : IsTrue (is_told a ops) → found (ahead a ops i last) ≡ finds (binding b ops i d) (ahead b ops i d)) where
    -- where the walk goes on to a binding of another group, this one has the members that it had
    pub group_passed : (IsTrue (is_told a ops) → of_group (binding b ops i d) ≡ false) → (at : Position) (n : ℕ) (ms : List (Rc Position Global)) → IsOf a ops i at
        → AreInGroup a ops i keys row last at n ms → AreInGroup b ops i keys row d at n ms
    group_passed other at n [] of h = (
      (let s = size_kept a b k ops bench i in let f = h.0 in omega (arith, falls, s, f)),
      λ t. (
          let p = h.1 (was_told t) in
          let e = there (was_told t) in
          let no = other (was_told t) in
          let x = ap cost (same_after at of) in
          let y = ap cost (same_docs (ahead b ops i d)) in
          let z = cost-only_no of_group (ahead a ops i last) (binding b ops i d) (ahead b ops i d) e no in
          record {
            found = ap found (same_after at of) ∙ p.found ∙ found-only_no of_group (ahead a ops i last) (binding b ops i d) (ahead b ops i d) e no
                ∙ sym (ap found (same_docs (ahead b ops i d)));
            costs = (let u = p.costs in omega (arith, x, y, z, u));
          }),
    )
    group_passed other at n (m ∷ ms) of h = (member_kept at n m.value of h.0, group_passed other m.value (suc n) ms h.0.cursor h.1)

    -- where the walk goes on to a binding of this group, that is one more of its members
    pub group_pushed : (IsTrue (is_told a ops) → of_group (binding b ops i d) ≡ true) → (at : Position) (n : ℕ) (ms : List (Rc Position Global)) (r : Rc Position Global) → r.value ≡ d
        → IsOf a ops i at → AreInGroup a ops i keys row last at n ms → AreInGroup b ops i keys row d at n (ms ++ r ∷ [])
    group_pushed same at n [] r is of h = (
      subst (IsNextMember b ops i keys row at n) (sym is) (record {
        cursor = cursor;
        stands = stands;
        few = (let s = size_kept a b k ops bench i in let f = h.0 in omega (arith, falls, s, f));
        found = λ t.
            ap found (same_after at of) ∙ (h.1 (was_told t)).found
            ∙ found-only_yes of_group (ahead a ops i last) (binding b ops i d) (ahead b ops i d) (there (was_told t)) (same (was_told t))
            ∙ ap (finds (binding b ops i d)) (sym (same_docs (ahead b ops i d)));
      }),
      subst (λ (z : Position). AreInGroup b ops i keys row d z (suc n) []) (sym is) (
        (let s = size_kept a b k ops bench i in let f = h.0 in omega (arith, falls, s, f)),
        λ t. record { found = refl; costs = omega arith },
      ),
    )
    group_pushed same at n (m ∷ ms) r is of h = (member_kept at n m.value of h.0, group_pushed same m.value (suc n) ms r is h.0.cursor h.1)

module _ (a b : World) (ops : List Operator) (bench : IsBench a ops) (k : Keeps a b) (n i : ℕ) (keys : List Key) (group : Option (Piece × ℕ)) where
  -- the operator's bindings that are made after some events, where these keys were seen
  abbrev made_after : Documents → List (List KeyValue) → RowEvents → RowEvents
  made_after docs seen es = distinct docs keys (kept_row docs keys (stops_over ops i keys) group) seen es

  -- a binding that was walked to stays one
  pub passed_kept : (c : Position) (m : ℕ) → IsPassed a ops n i keys group c m → IsPassed b ops n i keys group c m
  passed_kept c m h = record {
    cursor = here.cursor;
    few = (let l = here.number_is in let s = size_kept a b k ops bench i in let f = h.few in omega (arith, l, s, f));
    within = (let l = k.longer n in let j = h.within in omega (arith, l, j));
    seen = λ t.
        ap (λ (z : Documents). keys_seen z keys (up_to b n m) (ahead b ops i c)) docs
        ∙ ap (λ (z : List (List KeyValue)). keys_seen (docs_of a) keys z (ahead b ops i c)) seen
        ∙ ap (keys_seen (docs_of a) keys (up_to a n m)) here.ahead_is
        ∙ h.seen (told t)
        ∙ ap (λ (z : Documents). drop m (keys_seen z keys [] (events z ops i))) (sym docs);
    before = λ t. none_before_kept ops i keys docs seen here.ahead_is (h.before (told t));
    past = λ t. (
        let p = h.past (told t) in
        let x = ap (λ (z : Documents). past_first m (events z ops n)) docs in
        let y : made_after (docs_of b) (up_to b n m) (ahead b ops i c) ≡ made_after (docs_of a) (up_to a n m) (ahead a ops i c) =
        ap (λ (z : Documents). made_after z (up_to b n m) (ahead b ops i c)) docs
        ∙ ap (λ (z : List (List KeyValue)). made_after (docs_of a) z (ahead b ops i c)) seen
        ∙ ap (made_after (docs_of a) (up_to a n m)) here.ahead_is in
        let u = ap cost x in
        let v = ap cost y in
        record {
          found = ap found x ∙ p.found ∙ sym (ap found y);
          costs = (let z = p.costs in omega (arith, u, v, z));
        });
  }
    where
      here : Stays a b ops i c
      here = cursors_kept a b k ops bench i c h.cursor

      docs : docs_of b ≡ docs_of a
      docs = docs_kept k ops bench

      seen : up_to b n m ≡ up_to a n m
      seen = seen_kept a b k ops bench n m h.within

      told : IsTrue (is_told b ops) → IsTrue (is_told a ops)
      told t = subst IsTrue (told-kept k ops) t

  -- a group keeps its members
  pub has_group_kept : (last : Position) (m : ℕ) (ms : List (Rc Position Global)) → IsOf a ops i last → HasGroup a ops n i keys last m ms → HasGroup b ops n i keys last m ms
  has_group_kept last m [] l h = h
  has_group_kept last m (r ∷ ms) l h = (
    λ q. (first q).cursor,
    λ q t.
        ap (λ (z : Documents). found (past_first m (events z ops n))) (docs_kept k ops bench) ∙ h.1 q (subst IsTrue (told-kept k ops) t)
        ∙ ap (λ (z : TolledRow). finds z (ahead a ops n (First' q r.value (suc m)))) (sym (first q).binding_is)
        ∙ ap (finds (binding b ops n (First' q r.value (suc m)))) (sym (first q).ahead_is),
    here.cursor,
    subst (λ (z : TolledRow). AreInGroup b ops i keys z last r.value 1 ms) (sym here.binding_is)
        (group_kept a b ops bench k i keys (binding a ops i r.value) last r.value 1 ms l h.2 h.3),
  )
    where
      here : Stays a b ops i r.value
      here = cursors_kept a b k ops bench i r.value h.2

      first : (q : Rc (Unit {0}) Global) → Stays a b ops n (First' q r.value (suc m))
      first q = cursors_kept a b k ops bench n (First' q r.value (suc m)) (h.0 q)

  -- what was gathered stays so, where the operator saw no more keys
  pub gathered_kept : length (seen_at b n) ≡ length (seen_at a n) → (g : Gathered) → AreGathered a ops n i keys group g → AreGathered b ops n i keys group g
  gathered_kept same g h = record {
    count = h.count ∙ sym same;
    walked = passed_kept g.last (length g.groups) h.walked;
    groups = λ m l. has_group_kept g.last m (slice_index_or g.groups m []) h.walked.cursor (h.groups m l);
    all = λ e t. ap found (cursors_kept a b k ops bench i g.last h.walked.cursor).ahead_is ∙ h.all e (subst IsTrue (told-kept k ops) t);
  }

-- WHAT A LOOK-UP GIVES

module _ (w : World) (ops : List Operator) (i : ℕ) (keys : List Key) (row : TolledRow) (last : Position) where
  -- after the member at a place of a group stands the one at the next place
  pub next_at : (at : Position) (k : ℕ) (ms : List (Rc Position Global)) (p j : ℕ) → p < length ms → j ≡ k + p → AreInGroup w ops i keys row last at k ms
      → IsNextMember w ops i keys row (at_place at ms p) j (at_place at ms (suc p))
  next_at at k [] p j l e h = absurd (omega (arith, l))
  next_at at k (m ∷ ms) zero j l e h = (let z : k ≡ j = omega (arith, e) in subst (λ (x : ℕ). IsNextMember w ops i keys row at x m.value) z h.0)
  next_at at k (m ∷ ms) (suc p) j l e h = next_at m.value (suc k) ms p j (omega (arith, l)) (omega (arith, e)) h.1

  -- the next binding of a group after its last found member is the next after the walk's binding, at no greater cost
  pub last_past : (at : Position) (k : ℕ) (ms : List (Rc Position Global)) → AreInGroup w ops i keys row last at k ms → IsTrue (is_told w ops)
      → IsPast (same_group (docs_of w) keys row (ahead w ops i (at_place at ms (length ms)))) (same_group (docs_of w) keys row (ahead w ops i last))
  last_past at k [] h t = h.1 t
  last_past at k (m ∷ ms) h t = last_past m.value (suc k) ms h.1 t

  -- where the walk has ended, no binding of the group comes after its last found member
  pub last_none : (at : Position) (k : ℕ) (ms : List (Rc Position Global)) → AreInGroup w ops i keys row last at k ms → IsTrue (is_told w ops) → found (ahead w ops i last) ≡ nothing
      → found (same_group (docs_of w) keys row (ahead w ops i (at_place at ms (length ms)))) ≡ nothing
  last_none at k ms h t none =
      (last_past at k ms h t).found ∙ found-only_none (λ r. same_values (key_values (docs_of w) keys row) (key_values (docs_of w) keys r)) (ahead w ops i last) none

-- WHERE THE WALK STANDS

-- a binding whose keys were seen is one up to which the walk may have come
pub passed_there : (w : World) (ops : List Operator) (n i : ℕ) (keys : List Key) (group : Option (Piece × ℕ)) (c : Position) (k : ℕ) (q : Rc (Unit {0}) Global)
    → IsIn w ops n (passes_on i (first_by_keys keys group)) (Seen' q c k) → IsPassed w ops n i keys group c k
passed_there w ops n i keys group c k q h = record { cursor = h.0; few = h.5; within = h.2; seen = h.3; before = h.4; past = h.6 }

-- the first binding with its keys is one up to which a walk may have come
pub passed_first : (w : World) (ops : List Operator) (n i : ℕ) (keys : List Key) (group : Option (Piece × ℕ)) (c : Position) (k : ℕ) (q : Rc (Unit {0}) Global)
    → IsIn w ops n (passes_on i (first_by_keys keys group)) (First' q c k) → IsPassed w ops n i keys group c k
passed_first w ops n i keys group c k q h = record {
  cursor = h.0;
  few = h.7;
  within = h.2;
  seen = h.3;
  before = h.4;
  past = λ t. record { found = ap found (sym (h.9 t)); costs = (let e = ap cost (h.9 t) in omega (arith, e)) };
}

-- two positions at first bindings of one operator with as many keys seen have the same events of their group after them
pub firsts_agree : (w : World) (ops : List Operator) (n i : ℕ) (keys : List Key) (group : Option (Piece × ℕ)) (c d : Position) (k : ℕ) (q u : Rc (Unit {0}) Global)
    → IsIn w ops n (passes_on i (first_by_keys keys group)) (First' q c k) → IsIn w ops n (passes_on i (first_by_keys keys group)) (First' u d k) → IsTrue (is_told w ops)
    → key_values (docs_of w) keys (binding w ops i c) ≡ key_values (docs_of w) keys (binding w ops i d)
firsts_agree w ops n i keys group c d k q u h g t = some_is _ _ (sym (h.8 t) ∙ g.8 t)
