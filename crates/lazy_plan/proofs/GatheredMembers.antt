-- The members of a group whose members are gathered: the walk of its input goes on until the next one is there.
use Rattle.std.proofs.Common.{◌≡◌, ◌<◌, ◌≤◌, ◌+◌, ℕ, suc, Bool, true, false, List, [], ◌∷◌, Some, None, length, refl, ◌∙◌, sym, ap, arith}
use Rattle.std.specs.Prelude.{IsTrue}
use Rattle.mix_base.specs.Events.{skip, bind, nothing, finds, found, cost}
use Rattle.lazy_descend.specs.Searches.{FindsNone}
use Rattle.lazy_descend.proofs.Searches.{still_told, still_forward}
use Rattle.mix_tree.specs.Nodes.{Documents}
use Rattle.mix_tree.specs.declared.var.Key.{Key}
use Rattle.plan_core.specs.declared.plan.Piece.{Piece}
use Rattle.plan_core.specs.Plans.{Operator}
use Rattle.plan_core.specs.Shapes.{first_by_keys, shape_at, passes_on}
use Rattle.plan_core.specs.TolledRows.{TolledRow, key_values, same_values}
use Rattle.plan_core.specs.Events.{RowEvents, same_group}
use Rattle.plan_core.proofs.Found.{found-only_none, found-only_yes, cost-only_le, cost-only_no}
use Rattle.lazy_binding.specs.declared.position.Position.{Position}
use Rattle.lazy_binding.specs.Bench.{IsBench}
use Rattle.lazy_binding.specs.Cursors.{binding, ahead, gathers_by, IsOf}
use Rattle.lazy_binding.specs.Gathering.{AreGathered}
use Rattle.lazy_binding.specs.Keeping.{Keeps}
use Rattle.lazy_binding.specs.World.{World, docs_of, is_told, is_forward, gathered_at, member_at, IsFound}
use Rattle.lazy_binding.proofs.FoundMembers.{found_of, found_past}
use Rattle.lazy_binding.proofs.Keep.{docs_kept, keeps_same, keeps_then}
use Rattle.lazy_binding.proofs.Stay.{cursors_kept}
use Rattle.lazy_steps.specs.Gathers.{IsFurther, members_after}
use Rattle.lazy_steps.specs.Steps.{Asks, telling}
use Rattle.lazy_steps.proofs.Goes.{asks_nothing, tells_on, untouched_then}

-- there are fewer events after a binding than with it
fewer : (es : RowEvents) (r : TolledRow) (rest : RowEvents) → found es ≡ finds r rest → length rest < length es
fewer [] r rest e = cc
fewer (skip ∷ es) r rest e = (let l = fewer es r rest e in omega (arith, l))
fewer (bind b ∷ es) r rest e = (let same : es ≡ rest = cc in let l = ap length same in omega (arith, l))

-- the events after a binding are not those with it
not_again : (es : RowEvents) (r : TolledRow) → found es ≡ finds r es → ⊥
not_again es r e = (let l = fewer es r es e in omega (arith, l))

-- a walk for the member after one of a group has come so far: while it isn't there, what the walk of all groups has left costs no more than what was ahead
pub record ComesAfter (ops : List Operator) (n i : ℕ) (keys : List Key) (count place : ℕ) (first at : Position) (a b : World) : Type 0 where
  pub asks : Asks a b ops n (members_after a ops i keys first at)
  pub costs : member_at b n count (suc place) ≡ None → IsTrue (is_told a ops) → IsTrue (is_forward a ops)
      → b.view.fills + cost (members_after b ops i keys first (gathered_at b n).last) ≤ a.view.fills + cost (members_after a ops i keys first at)

module _ (ops : List Operator) (n i : ℕ) (keys : List Key) (made : Piece × ℕ) (is : shape_at ops n ≡ passes_on i (first_by_keys keys (Some made)))
    (by : gathers_by ops (passes_on i (first_by_keys keys (Some made))) ≡ true) (a : World) (bench : IsBench a ops) (count place : ℕ) (first at : Position)
    (begun : IsFound a n count 0 first) (here : IsFound a n count place at) where
  -- the events of the group that are ahead of the member
  abbrev whole : RowEvents
  whole = members_after a ops i keys first at

  -- the events of a group that the walk over the input has left, in a later world
  abbrev left : World → RowEvents
  left w = members_after w ops i keys first (gathered_at w n).last

  -- how far a walk for the next member has come
  abbrev Comes : World → Type 0
  Comes w = ComesAfter ops n i keys count place first at a w

  -- what was gathered of the operator is of its groups
  good : (w : World) → IsBench w ops → AreGathered w ops n i keys (Some made) (gathered_at w n)
  good w h = h.gathered n i keys (Some made) is by

  -- the first member of the group is a position of the input
  first_of : IsOf a ops i first
  first_of = found_of a ops n i keys (Some made) (good a bench) count first begun first 0 begun

  -- the member from which the group is walked is a position of the input
  at_of : IsOf a ops i at
  at_of = found_of a ops n i keys (Some made) (good a bench) count first begun at place here

  -- a walk to the next member begins with all of its events ahead
  pub comes_here : Comes a
  comes_here = record {
    asks = asks_nothing a ops n (keeps_same a ops bench) whole;
    costs = λ none t f. (let p = (found_past a ops n i keys (Some made) (good a bench) count first begun at place here none t).costs in omega (arith, p));
  }

  module _ (b : World) (late : IsBench b ops) (kept : Keeps a b) where
    -- whether a binding is of the group
    abbrev of_group : TolledRow → Bool
    of_group r = same_values (key_values (docs_of b) keys (binding b ops i first)) (key_values (docs_of b) keys r)

    -- the events of the group are the same
    pub whole_is : members_after b ops i keys first at ≡ whole
    whole_is =
        ap (λ (z : Documents). same_group z keys (binding b ops i first) (ahead b ops i at)) (docs_kept kept ops bench)
        ∙ ap (λ (z : TolledRow). same_group (docs_of a) keys z (ahead b ops i at)) (cursors_kept a b kept ops bench i first first_of).binding_is
        ∙ ap (same_group (docs_of a) keys (binding a ops i first)) (cursors_kept a b kept ops bench i at at_of).ahead_is

    -- where the next member isn't there, it is the next one of what the walk has left
    pub past_is : member_at b n count (suc place) ≡ None → IsTrue (is_told b ops) → found whole ≡ found (left b)
    past_is none t =
        ap found (sym whole_is)
        ∙ (found_past b ops n i keys (Some made) (good b late) count first (kept.found n count 0 first begun) at place (kept.found n count place at here) none t).found

    -- where the next member isn't there and the walk has nothing left, the group has no further member
    pub member_none : member_at b n count (suc place) ≡ None → (IsTrue (is_told b ops) → found (ahead b ops i (gathered_at b n).last) ≡ nothing) → FindsNone (telling a ops) whole
    member_none none ended t =
        let u = still_told (tells_on kept ops) t in
        past_is none u ∙ found-only_none of_group (ahead b ops i (gathered_at b n).last) (ended u)

  module _ (b : World) (late : IsBench b ops) (come : Comes b) (none : member_at b n count (suc place) ≡ None) (e : World) (k : Asks b e ops n (ahead b ops i (gathered_at b n).last)) where
    -- a call for one more member after others asks in all for no more than the events of the group allow
    pub after_asks : Asks a e ops n whole
    after_asks = record {
      kept = keeps_then come.asks.kept k.kept;
      above = λ j l. untouched_then a b e j (come.asks.above j l) (k.above j l);
      lazy = λ t f.
          let x = come.costs none t f in
          let y = k.lazy (still_told (tells_on come.asks.kept ops) t) (still_forward (tells_on come.asks.kept ops) f) in
          let z = cost-only_le (of_group b late come.asks.kept) (ahead b ops i (gathered_at b n).last) in
          omega (arith, x, y, z);
      none = λ s. k.none s ∙ come.asks.none s;
    }

    -- a walk to the next member goes on by one more member of some group
    pub after_on : IsBench e ops → IsFurther b e ops n i keys → Comes e
    after_on last m = record {
      asks = after_asks;
      costs = λ still t f.
          let u = still_told (tells_on come.asks.kept ops) t in
          let x = come.costs none t f in
          let y = k.lazy u (still_forward (tells_on come.asks.kept ops) f) in
          let z = cost-only_no (of_group b late come.asks.kept) (ahead b ops i (gathered_at b n).last) (binding e ops i m.next) (ahead e ops i m.next) (m.found.found u) (other still t) in
          let s = ap cost left_is in
          omega (arith, x, y, z, s);
    }
      where
        -- the walk stands at what was found
        last_is : (gathered_at e n).last ≡ m.next
        last_is = m.goes.2.last ∙ m.goes.1

        -- the first member of the group is a position of the input in a later world
        first_then : IsOf b ops i first
        first_then = (cursors_kept a b come.asks.kept ops bench i first first_of).cursor

        -- what the walk has left now, by what was known before
        left_is : left e ≡ same_group (docs_of b) keys (binding b ops i first) (ahead e ops i m.next)
        left_is =
            ap (λ (z : Position). members_after e ops i keys first z) last_is
            ∙ ap (λ (z : Documents). same_group z keys (binding e ops i first) (ahead e ops i m.next)) (docs_kept k.kept ops late)
            ∙ ap (λ (z : TolledRow). same_group (docs_of b) keys z (ahead e ops i m.next)) (cursors_kept b e k.kept ops late i first first_then).binding_is

        -- what was found is of another group
        other : member_at e n count (suc place) ≡ None → IsTrue (is_told a ops) → of_group b late come.asks.kept (binding e ops i m.next) ≡ false
        other still t = by_test (of_group b late come.asks.kept (binding e ops i m.next)) refl
          where
            by_test : (v : Bool) → of_group b late come.asks.kept (binding e ops i m.next) ≡ v → v ≡ false
            by_test false z = refl
            by_test true z =
                let u = still_told (tells_on come.asks.kept ops) t in
                let v = still_told (tells_on k.kept ops) u in
                absurd (not_again (same_group (docs_of b) keys (binding b ops i first) (ahead e ops i m.next)) (binding e ops i m.next) (
                ap found (sym left_is)
                ∙ sym (past_is e last (keeps_then come.asks.kept k.kept) still v)
                ∙ past_is b late come.asks.kept none u
                ∙ found-only_yes (of_group b late come.asks.kept) (ahead b ops i (gathered_at b n).last) (binding e ops i m.next) (ahead e ops i m.next) (m.found.found u) z))
