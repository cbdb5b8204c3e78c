-- What was gathered of an operator, as its walk goes on by a binding of the input.
use Rattle.std.proofs.Common.{◌≡◌, ◌<◌, ◌⊎◌, inl, inr, ℕ, suc, Bool, true, false, List, [], ◌∷◌, ◌++◌, Option, length, refl, ◌∙◌, sym, ap, subst, arith}
use Rattle.std.specs.Prelude.{IsTrue, slice_index_or}
use Rattle.std.specs.declared.alloc.Global.{Global}
use Rattle.std.specs.declared.rc.Rc.{Rc}
use Rattle.std.proofs.lemmas.Bool.{cases_eq}
use Rattle.mix_base.specs.Events.{nothing, finds, found}
use Rattle.mix_tree.specs.Nodes.{Documents}
use Rattle.mix_tree.specs.declared.var.Key.{Key}
use Rattle.plan_core.specs.declared.plan.Piece.{Piece}
use Rattle.plan_core.specs.Plans.{Operator}
use Rattle.plan_core.specs.Events.{events}
use Rattle.plan_core.specs.TolledRows.{TolledRow, key_values, same_values}
use Rattle.lazy_binding.specs.declared.position.Position.{Position, First'}
use Rattle.lazy_binding.specs.Bench.{IsBench}
use Rattle.lazy_binding.specs.World.{World, docs_of, is_told, seen_at}
use Rattle.lazy_binding.specs.Cursors.{binding, ahead, number, has_row, IsOf, past_first}
use Rattle.lazy_binding.specs.Gathered.{Gathered, IsJoined, IsBegun}
use Rattle.lazy_binding.specs.Gathering.{AreInGroup, IsPassed, HasGroup, AreGathered}
use Rattle.lazy_binding.specs.Keeping.{Keeps, Stays}
use Rattle.lazy_binding.proofs.Keep.{docs_kept, told-kept}
use Rattle.lazy_binding.proofs.Stay.{cursors_kept}
use Rattle.lazy_binding.proofs.Gathering.{group_passed, group_pushed, passed_kept, has_group_kept}

-- whether a later binding has the keys of the group of these members
abbrev pub HasKeys : World → World → List Operator → ℕ → List Key → Position → Bool → List (Rc Position Global) → Type 0
HasKeys a b ops i keys at v [] = Unit {0}
HasKeys a b ops i keys at v (m ∷ ms) = IsTrue (is_told a ops) → same_values (key_values (docs_of a) keys (binding a ops i m.value)) (key_values (docs_of a) keys (binding b ops i at)) ≡ v

module _ (a b : World) (ops : List Operator) (bench : IsBench a ops) (k : Keeps a b) (n i : ℕ) (keys : List Key) (group : Option (Piece × ℕ)) (g : Gathered)
    (h : AreGathered a ops n i keys group g) (r : Rc Position Global) (cursor : IsOf b ops i r.value) (stands : IsTrue (has_row r.value)) (falls : number b ops i r.value < number a ops i g.last)
    (there : IsTrue (is_told a ops) → found (ahead a ops i g.last) ≡ finds (binding b ops i r.value) (ahead b ops i r.value)) where
  -- a group with its first member, and others after it that come one after another, is that group
  has_group_with : (j : ℕ) (m : Rc Position Global) (ms later : List (Rc Position Global)) → HasGroup a ops n i keys g.last j (m ∷ ms)
      → AreInGroup b ops i keys (binding a ops i m.value) r.value m.value 1 later → HasGroup b ops n i keys r.value j (m ∷ later)
  has_group_with j m ms later x y = (
    λ q. (first q).cursor,
    λ q t.
        ap (λ (z : Documents). found (past_first j (events z ops n))) (docs_kept k ops bench) ∙ x.1 q (subst IsTrue (told-kept k ops) t)
        ∙ ap (λ (z : TolledRow). finds z (ahead a ops n (First' q m.value (suc j)))) (sym (first q).binding_is)
        ∙ ap (finds (binding b ops n (First' q m.value (suc j)))) (sym (first q).ahead_is),
    here.cursor,
    subst (λ (z : TolledRow). AreInGroup b ops i keys z r.value m.value 1 later) (sym here.binding_is) y,
  )
    where
      here : Stays a b ops i m.value
      here = cursors_kept a b k ops bench i m.value x.2

      first : (q : Rc (Unit {0}) Global) → Stays a b ops n (First' q m.value (suc j))
      first q = cursors_kept a b k ops bench n (First' q m.value (suc j)) (x.0 q)

  -- a group of other keys than the new binding's has the members that it had
  has_group_passed : (j : ℕ) (ms : List (Rc Position Global)) → HasKeys a b ops i keys r.value false ms → HasGroup a ops n i keys g.last j ms → HasGroup b ops n i keys r.value j ms
  has_group_passed j [] o x = x
  has_group_passed j (m ∷ ms) o x = has_group_with j m ms ms x
      (group_passed a b ops bench k i keys (binding a ops i m.value) g.last r.value h.walked.cursor cursor stands falls there o m.value 1 ms x.2 x.3)

  -- the group of the new binding's keys has that binding as one more member
  has_group_pushed : (j : ℕ) (ms : List (Rc Position Global)) → HasKeys a b ops i keys r.value true ms → HasGroup a ops n i keys g.last j ms → HasGroup b ops n i keys r.value j (ms ++ r ∷ [])
  has_group_pushed j [] o x = absurd x
  has_group_pushed j (m ∷ ms) o x = has_group_with j m ms (ms ++ r ∷ []) x
      (group_pushed a b ops bench k i keys (binding a ops i m.value) g.last r.value h.walked.cursor cursor stands falls there o m.value 1 ms r refl x.2 x.3)

  -- where the binding is of a group that was found, what is gathered with it is right
  pub gathered_joined : (later : List (List (Rc Position Global))) (m : ℕ) → m < length g.groups → IsJoined g.groups later m r → length (seen_at b n) ≡ length (seen_at a n)
      → IsPassed b ops n i keys group r.value (length g.groups) → HasKeys a b ops i keys r.value true (slice_index_or g.groups m [])
      → ((j : ℕ) → j < length g.groups → (j ≡ m → ⊥) → HasKeys a b ops i keys r.value false (slice_index_or g.groups j []))
      → AreGathered b ops n i keys group (record { groups = later; last = r.value; ended = false })
  gathered_joined later m within joined same passed same_keys other_keys = record {
    count = joined.lists ∙ h.count ∙ sym same;
    walked = subst (IsPassed b ops n i keys group r.value) (sym joined.lists) passed;
    groups = λ j l. each j (subst (λ (z : ℕ). j < z) joined.lists l) (cases_eq j m);
    all = λ e t. cc;
  }
    where
      each : (j : ℕ) → j < length g.groups → (j ≡ m) ⊎ (j ≡ m → ⊥) → HasGroup b ops n i keys r.value j (slice_index_or later j [])
      each j l (inl e) = subst (λ (z : ℕ). HasGroup b ops n i keys r.value z (slice_index_or later z [])) (sym e)
          (subst (HasGroup b ops n i keys r.value m) (sym joined.here) (has_group_pushed m (slice_index_or g.groups m []) same_keys (h.groups m within)))
      each j l (inr ne) = subst (HasGroup b ops n i keys r.value j) (sym (joined.others j ne)) (has_group_passed j (slice_index_or g.groups j []) (other_keys j l ne) (h.groups j l))

  -- where the binding is the first of a new group, what is gathered with it is right
  pub gathered_begun : (later : List (List (Rc Position Global))) → IsBegun g.groups later r → length (seen_at b n) ≡ suc (length (seen_at a n))
      → IsPassed b ops n i keys group r.value (suc (length g.groups)) → ((j : ℕ) → j < length g.groups → HasKeys a b ops i keys r.value false (slice_index_or g.groups j []))
      → ((q : Rc (Unit {0}) Global) → IsOf b ops n (First' q r.value (suc (length g.groups))))
      → ((q : Rc (Unit {0}) Global) → IsTrue (is_told b ops) → found (past_first (length g.groups) (events (docs_of b) ops n))
      ≡ finds (binding b ops n (First' q r.value (suc (length g.groups)))) (ahead b ops n (First' q r.value (suc (length g.groups)))))
      → AreGathered b ops n i keys group (record { groups = later; last = r.value; ended = false })
  gathered_begun later begun more passed other_keys first next = record {
    count = begun.lists ∙ ap suc h.count ∙ sym more;
    walked = subst (IsPassed b ops n i keys group r.value) (sym begun.lists) passed;
    groups = λ j l. each j (subst (λ (z : ℕ). j < z) begun.lists l) (cases_eq j (length g.groups));
    all = λ e t. cc;
  }
    where
      new : HasGroup b ops n i keys r.value (length g.groups) (r ∷ [])
      new = (first, next, cursor, ((let f = passed.few in omega (arith, f)), λ t. record { found = refl; costs = omega arith }))

      each : (j : ℕ) → j < suc (length g.groups) → (j ≡ length g.groups) ⊎ (j ≡ length g.groups → ⊥) → HasGroup b ops n i keys r.value j (slice_index_or later j [])
      each j l (inl e) = subst (λ (z : ℕ). HasGroup b ops n i keys r.value z (slice_index_or later z [])) (sym e) (subst (HasGroup b ops n i keys r.value (length g.groups)) (sym begun.here) new)
      each j l (inr ne) =
          let z : j < length g.groups = omega (arith, l, ne) in
          subst (HasGroup b ops n i keys r.value j) (sym (begun.others j z)) (has_group_passed j (slice_index_or g.groups j []) (other_keys j z) (h.groups j z))

-- where nothing comes after the binding that was walked to, what was gathered stays right once the walk has ended
pub gathered_ended : (a b : World) (ops : List Operator) (bench : IsBench a ops) (k : Keeps a b) (n i : ℕ) (keys : List Key) (group : Option (Piece × ℕ)) (g : Gathered)
    → length (seen_at b n) ≡ length (seen_at a n) → (IsTrue (is_told a ops) → found (ahead a ops i g.last) ≡ nothing) → AreGathered a ops n i keys group g
    → AreGathered b ops n i keys group (record { groups = g.groups; last = g.last; ended = true })
gathered_ended a b ops bench k n i keys group g same none h = record {
  count = h.count ∙ sym same;
  walked = passed_kept a b ops bench k n i keys group g.last (length g.groups) h.walked;
  groups = λ m l. has_group_kept a b ops bench k n i keys group g.last m (slice_index_or g.groups m []) h.walked.cursor (h.groups m l);
  all = λ e t. ap found (cursors_kept a b k ops bench i g.last h.walked.cursor).ahead_is ∙ none (subst IsTrue (told-kept k ops) t);
}
