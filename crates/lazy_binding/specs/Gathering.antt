-- What is so of the members of groups that were found in one walk over the input of their operator.
use Rattle.std.specs.Prelude.{◌≡◌, ◌<◌, ◌≤◌, ◌+◌, ℕ, suc, IsTrue, Option, List, [], ◌∷◌, length, drop, slice_index_or}
use Rattle.std.specs.declared.alloc.Global.{Global}
use Rattle.std.specs.declared.rc.Rc.{Rc}
use Rattle.mix_base.specs.Events.{nothing, finds, found}
use Rattle.mix_tree.specs.declared.var.Key.{Key}
use Rattle.plan_core.specs.declared.plan.Piece.{Piece}
use Rattle.plan_core.specs.Plans.{Operator}
use Rattle.plan_core.specs.TolledRows.{TolledRow}
use Rattle.plan_core.specs.Fronts.{stops_over}
use Rattle.plan_core.specs.Events.{events, distinct, keys_seen, kept_row, same_group}
use Rattle.lazy_binding.specs.declared.position.Position.{Position, First'}
use Rattle.lazy_binding.specs.World.{World, docs_of, is_told, seen_at}
use Rattle.lazy_binding.specs.Cursors.{binding, ahead, number, size, up_to, IsOf, IsPast, NoneBefore, has_row, past_first}
use Rattle.lazy_binding.specs.Gathered.{Gathered}

-- position m of operator i stands at the next binding with the keys of a row after position `at`, before which k of them come
pub record IsNextMember (w : World) (ops : List Operator) (i : ℕ) (keys : List Key) (row : TolledRow) (at : Position) (k : ℕ) (m : Position) : Type 0 where
  pub cursor : IsOf w ops i m
  pub stands : IsTrue (has_row m)
  pub few : suc k + number w ops i m ≤ size w ops i
  pub found : IsTrue (is_told w ops)
      → found (same_group (docs_of w) keys row (ahead w ops i at)) ≡ finds (binding w ops i m) (same_group (docs_of w) keys row (ahead w ops i m))

-- given positions of operator i stand at its bindings with a row's keys after `at` up to `last`, in order; after that the next costs no more
abbrev pub AreInGroup : World → List Operator → ℕ → List Key → TolledRow → Position → Position → ℕ → List (Rc Position Global) → Type 0
AreInGroup w ops i keys row last at k [] = (k + number w ops i last ≤ size w ops i)
    × (IsTrue (is_told w ops) → IsPast (same_group (docs_of w) keys row (ahead w ops i at)) (same_group (docs_of w) keys row (ahead w ops i last)))
AreInGroup w ops i keys row last at k (m ∷ ms) = IsNextMember w ops i keys row at k m.value × AreInGroup w ops i keys row last m.value (suc k) ms

-- of operator n, which keeps the first bindings of its input i by these keys, the first k come up to position c of the input: after c come the keys after the first k, no event before c has
-- other keys, and the bindings of operator n after the first k are those that are made after c
pub record IsPassed (w : World) (ops : List Operator) (n i : ℕ) (keys : List Key) (group : Option (Piece × ℕ)) (c : Position) (k : ℕ) : Type 0 where
  pub cursor : IsOf w ops i c
  pub few : number w ops i c + k ≤ size w ops i
  pub within : k ≤ length (seen_at w n)
  pub seen : IsTrue (is_told w ops)
      → keys_seen (docs_of w) keys (up_to w n k) (ahead w ops i c) ≡ drop k (keys_seen (docs_of w) keys [] (events (docs_of w) ops i))
  pub before : IsTrue (is_told w ops) → NoneBefore (docs_of w) keys (events (docs_of w) ops i) (up_to w n k) (ahead w ops i c)
  pub past : IsTrue (is_told w ops) → IsPast (past_first k (events (docs_of w) ops n))
      (distinct (docs_of w) keys (kept_row (docs_of w) keys (stops_over ops i keys) group) (up_to w n k) (ahead w ops i c))

-- given positions are the members of group k, from 0, of operator n: its binding after k others is made of the first, the others come in order
abbrev pub HasGroup : World → List Operator → ℕ → ℕ → List Key → Position → ℕ → List (Rc Position Global) → Type 0
HasGroup w ops n i keys last k [] = ⊥
HasGroup w ops n i keys last k (m ∷ ms) = ((q : Rc (Unit {0}) Global) → IsOf w ops n (First' q m.value (suc k)))
    × ((q : Rc (Unit {0}) Global) → IsTrue (is_told w ops) → found (past_first k (events (docs_of w) ops n))
    ≡ finds (binding w ops n (First' q m.value (suc k))) (ahead w ops n (First' q m.value (suc k))))
    × IsOf w ops i m.value × AreInGroup w ops i keys (binding w ops i m.value) last m.value 1 ms

-- of operator n as many groups were found as it has seen keys, each with its members up to the binding that was walked to, which is the last one of the input where the walk has ended
pub record AreGathered (w : World) (ops : List Operator) (n i : ℕ) (keys : List Key) (group : Option (Piece × ℕ)) (g : Gathered) : Type 0 where
  pub count : length g.groups ≡ length (seen_at w n)
  pub walked : IsPassed w ops n i keys group g.last (length g.groups)
  pub groups : (k : ℕ) → k < length g.groups → HasGroup w ops n i keys g.last k (slice_index_or g.groups k [])
  pub all : IsTrue g.ended → IsTrue (is_told w ops) → found (ahead w ops i g.last) ≡ nothing
