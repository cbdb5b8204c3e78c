-- The right side of a pair is a member of the join's memo, and its binding is among the right side's events.
use Rattle.std.proofs.Common.{ℕ, zero, suc, List, [], ◌∷◌, take}
use Rattle.std.specs.Prelude.{IsTrue}
use Rattle.plan_core.specs.Beside.{EachBinding}
use Rattle.plan_core.specs.Events.{events}
use Rattle.plan_core.specs.Plans.{Operator}
use Rattle.plan_core.specs.TolledRows.{TolledRow}
use Rattle.plan_forms.specs.declared.link.Link.{Link}
use Rattle.lazy_binding.specs.declared.position.Position.{Position, Start}
use Rattle.lazy_binding.specs.Cursors.{binding, ahead, has_row}
use Rattle.lazy_binding.specs.Members.{AreNext}
use Rattle.lazy_binding.specs.World.{World, Member, docs_of, is_told, last_of, passed}
use Rattle.lazy_evidence.specs.Laws.{IsAmong}
use Rattle.lazy_evidence.proofs.Among.{found_each, all_among}

module _ (w : World) (ops : List Operator) (told : IsTrue (is_told w ops)) (i : ℕ) (by : List Link) where
  -- the first few of members that come one after another do so
  next_few : (at : Position) (j : ℕ) (ms : List Member) (k : ℕ) → AreNext w ops i by at j ms → AreNext w ops i by at j (take k ms)
  next_few at j ms zero h = tt
  next_few at j [] (suc k) h = tt
  next_few at j (m ∷ ms) (suc k) h = (h.0, next_few m.1.value (suc j) ms k h.1)

  -- what is so of the binding of a position and of each after it is so of that of the last of the members after it
  last_each : (P : TolledRow → Type 0) (at : Position) (j : ℕ) (ms : List Member) → (IsTrue (has_row at) → P (binding w ops i at)) → EachBinding P (ahead w ops i at) → AreNext w ops i by at j ms
      → IsTrue (has_row (last_of at ms)) → P (binding w ops i (last_of at ms))
  last_each P at j [] here later h row = here row
  last_each P at j (m ∷ ms) here later h row =
      let f = found_each P (ahead w ops i at) (ahead w ops i m.1.value) (binding w ops i m.1.value) later (h.0.found told) in
      last_each P m.1.value (suc j) ms (λ r. f.0) f.1 h.1 row

  -- the binding of the last member that was passed is among the events
  pub passed_among : (ms : List Member) (k : ℕ) → AreNext w ops i by Start 0 ms → IsTrue (has_row (passed ms k)) → IsAmong (events (docs_of w) ops i) (binding w ops i (passed ms k))
  passed_among ms k h row =
      last_each (IsAmong (events (docs_of w) ops i)) Start 0 (take k ms) (λ r. cc) (all_among (events (docs_of w) ops i)) (next_few Start 0 ms k h) row
