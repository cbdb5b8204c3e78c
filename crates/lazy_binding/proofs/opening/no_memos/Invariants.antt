use Rattle.std.proofs.Common.{◌≡◌, ℕ, length}
use Rattle.std.specs.Prelude.{slice_index_or}
use Rattle.lazy_binding.specs.World.{no_pairs}
use Rattle.lazy_binding.proofs.opening.no_memos.Given as goal

abbrev pub invariant-loop : goal.invariant-loop
invariant-loop l = record { length : length l.memos.items ≡ l.counter; none : (n : ℕ) → slice_index_or l.memos.items n no_pairs ≡ no_pairs }
