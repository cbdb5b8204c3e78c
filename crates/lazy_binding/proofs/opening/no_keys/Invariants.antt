use Rattle.std.proofs.Common.{◌≡◌, ℕ, [], length}
use Rattle.std.specs.Prelude.{slice_index_or}
use Rattle.lazy_binding.proofs.opening.no_keys.Given as goal

abbrev pub invariant-loop : goal.invariant-loop
invariant-loop l = record { length : length l.seen.items ≡ l.counter; none : (n : ℕ) → slice_index_or l.seen.items n [] ≡ [] }
