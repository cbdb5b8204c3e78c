use Rattle.std.proofs.Common.{◌≡◌, ℕ, None, length}
use Rattle.std.specs.Prelude.{slice_index_or}
use Rattle.lazy_binding.proofs.opening.none_reached.Given as goal

abbrev pub invariant-loop : goal.invariant-loop
invariant-loop l = record { length : length l.reached.items ≡ l.counter; none : (n : ℕ) → slice_index_or l.reached.items n None ≡ None }
