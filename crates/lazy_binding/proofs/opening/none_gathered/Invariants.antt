use Rattle.std.proofs.Common.{◌≡◌, ℕ, length}
use Rattle.std.specs.Prelude.{slice_index_or}
use Rattle.lazy_binding.specs.Gathered.{no_groups}
use Rattle.lazy_binding.proofs.opening.none_gathered.Given as goal

abbrev pub invariant-loop : goal.invariant-loop
invariant-loop l = record { length : length l.gathered.items ≡ l.counter; none : (n : ℕ) → slice_index_or l.gathered.items n no_groups ≡ no_groups }
