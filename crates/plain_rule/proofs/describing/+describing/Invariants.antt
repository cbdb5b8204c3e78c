use Rattle.std.proofs.Common.{ℕ, ◌+◌, ◌*◌, ◌<◌, length, take, drop}
use Rattle.path_expr.specs.Form.{paths_of}
use Rattle.path_expr.specs.Size.{size_of, form_size}
use Rattle.path_expr.specs.Description.{Describes, DescribesAs, in_turn, Many}
use Rattle.plain_rule.specs.Parts.{DescribesAlone}
use Rattle.plain_rule.proofs.describing.+describing.Given as goal

abbrev pub decreases-describes : goal.decreases-describes
decreases-describes l = 6 * form_size l.path.now + 4 * length l.labels.now

abbrev pub decreases-is_split : goal.decreases-is_split
decreases-is_split l = 6 * (form_size l.first.now + size_of (paths_of l.after.now)) + 4 * (length l.prefix.now + length l.rest.now) + 1

abbrev pub decreases-describes_in_turn : goal.decreases-describes_in_turn
decreases-describes_in_turn l = 6 * size_of (paths_of l.paths.now) + 4 * length l.labels.now + 2

abbrev pub decreases-describes_one : goal.decreases-describes_one
decreases-describes_one l = 6 * size_of (paths_of l.paths.now) + 4 * length l.labels.now + 1

abbrev pub decreases-is_begun : goal.decreases-is_begun
decreases-is_begun l = 6 * form_size l.path.now + 4 * (length l.prefix.now + length l.rest.now) + 1

abbrev pub decreases-begins : goal.decreases-begins
decreases-begins l = 6 * form_size l.path.now + 4 * length l.labels.now + 2

abbrev pub decreases-describes_many : goal.decreases-describes_many
decreases-describes_many l = 6 * form_size l.path.now + 4 * length l.labels.now + 3

abbrev pub decreases-describes_some : goal.decreases-describes_some
decreases-describes_some l = 6 * form_size l.path.now + 4 * length l.labels.now + 3

abbrev pub decreases-describes_at_most_one : goal.decreases-describes_at_most_one
decreases-describes_at_most_one l = 6 * form_size l.path.now + 4 * length l.labels.now + 1

abbrev pub invariant-describes_in_turn-loop-at : goal.invariant-describes_in_turn-loop-at
invariant-describes_in_turn-loop-at l = (j : ℕ) → j < l.at → Describes l.first (take j l.labels) × DescribesAs (paths_of l.after) in_turn (drop j l.labels) → ⊥

abbrev pub invariant-begins-loop-at : goal.invariant-begins-loop-at
invariant-begins-loop-at l = (j : ℕ) → j < l.at → 0 < j → Describes l.path (take j l.labels) × Many (DescribesAlone l.path) (drop j l.labels) → ⊥
