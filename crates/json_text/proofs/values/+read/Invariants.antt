use Rattle.std.proofs.Common.{ℕ, ◌+◌, ◌*◌, ◌≤◌, length}
use Rattle.json.specs.Json.{items, members, value}
use Rattle.json_text.specs.Trees.{items_trees, members_trees}
use Rattle.json_text.proofs.Passed.{Passed}
use Rattle.json_text.proofs.values.+read.Given as goal

abbrev pub decreases-read_value : goal.decreases-read_value
decreases-read_value l = 3 * l.depth

abbrev pub decreases-read_labelled : goal.decreases-read_labelled
decreases-read_labelled l = 3 * l.depth + 1

abbrev pub decreases-read_items : goal.decreases-read_items
decreases-read_items l = 3 * l.depth + 2

abbrev pub decreases-read_members : goal.decreases-read_members
decreases-read_members l = 3 * l.depth + 2

abbrev pub invariant-read_items-loop-reader : goal.invariant-read_items-loop-reader
invariant-read_items-loop-reader l =
    (n : ℕ) × (length l.reader ≤ n) × (length l.reader ≤ length l.initial.reader)
    × Passed items_trees (items (value l.depth) (length l.initial.reader) l.initial.reader) (items (value l.depth) n l.reader) l.initial.store l.store

abbrev pub decreases-read_items-loop-reader : goal.decreases-read_items-loop-reader
decreases-read_items-loop-reader l = length l.reader

abbrev pub invariant-read_members-loop-name : goal.invariant-read_members-loop-name
invariant-read_members-loop-name l =
    (n : ℕ) × (length l.reader ≤ n) × (length l.reader ≤ length l.initial.reader)
    × Passed members_trees (members (value l.depth) (length l.initial.reader) l.initial.reader) (members (value l.depth) n l.reader) l.initial.store l.store

abbrev pub decreases-read_members-loop-name : goal.decreases-read_members-loop-name
decreases-read_members-loop-name l = length l.reader
