use Rattle.std.proofs.Common.{◌≡◌, ℕ, ◌+◌, ◌-◌, ◌*◌, ◌++◌, List}
use Rattle.wire_text.specs.Wired.{Wired, count_of}
use Rattle.wire_text.specs.Bytes.{trees_bytes, AreTrees}
use Rattle.wire_text.proofs.Built.{BuildsOn}
use Rattle.wire_text.proofs.building.+build.Given as goal

abbrev pub decreases-build_tree : goal.decreases-build_tree
decreases-build_tree l = 2 * l.levels

abbrev pub decreases-build_trees : goal.decreases-build_trees
decreases-build_trees l = 2 * l.levels + 1

abbrev pub invariant-build_trees-loop-i : goal.invariant-build_trees-loop-i
invariant-build_trees-loop-i l = (o : Wired) (y : List ℕ) → AreTrees o → count_of o ≡ l.count → l.bytes ≡ trees_bytes o ++ y → BuildsOn l.levels o y l.rest l.trees.items (l.count - l.i)
