use Rattle.std.proofs.Common.{◌≡◌, ◌++◌, drop}
use Rattle.mix_tree.specs.Forest.{forest_of}
use Rattle.bracket_text.specs.Canonical.{canon_rest, canon_trees}
use Rattle.bracket_text.proofs.writing.+write.Given as goal

abbrev pub invariant-push_trees-loop-i : goal.invariant-push_trees-loop-i
invariant-push_trees-loop-i l =
    l.out.items ++ canon_rest (forest_of (drop l.i l.trees)) (canon_trees (forest_of (drop l.i l.trees))) ≡ l.fn.out.items ++ canon_trees (forest_of l.trees)
