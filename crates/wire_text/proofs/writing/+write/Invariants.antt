use Rattle.std.proofs.Common.{◌≡◌, ◌+◌, ◌*◌, ◌++◌, drop}
use Rattle.wire_text.specs.Wired.{nil, size_of}
use Rattle.wire_text.specs.Bytes.{trees_bytes, list_bytes}
use Rattle.wire_text.specs.Plain.{plain, put}
use Rattle.wire_text.proofs.writing.+write.Given as goal

abbrev pub decreases-push_tree : goal.decreases-push_tree
decreases-push_tree l = 2 * size_of (put l.tree.now nil)

abbrev pub decreases-push_list : goal.decreases-push_list
decreases-push_list l = 2 * size_of (plain l.trees.now) + 1

abbrev pub invariant-push_list-loop-tree : goal.invariant-push_list-loop-tree
invariant-push_list-loop-tree l = l.out.items ++ trees_bytes (plain (drop l.tree-index l.trees)) ≡ l.fn.out.items ++ list_bytes (plain l.trees)
