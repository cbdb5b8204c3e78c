use Rattle.std.proofs.Common.{◌≡◌, ◌++◌, drop}
use Rattle.xmas_rule.specs.Made.{items_of}
use Rattle.xmas_read.specs.Canonical.{items_text}
use Rattle.xmas_read.proofs.writing.+write.Given as goal

abbrev pub invariant-push_items-loop-item : goal.invariant-push_items-loop-item
invariant-push_items-loop-item l =
    l.out.items ++ items_text l.names (items_of (drop l.item-index l.items)) ≡ l.fn.out.items ++ items_text l.names (items_of l.items)
