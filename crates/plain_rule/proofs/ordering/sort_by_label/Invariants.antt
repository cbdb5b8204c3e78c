use Rattle.std.proofs.Common.{◌≡◌, ◌≤◌, length, take}
use Rattle.xmas_rule.specs.Bindings.{label_of, sorts_before}
use Rattle.xmas_rule.specs.Sorted.{sorted_by}
use Rattle.plain_rule.specs.Documents.{documents_of}
use Rattle.plain_rule.proofs.Sorting.{put_all}
use Rattle.plain_rule.proofs.ordering.sort_by_label.Given as goal

abbrev pub invariant-loop-left : goal.invariant-loop-left
invariant-loop-left l = record {
  within : l.left ≤ length l.bindings;
  sorted : put_all (λ a b. sorts_before l.order (label_of (documents_of l.docs) l.order.var a) (label_of (documents_of l.docs) l.order.var b)) (take l.left l.bindings) l.sorted.items ≡ sorted_by (λ a b. sorts_before l.order (label_of (documents_of l.docs) l.order.var a) (label_of (documents_of l.docs) l.order.var b)) l.bindings;
}

abbrev pub decreases-loop-left : goal.decreases-loop-left
decreases-loop-left l = l.left
