use Rattle.std.proofs.Common.{◌≡◌, ◌++◌, take, drop}
use Rattle.xmas_rule.specs.Bindings.{label_of, sorts_before}
use Rattle.xmas_rule.specs.Sorted.{insert_by}
use Rattle.plain_rule.specs.Documents.{documents_of}
use Rattle.plain_rule.proofs.ordering.place_among.Given as goal

abbrev pub invariant-loop-at : goal.invariant-loop-at
invariant-loop-at l = insert_by (λ a b. sorts_before l.order (label_of (documents_of l.docs) l.order.var a) (label_of (documents_of l.docs) l.order.var b)) l.binding l.sorted ≡ take l.at l.sorted ++ insert_by (λ a b. sorts_before l.order (label_of (documents_of l.docs) l.order.var a) (label_of (documents_of l.docs) l.order.var b)) l.binding (drop l.at l.sorted)
