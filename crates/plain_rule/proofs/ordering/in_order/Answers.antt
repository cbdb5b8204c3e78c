use Rattle.std.proofs.Common.{◌≡◌, ◌∙◌, refl}
use Rattle.std.proofs.lemmas.Result.{IfOk-weaker}
use Rattle.xmas_rule.specs.Bindings.{label_of, sorts_before}
use Rattle.xmas_rule.specs.Sorted.{sorted_by}
use Rattle.xmas_rule.specs.Tuples.{in_order_of}
use Rattle.plain_rule.specs.Documents.{documents_of}
use Rattle.plain_rule.proofs.Sorting.{ordered_some, ordered_none}
use Rattle.plain_rule.proofs.ordering.in_order.Goals as goal

pub returns-in-Some : goal.returns-in-Some
returns-in-Some c =
    IfOk-weaker c.sort_by_label.result
    (λ sorted. sorted.items ≡ sorted_by (λ a b. sorts_before c.in-Some.order (label_of (documents_of c.args.docs.now) c.in-Some.order.var a) (label_of (documents_of c.args.docs.now) c.in-Some.order.var b)) c.deref.result.now)
    (λ sorted. sorted.items ≡ in_order_of (documents_of c.args.docs.now) c.args.order c.args.bindings.items)
    (λ sorted e. e ∙ ordered_some (documents_of c.args.docs.now) c.in-Some.order c.in-Some.order c.deref.result.now c.args.bindings.items c.args.order refl c.in-Some.is c.deref.ensures.value)
    c.sort_by_label.ensures

pub returns-in-None : goal.returns-in-None
returns-in-None c = ordered_none (documents_of c.args.docs.now) c.args.bindings.items c.args.order c.in-None.is
