use Rattle.std.proofs.Common.{◌≡◌, ◌≤◌, ◌<◌, ◌+◌, ◌-◌, ◌∙◌, Bool, arith, ap, length, take, refl}
use Rattle.xmas_rule.specs.Bindings.{Binding, label_of, sorts_before}
use Rattle.plain_rule.specs.Documents.{documents_of}
use Rattle.plain_rule.proofs.Sorting.{put_all, put_next, put_whole}
use Rattle.plain_rule.proofs.ordering.sort_by_label.Goals as goal

pub loop-left-init : goal.loop-left-init
loop-left-init c =
    let less : Binding → Binding → Bool = (λ a b. sorts_before c.args.order.now (label_of (documents_of c.args.docs.now) c.args.order.now.var a) (label_of (documents_of c.args.docs.now) c.args.order.now.var b)) in
    record {
      within = omega arith;
      sorted = ap (put_all less (take (length c.args.bindings.now) c.args.bindings.now)) c.new-sorted.ensures.items ∙ put_whole less c.args.bindings.now (length c.args.bindings.now) refl;
    }

pub loop-left-preserved : goal.loop-left-preserved
loop-left-preserved c =
    let less : Binding → Binding → Bool = (λ a b. sorts_before c.args.order.now (label_of (documents_of c.args.docs.now) c.args.order.now.var a) (label_of (documents_of c.args.docs.now) c.args.order.now.var b)) in
    let some : 0 < c.loop-left.left = c.loop-left-test.true in
    let within : c.loop-left.left ≤ length c.args.bindings.now = c.loop-left.invariant.within in
    let inside : c.loop-left.left - 1 < length c.args.bindings.now = omega arith in
    let same : c.loop-left.left - 1 + 1 ≡ c.loop-left.left = omega arith in
    record {
      within = omega arith;
      sorted =
          put_next less c.args.bindings.now (c.loop-left.left - 1) c.index-bindings-left.result c.loop-left.sorted.items c.insert_into.new.sorted.items inside c.index-bindings-left.is c.in_ok-insert_into.ensures
          ∙ ap (λ n. put_all less (take n c.args.bindings.now) c.loop-left.sorted.items) same
          ∙ c.loop-left.invariant.sorted;
    }
