use Rattle.std.proofs.Common.{arith}
use Rattle.xmas_read.proofs.MadeItems.{made_more, made_all}
use Rattle.xmas_read.proofs.values.+value.Goals as goal

pub items_value-loop-text-preserved : goal.items_value-loop-text-preserved
items_value-loop-text-preserved t c =
    rw c.in_ok-push.ensures.items
    (made_more c.args.names.now c.args.texts.now c.loop-text.text-index c.text-item.result c.loop-text.items.items c.in_ok-item_value.field-0
    c.loop-text-test.true c.text-item.is c.in_ok-item_value.ensures c.loop-text.invariant)

pub items_value-returns : goal.items_value-returns
items_value-returns t c =
    made_all c.args.names.now c.args.texts.now c.loop-text.text-index c.loop-text.items.items (omega (arith, c.loop-text-test.false)) c.loop-text.invariant
