use Rattle.std.proofs.Common.{◌≡◌, ◌-◌, cond, nat_lt, Option, Some, None, drop}
use Rattle.xmas_text.specs.Elements.{contents_of}
use Rattle.xmas_read.specs.Tree.{items_in}
use Rattle.xmas_read.proofs.sizes.+items.Given as goal

abbrev pub invariant-spend_items-loop-item : goal.invariant-spend_items-loop-item
invariant-spend_items-loop-item l =
    cond (nat_lt l.room (items_in (contents_of (drop l.item-index l.items)))) None (Some (l.room - items_in (contents_of (drop l.item-index l.items))))
    ≡ cond (nat_lt l.fn.room (items_in (contents_of l.items))) None (Some (l.fn.room - items_in (contents_of l.items)))
