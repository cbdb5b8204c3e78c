use Rattle.std.proofs.Common.{◌≡◌, drop}
use Rattle.xmas_text.specs.Elements.{contents_of}
use Rattle.xmas_read.specs.Refusals.{first_in, loose_items}
use Rattle.xmas_read.proofs.loose.+loose.Given as goal

abbrev pub invariant-loose_item-loop-item : goal.invariant-loose_item-loop-item
invariant-loose_item-loop-item l =
    first_in (loose_items l.names l.force (contents_of (drop l.item-index l.items))) ≡ first_in (loose_items l.names l.force (contents_of l.items))
