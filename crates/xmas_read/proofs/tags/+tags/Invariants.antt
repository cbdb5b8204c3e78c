use Rattle.std.proofs.Common.{◌≡◌, drop}
use Rattle.xmas_text.specs.Elements.{contents_of}
use Rattle.xmas_read.specs.Refusals.{first_in, differing_tags}
use Rattle.xmas_read.proofs.tags.+tags.Given as goal

abbrev pub invariant-tag_in_items-loop-item : goal.invariant-tag_in_items-loop-item
invariant-tag_in_items-loop-item l =
    first_in (differing_tags (contents_of (drop l.item-index l.items))) ≡ first_in (differing_tags (contents_of l.items))
