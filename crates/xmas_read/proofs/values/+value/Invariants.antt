use Rattle.std.proofs.Common.{◌≡◌, drop}
use Rattle.xmas_text.specs.Elements.{contents_of}
use Rattle.xmas_read.specs.Value.{items_value}
use Rattle.xmas_read.proofs.MadeItems.{all_before}
use Rattle.xmas_read.proofs.values.+value.Given as goal

abbrev pub invariant-items_value-loop-text : goal.invariant-items_value-loop-text
invariant-items_value-loop-text l =
    all_before l.items.items (items_value l.names (contents_of (drop l.text-index l.texts))) ≡ items_value l.names (contents_of l.texts)
