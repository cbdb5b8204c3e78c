-- An item's value before others.
use Rattle.std.specs.Prelude.{ℕ, List, []}
use Rattle.xmas_text.specs.Contents.{node, label_of, text}
use Rattle.xmas_text.specs.declared.element.ItemText.{ItemText}
use Rattle.xmas_text.specs.declared.element.ItemText.TheVariants as item
use Rattle.xmas_rule.specs.Items.{Items, element}
use Rattle.xmas_read.specs.Value.{own_keys, leaf_value, items_value}

-- an item's value before those of the items after it
abbrev pub value_before : List (List ℕ) → ItemText → Items → Items
value_before names (item.Element e) rest = element e.name (items_value names e.contents) (own_keys names [] e.group) rest
value_before names (item.Node s) rest = leaf_value names (node s) rest
value_before names (item.LabelOf s) rest = leaf_value names (label_of s) rest
value_before names (item.Text l) rest = leaf_value names (text l) rest
