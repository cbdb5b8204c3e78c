-- The items of a template as values.
use Rattle.std.specs.Prelude.{List, [], ◌∷◌}
use Rattle.xmas_rule.specs.Items.{Items, done, literal, variable, element, whole, label_alone}
use Rattle.xmas_rule.specs.declared.template.Item.{Item}
use Rattle.xmas_rule.specs.declared.template.Item.TheVariants as item

-- items with one before them, as values
abbrev pub item_before : Item → Items → Items
item_before (item.Element t) rest = element t.label t.items t.keys rest
item_before (item.Node v keys) rest = variable whole v keys.items rest
item_before (item.LabelOf v keys) rest = variable label_alone v keys.items rest
item_before (item.Text label) rest = literal label rest

-- the items, one after another
abbrev pub items_of : List Item → Items
items_of [] = done
items_of (i ∷ is) = item_before i (items_of is)
