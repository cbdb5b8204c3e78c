-- The items of the code as values.
use Rattle.std.specs.Prelude.{List, [], ◌∷◌}
use Rattle.xmas_text.specs.Contents.{node, label_of, text, Contents, nothing, element, leaf, tags_of}
use Rattle.xmas_text.specs.declared.element.ItemText.{ItemText}
use Rattle.xmas_text.specs.declared.element.ItemText.TheVariants as item

-- contents with an item before them
abbrev pub item_before : ItemText → Contents → Contents
item_before (item.Element e) after = element (tags_of e) e.contents after
item_before (item.Node s) after = leaf (node s) after
item_before (item.LabelOf s) after = leaf (label_of s) after
item_before (item.Text l) after = leaf (text l) after

-- the contents that a list of items makes up
abbrev pub contents_of : List ItemText → Contents
contents_of [] = nothing
contents_of (i ∷ is) = item_before i (contents_of is)
