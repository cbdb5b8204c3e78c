-- No item of an element is as large as the element.
use Rattle.std.specs.Prelude.{◌≤◌, ◌+◌, List, [], ◌∷◌}
use Rattle.std.proofs.Common.{arith}
use denote.Param.Weighed.{most}
use Rattle.xmas_text.specs.declared.element.ItemText.{ItemText}
use Rattle.xmas_text.specs.declared.element.ItemText.TheVariants as item
use Rattle.xmas_text.specs.declared.element.ElementText.TheDeep.{deep-ItemText}
use Rattle.xmas_text.specs.Elements.{contents_of}
use Rattle.xmas_text.specs.ElementSizes.{contents_size}

-- no element of a list of items is larger than the whole list
pub most_le-contents_size : (is : List ItemText) → most deep-ItemText is ≤ contents_size (contents_of is) + 1
most_le-contents_size [] = omega arith
most_le-contents_size (item.Element e ∷ is) = omega (arith, most_le-contents_size is)
most_le-contents_size (item.Node s ∷ is) = omega (arith, most_le-contents_size is)
most_le-contents_size (item.LabelOf s ∷ is) = omega (arith, most_le-contents_size is)
most_le-contents_size (item.Text l ∷ is) = omega (arith, most_le-contents_size is)
