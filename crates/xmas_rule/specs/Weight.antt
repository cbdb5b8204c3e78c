-- The elements inside a template are fewer than it is.
use Rattle.std.specs.Prelude.{ℕ, ◌+◌, ◌≤◌, List, [], ◌∷◌}
use Rattle.std.proofs.Common.{arith}
use denote.Param.Weighed.{most}
use Rattle.xmas_rule.specs.Codes.{items_size}
use Rattle.xmas_rule.specs.Made.{items_of}
use Rattle.xmas_rule.specs.declared.template.Item.{Item}
use Rattle.xmas_rule.specs.declared.template.Item.TheVariants as item
use Rattle.xmas_rule.specs.declared.template.Template.TheDeep.{deep-Item}

-- an item has no more elements than all items have
pub falls : (items : List Item) → most deep-Item items ≤ items_size (items_of items) + 1
falls [] = omega arith
falls (item.Element t ∷ rest) = let h = falls rest in omega (arith, h)
falls (item.Node v keys ∷ rest) = let h = falls rest in omega (arith, h)
falls (item.LabelOf v keys ∷ rest) = let h = falls rest in omega (arith, h)
falls (item.Text label ∷ rest) = let h = falls rest in omega (arith, h)
