-- The first places of lists.
use Rattle.std.proofs.Common.{◌≡◌, ℕ, List, [], ◌∷◌, ◌++◌, Option, Some, None, refl, ap, sym, ◌∙◌}
use Rattle.mix_base.proofs.Lists.{append_nil}
use Rattle.xmas_text.specs.Contents.{Leaf, Contents, nothing, element, leaf}
use Rattle.xmas_text.specs.Elements.{item_before, contents_of}
use Rattle.xmas_text.specs.declared.element.ItemText.{ItemText}
use Rattle.xmas_text.specs.declared.element.ItemText.TheVariants as item
use Rattle.xmas_read.specs.Refusals.{first_in, differing_tags, differing_in}

-- the first of two lists is that of the first, or else of the second
pub first_append : (xs ys : List ℕ) (at : ℕ) → first_in xs ≡ Some at → first_in (xs ++ ys) ≡ Some at
first_append [] ys at h = cc
first_append (x ∷ xs) ys at h = h

-- where the first list has no first place, the first of two lists is that of the second
pub first_after : (xs ys : List ℕ) → first_in xs ≡ None → first_in (xs ++ ys) ≡ first_in ys
first_after [] ys h = refl
first_after (x ∷ xs) ys h = cc
