-- Lists of trees, one after another.
use Rattle.std.proofs.Common.{◌≡◌, List, [], ◌∷◌, ◌++◌, refl, ap}
use Rattle.mix_tree.specs.Forest.{Forest, none, tree, LabelledTree, forest_of, followed}

-- nothing after a list changes nothing
pub followed-none : (f : Forest) → followed f none ≡ f
followed-none none = refl
followed-none (tree label kids rest) = ap (tree label kids) (followed-none rest)

-- of three lists, the first two or the last two may be joined first
pub followed_assoc : (f g h : Forest) → followed (followed f g) h ≡ followed f (followed g h)
followed_assoc none g h = refl
followed_assoc (tree label kids rest) g h = ap (tree label kids) (followed_assoc rest g h)

-- the trees of two lists, one after the other
pub forest_of-append : (xs ys : List LabelledTree) → forest_of (xs ++ ys) ≡ followed (forest_of xs) (forest_of ys)
forest_of-append [] ys = refl
forest_of-append (x ∷ xs) ys = ap (tree x.label x.kids) (forest_of-append xs ys)
