-- Lists with holes: one after another, and what their holes stand for changed.
use Rattle.std.proofs.Common.{◌≡◌, ℕ, ◌+◌, Bool, true, false, List, [], ◌∷◌, ◌++◌, refl, ap, sym, ◌∙◌, arith}
use Rattle.mix_tree.specs.Forest.{Forest, none, tree, followed, LabelledTree, forest_of}
use Rattle.mix_tree.specs.Weight.{nodes_of}
use Rattle.lxp_core.specs.declared.open_tree.HoleId.{HoleId}
use Rattle.lxp_core.specs.Open.{Open, nil, node, hole, closed, weight_of, AllHoles, begins_with_hole, IsApart, open_followed, without_holes}
use Rattle.mix_tree.proofs.Forests.{followed_assoc}

-- of three lists, the first two or the last two may be joined first
pub open_followed_assoc : (a b c : Open) → open_followed (open_followed a b) c ≡ open_followed a (open_followed b c)
open_followed_assoc nil b c = refl
open_followed_assoc (node label kids rest) b c = ap (node label kids) (open_followed_assoc rest b c)
open_followed_assoc (hole id rest) b c = ap (hole id) (open_followed_assoc rest b c)

-- closing two lists closes each
pub closed-open_followed : (forest : HoleId → Forest) (a b : Open) → closed forest (open_followed a b) ≡ followed (closed forest a) (closed forest b)
closed-open_followed forest nil b = refl
closed-open_followed forest (node label kids rest) b = ap (tree label (closed forest kids)) (closed-open_followed forest rest b)
closed-open_followed forest (hole id rest) b =
    ap (followed (forest id)) (closed-open_followed forest rest b) ∙ sym (followed_assoc (forest id) (closed forest rest) (closed forest b))

-- the weights of two lists add up
pub weight_of-open_followed : (weight : HoleId → ℕ) (a b : Open) → weight_of weight (open_followed a b) ≡ weight_of weight a + weight_of weight b
weight_of-open_followed weight nil b = omega arith
weight_of-open_followed weight (node label kids rest) b = omega (arith, weight_of-open_followed weight rest b)
weight_of-open_followed weight (hole id rest) b = omega (arith, weight_of-open_followed weight rest b)

-- all holes of two lists pass where those of each do
pub AllHoles-open_followed : (test : HoleId → Bool) (a b : Open) → AllHoles test a → AllHoles test b → AllHoles test (open_followed a b)
AllHoles-open_followed test nil b p q = q
AllHoles-open_followed test (node label kids rest) b p q = (p.0, AllHoles-open_followed test rest b p.1 q)
AllHoles-open_followed test (hole id rest) b p q = (p.0, AllHoles-open_followed test rest b p.1 q)

-- two lists begin with no hole where neither does
pub begins_with_hole-open_followed : (a b : Open) → begins_with_hole a ≡ false → begins_with_hole b ≡ false → begins_with_hole (open_followed a b) ≡ false
begins_with_hole-open_followed nil b p q = q
begins_with_hole-open_followed (node label kids rest) b p q = p
begins_with_hole-open_followed (hole id rest) b p q = p

-- holes stay apart where the second list begins with none
pub IsApart-open_followed : (a b : Open) → IsApart a → IsApart b → begins_with_hole b ≡ false → IsApart (open_followed a b)
IsApart-open_followed nil b p q r = q
IsApart-open_followed (node label kids rest) b p q r = (p.0, IsApart-open_followed rest b p.1 q r)
IsApart-open_followed (hole id rest) b p q r = (begins_with_hole-open_followed rest b p.0 r, IsApart-open_followed rest b p.1 q r)

-- a list closes to the same where the holes that pass stand for the same
pub closed-same : (test : HoleId → Bool) (old new : HoleId → Forest) → ((h : HoleId) → test h ≡ true → new h ≡ old h) → (o : Open) → AllHoles test o → closed new o ≡ closed old o
closed-same test old new same nil p = refl
closed-same test old new same (node label kids rest) p =
    ap (λ f. tree label f (closed new rest)) (closed-same test old new same kids p.0)
    ∙ ap (tree label (closed old kids)) (closed-same test old new same rest p.1)
closed-same test old new same (hole id rest) p =
    ap (λ f. followed f (closed new rest)) (same id p.0) ∙ ap (followed (old id)) (closed-same test old new same rest p.1)

-- a list weighs the same where the holes that pass weigh the same
pub weight_of-same : (test : HoleId → Bool) (old new : HoleId → ℕ) → ((h : HoleId) → test h ≡ true → new h ≡ old h) → (o : Open) → AllHoles test o → weight_of new o ≡ weight_of old o
weight_of-same test old new same nil p = refl
weight_of-same test old new same (node label kids rest) p =
    omega (arith, weight_of-same test old new same kids p.0, weight_of-same test old new same rest p.1)
weight_of-same test old new same (hole id rest) p = omega (arith, same id p.0, weight_of-same test old new same rest p.1)

-- holes that pass one test pass a weaker one
pub AllHoles-weaker : (test weaker : HoleId → Bool) → ((h : HoleId) → test h ≡ true → weaker h ≡ true) → (o : Open) → AllHoles test o → AllHoles weaker o
AllHoles-weaker test weaker more nil p = tt
AllHoles-weaker test weaker more (node label kids rest) p = (AllHoles-weaker test weaker more kids p.0, AllHoles-weaker test weaker more rest p.1)
AllHoles-weaker test weaker more (hole id rest) p = (more id p.0, AllHoles-weaker test weaker more rest p.1)

-- a list without holes closes to itself
pub closed-without_holes : (forest : HoleId → Forest) (f : Forest) → closed forest (without_holes f) ≡ f
closed-without_holes forest none = refl
closed-without_holes forest (tree label kids rest) =
    ap (λ f. tree label f (closed forest (without_holes rest))) (closed-without_holes forest kids)
    ∙ ap (tree label kids) (closed-without_holes forest rest)

-- the holes of a list without holes pass any test
pub AllHoles-without_holes : (test : HoleId → Bool) (f : Forest) → AllHoles test (without_holes f)
AllHoles-without_holes test none = tt
AllHoles-without_holes test (tree label kids rest) = (AllHoles-without_holes test kids, AllHoles-without_holes test rest)

-- in a list without holes no two stand side by side
pub IsApart-without_holes : (f : Forest) → IsApart (without_holes f)
IsApart-without_holes none = tt
IsApart-without_holes (tree label kids rest) = (IsApart-without_holes kids, IsApart-without_holes rest)

-- the trees of one list after another are those of the first, followed by those of the second
pub forest_of-append : (xs ys : List LabelledTree) → forest_of (xs ++ ys) ≡ followed (forest_of xs) (forest_of ys)
forest_of-append [] ys = refl
forest_of-append (x ∷ xs) ys = ap (tree x.label x.kids) (forest_of-append xs ys)

-- the nodes of two lists of trees add up
pub nodes_of-followed : (f g : Forest) → nodes_of (followed f g) ≡ nodes_of f + nodes_of g
nodes_of-followed none g = omega arith
nodes_of-followed (tree label kids rest) g = omega (arith, nodes_of-followed rest g)

-- a list weighs as many nodes as it closes to, where each hole weighs the nodes that it stands for
pub nodes_of-closed : (forest : HoleId → Forest) (o : Open) → nodes_of (closed forest o) ≡ weight_of (λ h. nodes_of (forest h)) o
nodes_of-closed forest nil = refl
nodes_of-closed forest (node label kids rest) = omega (arith, nodes_of-closed forest kids, nodes_of-closed forest rest)
nodes_of-closed forest (hole id rest) = omega (arith, nodes_of-followed (forest id) (closed forest rest), nodes_of-closed forest rest)
