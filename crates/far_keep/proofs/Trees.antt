-- Trees that are gone through one after another, and the lists without holes that are made of them.
use Rattle.std.proofs.Common.{◌≡◌, ◌+◌, ◌<◌, ◌≤◌, ◌∙◌, ℕ, zero, suc, false, true, List, [], ◌∷◌, ◌++◌, length, get_or, take, drop, refl, ap, sym, arith, add-one, drop-cons}
use Rattle.std.proofs.lemmas.List.{take_more}
use Rattle.mix_tree.specs.Forest.{Forest, LabelledTree, none, tree, alone, followed, forest_of}
use Rattle.mix_tree.specs.Weight.{nodes_of, tree_nodes}
use Rattle.lxp_core.specs.Open.{begins_with_hole, IsProgress, node, open_followed, without_holes}
use Rattle.lxp_core.proofs.Opens.{IsApart-without_holes, forest_of-append}

-- the nodes of the trees from one on are those of that tree and those of the trees after it
pub nodes_next : (ts : List LabelledTree) (i : ℕ) (t : LabelledTree) → i < length ts → t ≡ get_or ts i t → nodes_of (forest_of (drop i ts)) ≡ tree_nodes t + nodes_of (forest_of (drop (i + 1) ts))
nodes_next ts i t h e =
    let next : drop i ts ≡ t ∷ drop (i + 1) ts = rw (add-one, drop-cons ts i t) (ap (λ (u : LabelledTree). u ∷ drop (suc i) ts) (sym e)) in
    ap (λ (us : List LabelledTree). nodes_of (forest_of us)) next

-- the trees from one on have no more nodes than all
nodes_from : (ts : List LabelledTree) (i : ℕ) → nodes_of (forest_of (drop i ts)) ≤ nodes_of (forest_of ts)
nodes_from ts zero = omega arith
nodes_from [] (suc i) = omega arith
nodes_from (t ∷ ts) (suc i) = omega (arith, nodes_from ts i)

-- a tree of a list has no more nodes than all
pub nodes_among : (ts : List LabelledTree) (i : ℕ) (t : LabelledTree) → i < length ts → t ≡ get_or ts i t → tree_nodes t ≤ nodes_of (forest_of ts)
nodes_among ts i t h e = omega (arith, nodes_next ts i t h e, nodes_from ts i)

-- two lists of trees, one after the other, have no holes one after the other
without_holes-followed : (f g : Forest) → without_holes (followed f g) ≡ open_followed (without_holes f) (without_holes g)
without_holes-followed none g = refl
without_holes-followed (tree label kids rest) g = ap (node label (without_holes kids)) (without_holes-followed rest g)

-- with one tree more, the first trees of a list have its list without holes after theirs
pub without_holes_next : (ts : List LabelledTree) (i : ℕ) (t : LabelledTree) → i < length ts → t ≡ get_or ts i t
    → without_holes (forest_of (take (i + 1) ts)) ≡ open_followed (without_holes (forest_of (take i ts))) (without_holes (alone t))
without_holes_next ts i t h e =
    ap (λ (us : List LabelledTree). without_holes (forest_of us)) (take_more ts i t h ∙ ap (λ (u : LabelledTree). take i ts ++ u ∷ []) (sym e))
    ∙ ap without_holes (forest_of-append (take i ts) (t ∷ []))
    ∙ without_holes-followed (forest_of (take i ts)) (alone t)

-- a list without holes keeps progress
pub progress-without_holes : (f : Forest) → IsProgress (without_holes f)
progress-without_holes none = record { top = λ some. (let c : true ≡ false = some in cc); apart = tt }
progress-without_holes (tree label kids rest) = record { top = λ some. refl; apart = IsApart-without_holes (tree label kids rest) }

-- a list without holes begins with none
pub no_hole_first : (f : Forest) → begins_with_hole (without_holes f) ≡ false
no_hole_first none = refl
no_hole_first (tree label kids rest) = refl
