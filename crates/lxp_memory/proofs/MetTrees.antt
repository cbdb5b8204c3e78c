-- What holds of each tree that is met when a document is laid out.
use Rattle.std.proofs.Common.{◌≡◌, ℕ, zero, suc, ◌+◌, ◌<◌, ◌≤◌, ◌^◌, ◌-◌, ◌&&◌, Bool, List, [], ◌∷◌, ◌++◌, length, drop, get_or, true, false, nat_lt, refl, ap, sym, subst, ◌∙◌, add-one, drop-cons, arith}
use Rattle.std.specs.List.{AllByRecursion}
use Rattle.mix_base.proofs.Choices.{and_parts}
use Rattle.std.proofs.lemmas.Bool.Decides.{nat_tests}
use Rattle.mix_tree.specs.Forest.{Forest, none, tree, LabelledTree, alone, forest_of}
use Rattle.mix_tree.specs.Weight.{nodes_of, tree_nodes}
use Rattle.lxp_core.specs.Open.{Open, nil, node, hole, without_holes}
use Rattle.lxp_core.specs.Small.{IsSmallWithin, tops_of}
use Rattle.lxp_memory.specs.declared.document.DocNode.{DocNode}
use Rattle.lxp_memory.specs.Nodes.{trees_before, first_of, count_of, label_of, run, AreWithin, IsPlaced}
use Rattle.lxp_memory.specs.Small.{IsSmallBelow, fits_wire, fits_within, is_short}
use Rattle.lxp_memory.proofs.NodeLaws.{trees-placed}

-- what holds of each of two lists holds of both together
each_append : {X : Type 0} (P : X → Type 0) (xs ys : List X) → AllByRecursion P xs → AllByRecursion P ys → AllByRecursion P (xs ++ ys)
each_append P [] ys h k = k
each_append P (x ∷ xs) ys h k = (h.0, each_append P xs ys h.1 k)

-- what holds of the trees of nodes and of further trees holds of the further ones
of_further : (P : LabelledTree → Type 0) (ns : List DocNode) (xs : List LabelledTree) → AllByRecursion P (trees_before ns xs) → AllByRecursion P xs
of_further P [] xs h = h
of_further P (n ∷ ns) xs h = of_further P ns xs h.1

-- what the children of a tree have from it holds of each tree after placing one, where it did before
pub each_placed : (P : LabelledTree → Type 0) → ((t : LabelledTree) (kids : List LabelledTree) → forest_of kids ≡ t.kids → P t → AllByRecursion P kids)
    → (t : LabelledTree) (ns : List DocNode) (queue : List LabelledTree) (ns' : List DocNode) (queue' : List LabelledTree) → IsPlaced t ns queue ns' queue' → AreWithin ns (length (t ∷ queue))
    → AllByRecursion P (trees_before ns (t ∷ queue)) → AllByRecursion P (trees_before ns' queue')
each_placed P below t ns queue ns' queue' p h all =
    subst (AllByRecursion P) (sym (trees-placed t ns queue ns' queue' p h))
    (each_append P (trees_before ns (t ∷ queue)) p.kids all (below t p.kids p.below (of_further P ns (t ∷ queue) all).0))

-- what holds of the tree of each node holds of that of a node by its index
pub tree_at : (P : LabelledTree → Type 0) (ns : List DocNode) (i : ℕ) → i < length ns → AllByRecursion P (trees_before ns [])
    → P (record { label = label_of ns i; kids = run ns (first_of ns i) (count_of ns i) })
tree_at P [] i h all = absurd (omega arith)
tree_at P (n ∷ ns) zero h all = all.0
tree_at P (n ∷ ns) (suc i) h all = tree_at P ns i (omega arith) all.1

-- no tree of a list has more nodes than all of them
each_lighter : (most : ℕ) (ts : List LabelledTree) → nodes_of (forest_of ts) ≤ most → AllByRecursion (λ t. tree_nodes t ≤ most) ts
each_lighter most [] h = tt
each_lighter most (t ∷ ts) h = (omega arith, each_lighter most ts (omega arith))

-- the children of a tree have no more nodes than the tree
pub lighter_below : (most : ℕ) (t : LabelledTree) (kids : List LabelledTree) → forest_of kids ≡ t.kids → tree_nodes t ≤ most → AllByRecursion (λ t. tree_nodes t ≤ most) kids
lighter_below most t kids e h = each_lighter most kids (omega (arith, ap nodes_of e))

-- what has at most so many levels has at most one more
deeper : (levels : ℕ) (o : Open) → IsSmallWithin levels o → IsSmallWithin (suc levels) o
deeper levels nil h = tt
deeper zero (node label kids rest) h = absurd h
deeper zero (hole id rest) h = absurd h
deeper (suc levels) (node label kids rest) h = (h.0, h.1, deeper levels kids h.2, deeper (suc levels) rest h.3)
deeper (suc levels) (hole id rest) h = deeper (suc levels) rest h

-- the list below each of some small trees is small
each_small : (levels : ℕ) (ts : List LabelledTree) → IsSmallWithin (suc levels) (without_holes (forest_of ts))
    → AllByRecursion (λ t. (tops_of (without_holes t.kids) < 2 ^ 32) × IsSmallWithin (suc levels) (without_holes t.kids)) ts
each_small levels [] h = tt
each_small levels (t ∷ ts) h = ((h.1, deeper levels (without_holes t.kids) h.2), each_small levels ts h.3)

-- the list below each child of a tree is small, where the one below the tree is
pub small_below : (t : LabelledTree) (kids : List LabelledTree) → forest_of kids ≡ t.kids → IsSmallBelow t → AllByRecursion IsSmallBelow kids
small_below t kids e h = each_small 199 kids (subst (λ f. IsSmallWithin 200 (without_holes f)) (sym e) h.1)

-- trees that pass the test of levels and lengths are small
small_within : (levels : ℕ) (f : Forest) → fits_within levels f ≡ true → IsSmallWithin levels (without_holes f)
small_within levels none h = tt
small_within zero (tree label kids rest) h = (let c : false ≡ true = h in cc)
small_within (suc levels) (tree label kids rest) h =
    let first = and_parts (is_short label kids) (fits_within levels kids && fits_within (suc levels) rest) h in
    let lengths = and_parts (nat_lt (length label) (2 ^ 32)) (nat_lt (tops_of (without_holes kids)) (2 ^ 32)) first.0 in
    let others = and_parts (fits_within levels kids) (fits_within (suc levels) rest) first.1 in
    (below (length label) lengths.0, below (tops_of (without_holes kids)) lengths.1, small_within levels kids others.0, small_within (suc levels) rest others.1)
  where
    below : (n : ℕ) → nat_lt n (2 ^ 32) ≡ true → n < 2 ^ 32
    below n k = grind (arith, nat_tests)

-- below the document node of a root that fits a wire the list is small
pub small_root : (root : LabelledTree) → fits_wire root ≡ true → IsSmallBelow (record { label = []; kids = alone root })
small_root root h = (omega arith, small_within 200 (alone root) h)

-- a list of trees without holes has as many trees as there are
pub tops_of-forest : (ts : List LabelledTree) → tops_of (without_holes (forest_of ts)) ≡ length ts
tops_of-forest [] = omega arith
tops_of-forest (t ∷ ts) = omega (arith, tops_of-forest ts)

-- the test of trees from a place on is that of the tree there before the others
pub fits_turn : (levels : ℕ) (ts : List LabelledTree) (i : ℕ) (t : LabelledTree) → i < length ts → t ≡ get_or ts i t
    → fits_within levels (forest_of (drop i ts)) ≡ fits_within levels (tree t.label t.kids (forest_of (drop (i + 1) ts)))
fits_turn levels ts i t h e =
    let next : drop i ts ≡ t ∷ drop (i + 1) ts = rw (add-one, drop-cons ts i t) (ap (λ (u : LabelledTree). u ∷ drop (suc i) ts) (sym e)) in
    ap (λ (us : List LabelledTree). fits_within levels (forest_of us)) next

-- a tree whose label or list is too long fits nowhere
pub unfit_length : (levels : ℕ) (label : List ℕ) (kids rest : Forest) → is_short label kids ≡ false → fits_within levels (tree label kids rest) ≡ false
unfit_length zero label kids rest e = refl
unfit_length (suc levels) label kids rest e = ap (λ b. b && (fits_within levels kids && fits_within (suc levels) rest)) e

-- a tree whose children fit no level less doesn't fit
pub unfit_below : (levels : ℕ) (label : List ℕ) (kids rest : Forest) → fits_within (levels - 1) kids ≡ false → fits_within levels (tree label kids rest) ≡ false
unfit_below zero label kids rest e = refl
unfit_below (suc levels) label kids rest e =
    let less : suc levels - 1 ≡ levels = omega arith in
    let unfit : fits_within levels kids ≡ false = ap (λ n. fits_within n kids) (sym less) ∙ e in
    go (is_short label kids) (fits_within (suc levels) rest) unfit
  where
    go : (a b : Bool) → fits_within levels kids ≡ false → (a && (fits_within levels kids && b)) ≡ false
    go true b u = ap (λ v. v && b) u
    go false b u = refl

-- where a tree is short and its children fit one level less, the others decide
pub fit_on : (levels : ℕ) (label : List ℕ) (kids rest : Forest) → 0 < levels → is_short label kids ≡ true → fits_within (levels - 1) kids ≡ true
    → fits_within levels (tree label kids rest) ≡ fits_within levels rest
fit_on zero label kids rest some e f = absurd (omega arith)
fit_on (suc levels) label kids rest some e f =
    let less : suc levels - 1 ≡ levels = omega arith in
    let fit : fits_within levels kids ≡ true = ap (λ n. fits_within n kids) (sym less) ∙ f in
    ap (λ a. a && (fits_within levels kids && fits_within (suc levels) rest)) e ∙ ap (λ b. b && fits_within (suc levels) rest) fit

-- where no tree is left to be placed, no tree has more nodes than there are
pub all_bounded : (ns : List DocNode) (queue : List LabelledTree) (most : ℕ) → queue ≡ drop 1 queue → length ns + nodes_of (forest_of queue) ≡ most
    → AllByRecursion (λ t. tree_nodes t ≤ most) (trees_before ns queue) → AllByRecursion (λ t. tree_nodes t ≤ length ns) (trees_before ns [])
all_bounded ns [] most ended left h =
    let same : most ≡ length ns = omega arith in
    subst (λ (m : ℕ). AllByRecursion (λ t. tree_nodes t ≤ m) (trees_before ns [])) same h
all_bounded ns (t ∷ queue) most ended left h = absurd (omega (arith, ap length ended))

-- what holds of no nodes and of the one tree to be placed holds as the layout begins
pub begun : (P : List DocNode → List LabelledTree → Type 0) (ns : List DocNode) (queue : List LabelledTree) (t : LabelledTree) → ns ≡ [] → queue ≡ t ∷ [] → P [] (t ∷ []) → P ns queue
begun P ns queue t e f h = subst (λ (m : List DocNode). P m queue) (sym e) (subst (λ (q : List LabelledTree). P [] q) (sym f) h)
