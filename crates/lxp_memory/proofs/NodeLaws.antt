-- Documents in memory: the trees of their nodes, and how they are placed.
use Rattle.std.proofs.Common.{◌≡◌, ℕ, zero, suc, ◌+◌, ◌<◌, ◌≤◌, List, [], ◌∷◌, ◌++◌, Option, Some, None, length, take, drop, get_or, refl, ap, sym, subst, ◌∙◌, arith, length-append, length-drop}
use Rattle.std.proofs.lemmas.List.{take-append-le, drop-append-le, length-take-le}
use Rattle.std.proofs.Math.Seq.{drop-append_seam, take-length, take-add}
use Rattle.mix_tree.specs.Forest.{Forest, none, tree, LabelledTree, forest_of, alone, first_tree, followed}
use Rattle.mix_tree.specs.Weight.{nodes_of}
use Rattle.lxp_memory.specs.declared.document.DocNode.{DocNode}
use Rattle.lxp_memory.specs.Nodes.{with_node, trees_before, first_of, count_of, label_of, run, AreWithin, IsPlaced}
use Rattle.lxp_memory.specs.Span.{root_span, span_trees}
use Rattle.lxp_core.proofs.Opens.{forest_of-append, nodes_of-followed}

-- there is a tree for each node and each further tree
pub length-trees_before : (ns : List DocNode) (xs : List LabelledTree) → length (trees_before ns xs) ≡ length ns + length xs
length-trees_before [] xs = omega arith
length-trees_before (n ∷ ns) xs = omega (arith, length-trees_before ns xs)

-- a part of a list is a part of a longer one
part-append : (a c : ℕ) (xs ys : List LabelledTree) → a + c ≤ length xs → take c (drop a (xs ++ ys)) ≡ take c (drop a xs)
part-append a c xs ys h =
    ap (take c) (drop-append-le a xs ys (omega arith)) ∙ take-append-le c (drop a xs) ys (omega (arith, length-drop a xs))

-- where the children of each node are among the nodes and further trees, they are so without the first node
within-rest : (n : DocNode) (ns : List DocNode) (further : ℕ) → AreWithin (n ∷ ns) further → AreWithin ns further
within-rest n ns further h i lt = omega (arith, h (suc i) (omega arith))

-- further trees after those that the nodes need change no tree
trees_before-append : (ns : List DocNode) (xs ys : List LabelledTree) → AreWithin ns (length xs) → trees_before ns (xs ++ ys) ≡ trees_before ns xs ++ ys
trees_before-append [] xs ys h = refl
trees_before-append (n ∷ ns) xs ys h =
    ap (with_node n) (trees_before-append ns xs ys (within-rest n ns (length xs) h))
    ∙ ap (λ kids. record { label = n.label; kids = forest_of kids } ∷ (trees_before ns xs ++ ys)) (part-append n.ahead n.count (trees_before ns xs) ys (omega (arith, h zero (omega arith), length-trees_before ns xs)))

-- the last node stands before the further trees
trees_before-push : (ns : List DocNode) (n : DocNode) (xs : List LabelledTree) → trees_before (ns ++ n ∷ []) xs ≡ trees_before ns (with_node n xs)
trees_before-push [] n xs = refl
trees_before-push (x ∷ ns) n xs = ap (with_node x) (trees_before-push ns n xs)

-- the tree of a node that was placed is the tree that was placed
with_node-placed : (t : LabelledTree) (n : DocNode) (queue kids : List LabelledTree) → n.label ≡ t.label → n.ahead ≡ length queue → n.count ≡ length kids → forest_of kids ≡ t.kids
    → with_node n (queue ++ kids) ≡ (t ∷ queue) ++ kids
with_node-placed t n queue kids label ahead count below =
    let part : take n.count (drop n.ahead (queue ++ kids)) ≡ kids =
    ap (λ a. take n.count (drop a (queue ++ kids))) ahead ∙ ap (take n.count) (drop-append_seam queue kids) ∙ ap (λ c. take c kids) count ∙ take-length kids in
    ap (λ ks. record { label = n.label; kids = forest_of ks } ∷ (queue ++ kids)) part
    ∙ ap (λ l. record { label = l; kids = forest_of kids } ∷ (queue ++ kids)) label
    ∙ ap (λ f. record { label = t.label; kids = f } ∷ (queue ++ kids)) below

-- the first of the trees of nodes is the same with other trees after them
first_tree-append : (ns : List DocNode) (t : LabelledTree) (queue kids : List LabelledTree) → first_tree (forest_of (trees_before ns (t ∷ queue) ++ kids)) ≡ first_tree (forest_of (trees_before ns (t ∷ queue)))
first_tree-append [] t queue kids = refl
first_tree-append (n ∷ ns) t queue kids = refl

-- the trees after placing one are those before, and its children
pub trees-placed : (t : LabelledTree) (ns : List DocNode) (queue : List LabelledTree) (ns' : List DocNode) (queue' : List LabelledTree) (p : IsPlaced t ns queue ns' queue') → AreWithin ns (length (t ∷ queue))
    → trees_before ns' queue' ≡ trees_before ns (t ∷ queue) ++ p.kids
trees-placed t ns queue ns' queue' p h =
    ap (λ m. trees_before m queue') p.nodes_are
    ∙ ap (λ q. trees_before (ns ++ p.node ∷ []) q) p.queue_is
    ∙ trees_before-push ns p.node (queue ++ p.kids)
    ∙ ap (trees_before ns) (with_node-placed t p.node queue p.kids p.label p.ahead p.count p.below)
    ∙ trees_before-append ns (t ∷ queue) p.kids h

-- placing a tree changes the first tree in nothing
pub first_tree-placed : (t : LabelledTree) (ns : List DocNode) (queue : List LabelledTree) (ns' : List DocNode) (queue' : List LabelledTree) → IsPlaced t ns queue ns' queue' → AreWithin ns (length (t ∷ queue))
    → first_tree (forest_of (trees_before ns' queue')) ≡ first_tree (forest_of (trees_before ns (t ∷ queue)))
first_tree-placed t ns queue ns' queue' p h =
    ap (λ ts. first_tree (forest_of ts)) (trees-placed t ns queue ns' queue' p h) ∙ first_tree-append ns t queue p.kids

-- with one node more, whose children are among so many further trees, the children of each node are among those
within-push : (ns : List DocNode) (n : DocNode) (before after : ℕ) → AreWithin ns (suc before) → before ≤ after → n.ahead + n.count ≤ after → AreWithin (ns ++ n ∷ []) after
within-push [] n before after h more last zero lt = omega arith
within-push [] n before after h more last (suc i) lt = absurd (omega arith)
within-push (x ∷ ns) n before after h more last zero lt = omega (arith, h zero (omega arith), length-append ns (n ∷ []))
within-push (x ∷ ns) n before after h more last (suc i) lt =
    omega (arith, within-push ns n before after (within-rest x ns (suc before) h) more last i (omega arith))

-- after placing a tree the children of each node are still among the nodes and the trees to be placed
pub within-placed : (t : LabelledTree) (ns : List DocNode) (queue : List LabelledTree) (ns' : List DocNode) (queue' : List LabelledTree) → IsPlaced t ns queue ns' queue' → AreWithin ns (length (t ∷ queue))
    → AreWithin ns' (length queue')
within-placed t ns queue ns' queue' p h =
    let longer : length queue' ≡ length queue + length p.kids = ap length p.queue_is ∙ length-append queue p.kids in
    subst (λ m. AreWithin m (length queue')) (sym p.nodes_are)
    (within-push ns p.node (length queue) (length queue') h (omega arith) (omega (arith, p.ahead, p.count)))

-- placing a tree leaves one node less to be placed
pub fewer-placed : (t : LabelledTree) (ns : List DocNode) (queue : List LabelledTree) (ns' : List DocNode) (queue' : List LabelledTree) → IsPlaced t ns queue ns' queue' → suc (nodes_of (forest_of queue')) ≡ nodes_of (forest_of (t ∷ queue))
fewer-placed t ns queue ns' queue' p =
    omega (arith, ap (λ q. nodes_of (forest_of q)) p.queue_is, ap nodes_of (forest_of-append queue p.kids), nodes_of-followed (forest_of queue) (forest_of p.kids), ap nodes_of p.below)

-- trees that make up one tree alone are one
one_tree : (xs : List LabelledTree) (label : List ℕ) (kids : Forest) → forest_of xs ≡ tree label kids none → length xs ≡ 1
one_tree [] label kids e = cc
one_tree (x ∷ []) label kids e = refl
one_tree (x ∷ y ∷ xs) label kids e = absurd (two e)
  where
    rest_of : Forest → Forest
    rest_of none = none
    rest_of (tree l k rest) = rest

    two : forest_of (x ∷ y ∷ xs) ≡ tree label kids none → ⊥
    two h = let r : forest_of (y ∷ xs) ≡ none = ap rest_of h in cc

-- the children of a tree, where there is one
abbrev kids_in : Option LabelledTree → Forest
kids_in None = none
kids_in (Some t) = t.kids

-- where all trees are placed and the first is a document node above a root, it has one child
rooted : (ns : List DocNode) (root : LabelledTree) → first_tree (forest_of (trees_before ns [])) ≡ Some (record { label = []; kids = alone root }) → AreWithin ns 0 → count_of ns 0 ≡ 1
rooted [] root e h = cc
rooted (n ∷ ns) root e h =
    let kids : forest_of (take n.count (drop n.ahead (trees_before ns []))) ≡ alone root = ap kids_in e in
    let room : n.count ≤ length (drop n.ahead (trees_before ns [])) = omega (arith, h zero (omega arith), length-trees_before ns [], length-drop n.ahead (trees_before ns [])) in
    sym (length-take-le n.count (drop n.ahead (trees_before ns [])) room) ∙ one_tree _ root.label root.kids kids

-- where all trees are placed and the first is a document node above a root, its child is the root
root_first : (ns : List DocNode) (root : LabelledTree) → first_tree (forest_of (trees_before ns [])) ≡ Some (record { label = []; kids = alone root }) → AreWithin ns 0 → span_trees ns root_span ≡ alone root
root_first [] root e h = cc
root_first (n ∷ ns) root e h =
    let start : first_of (n ∷ ns) 0 + 0 ≡ first_of (n ∷ ns) 0 = omega arith in
    ap (λ i. run (n ∷ ns) i 1) start
    ∙ ap (λ c. forest_of (take c (drop n.ahead (trees_before ns [])))) (sym (rooted (n ∷ ns) root e h)) ∙ ap kids_in e

-- the nodes are those of a document with a root
pub record IsAllPlaced (ns : List DocNode) (root : LabelledTree) : Type 0 where
  pub within : AreWithin ns 0
  pub rooted : count_of ns 0 ≡ 1
  pub document : span_trees ns root_span ≡ alone root

-- where no tree is left to be placed
pub all_placed : (ns : List DocNode) (queue : List LabelledTree) (root : LabelledTree) → queue ≡ drop 1 queue → first_tree (forest_of (trees_before ns queue)) ≡ Some (record { label = []; kids = alone root }) → AreWithin ns (length queue)
    → IsAllPlaced ns root
all_placed ns [] root ended first within =
    record { within = within; rooted = rooted ns root first within; document = root_first ns root first within }
all_placed ns (t ∷ queue) root ended first within = absurd (omega (arith, ap length ended))

-- what a node holds, read by its index
pub record IsNodeAt (ns : List DocNode) (i : ℕ) (n : DocNode) : Type 0 where
  pub first : first_of ns i ≡ i + 1 + n.ahead
  pub count : count_of ns i ≡ n.count
  pub label : label_of ns i ≡ n.label

-- a node that is read by its index is the node at that index
pub node_at : (ns : List DocNode) (i : ℕ) (n : DocNode) → i < length ns → n ≡ get_or ns i n → IsNodeAt ns i n
node_at [] i n h e = absurd (omega arith)
node_at (x ∷ ns) zero n h e =
    record {
      first = ap (λ (m : DocNode). suc m.ahead) (sym e) ∙ omega arith;
      count = ap (λ (m : DocNode). m.count) (sym e);
      label = ap (λ (m : DocNode). m.label) (sym e);
    }
node_at (x ∷ ns) (suc i) n h e =
    let rest = node_at ns i n (omega arith) e in
    record { first = omega (arith, rest.first); count = rest.count; label = rest.label }

-- the trees of nodes side by side: the first one's, its children being a run themselves, and those after it
pub run-suc : (ns : List DocNode) (i m : ℕ) → i < length ns → run ns i (suc m) ≡ tree (label_of ns i) (run ns (first_of ns i) (count_of ns i)) (run ns (suc i) m)
run-suc [] i m h = absurd (omega arith)
run-suc (n ∷ ns) zero m h = refl
run-suc (n ∷ ns) (suc i) m h = run-suc ns i m (omega arith)

-- what stands after one place, and after another from there, stands after both together
drop_twice : (xs : List LabelledTree) (i a : ℕ) → drop a (drop i xs) ≡ drop (i + a) xs
drop_twice xs zero a = let e : a ≡ 0 + a = omega arith in ap (λ k. drop k xs) e
drop_twice [] (suc i) a = drop_nothing a ∙ sym (drop_nothing (suc i + a))
  where
    drop_nothing : (k : ℕ) → drop k (let none_left : List LabelledTree = [] in none_left) ≡ []
    drop_nothing zero = refl
    drop_nothing (suc k) = refl
drop_twice (x ∷ xs) (suc i) a = drop_twice xs i a ∙ (let e : suc (i + a) ≡ suc i + a = omega arith in ap (λ k. drop k (x ∷ xs)) e)

-- the trees of nodes side by side are those of a first part and those of the rest
pub run-add : (ns : List DocNode) (i a b : ℕ) → run ns i (a + b) ≡ followed (run ns i a) (run ns (i + a) b)
run-add ns i a b =
    let trees = trees_before ns [] in
    ap forest_of (take-add a b (drop i trees)) ∙ forest_of-append (take a (drop i trees)) (take b (drop a (drop i trees)))
    ∙ ap (λ ts. followed (run ns i a) (forest_of (take b ts))) (drop_twice trees i a)
