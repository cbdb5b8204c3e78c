-- The nodes of trees that are put in one after another.
use Rattle.std.proofs.Common.{◌≡◌, ◌∙◌, ℕ, List, [], ◌∷◌, ◌++◌, length, length-append, append_assoc, refl, ap, sym, arith}
use Rattle.mix_base.proofs.Lists.{append_nil}
use Rattle.mix_tree.specs.Forest.{Forest, none, tree, LabelledTree, forest_of, alone, followed}
use Rattle.mix_tree.specs.Weight.{nodes_of}
use Rattle.mix_tree.proofs.Forests.{forest_of-append}
use Rattle.document_store.specs.Laid.{LaidNode, bare_node, laid, Closes}

-- of two lists of trees, the nodes of the second come first
pub laid-followed : (f g : Forest) → laid (followed f g) ≡ laid g ++ laid f
laid-followed none g = sym (append_nil (laid g))
laid-followed (tree label kids rest) g =
    ap (λ ns. ns ++ (laid kids ++ record { label = label; below = nodes_of kids } ∷ [])) (laid-followed rest g)
    ∙ append_assoc (laid g) (laid rest) (laid kids ++ record { label = label; below = nodes_of kids } ∷ [])

-- there are as many laid nodes as the trees have
pub length-laid : (f : Forest) → length (laid f) ≡ nodes_of f
length-laid none = refl
length-laid (tree label kids rest) =
    let n : LaidNode = record { label = label; below = nodes_of kids } in
    let outer = length-append (laid rest) (laid kids ++ n ∷ []) in
    let inner = length-append (laid kids) (n ∷ []) in
    omega (arith, outer, inner, length-laid kids, length-laid rest)

-- the nodes of trees, the last one of which is laid first
pub laid-last : (ts : List LabelledTree) (t : LabelledTree) → laid (forest_of (ts ++ t ∷ [])) ≡ laid (alone t) ++ laid (forest_of ts)
laid-last ts t = ap laid (forest_of-append ts (t ∷ [])) ∙ laid-followed (forest_of ts) (alone t)

-- the nodes of a tree alone are those of its children before its own
pub laid-alone : (label : List ℕ) (kids : Forest) (above : ℕ) (others : List LaidNode) → above ≡ nodes_of kids
    → laid kids ++ record { label = label; below = above } ∷ others ≡ laid (alone (record { label = label; kids = kids })) ++ others
laid-alone label kids above others e =
    let last : ℕ → List LaidNode → List LaidNode = λ n r. record { label = label; below = n } ∷ r in
    ap (λ n. laid kids ++ last n others) e ∙ sym (append_assoc (laid kids) (last (nodes_of kids) []) others)

-- where a node is closed after its children were laid, what is laid are the nodes of the tree of its label and children
pub closes_tree : (old new others : List LaidNode) (place : ℕ) (label : List ℕ) (kids : Forest) → Closes old place new → old ≡ laid kids ++ bare_node label ∷ others → place ≡ length others
    → new ≡ laid (alone (record { label = label; kids = kids })) ++ others
closes_tree old new others place label kids c e p =
    c (laid kids) others (bare_node label) e (sym p) ∙ laid-alone label kids (length (laid kids)) others (length-laid kids)

-- the nodes of one more tree before those of the trees laid so far are those of all of them
pub laid_more : (ts : List LabelledTree) (t : LabelledTree) (others : List LaidNode) → laid (alone t) ++ (laid (forest_of ts) ++ others) ≡ laid (forest_of (ts ++ t ∷ [])) ++ others
laid_more ts t others = sym (append_assoc (laid (alone t)) (laid (forest_of ts)) others) ∙ ap (λ ns. ns ++ others) (sym (laid-last ts t))
