-- What is laid is read again.
use Rattle.std.proofs.Common.{◌≡◌, ◌∙◌, ℕ, ◌+◌, ◌-◌, ◌<◌, true, nat_lt, List, [], ◌∷◌, ◌++◌, length, length-append, append_assoc, ap, sym, arith}
use Rattle.std.proofs.lemmas.Bool.Decides.{nat_tests}
use Rattle.std.proofs.Math.Seq.{get_or-append_seam}
use Rattle.mix_tree.specs.Forest.{Forest, none, tree, LabelledTree, forest_of, alone, followed}
use Rattle.mix_tree.specs.Weight.{nodes_of}
use Rattle.mix_tree.proofs.Forests.{forest_of-append, followed_assoc}
use Rattle.document_store.specs.Laid.{LaidNode, laid, node_at, below, IsDocument}
use Rattle.document_store.specs.Between.{before, fits, between}
use Rattle.document_store.proofs.Laying.{length-laid}
use Rattle.document_store.proofs.Between.{fits_none, between_none, between_first}

-- a smaller number is tested to be smaller
fit : (b d : ℕ) → b < d → nat_lt b d ≡ true
fit b d h = grind (arith, nat_tests)

-- where the nodes of a first tree and of those after it lie among others: its root, its children, and the trees after it
pub record Parted (xs ys ns : List LaidNode) (label : List ℕ) (kids rest : Forest) : Type 0 where
  pub root : node_at ns (length xs + nodes_of rest + nodes_of kids) ≡ record { label = label; below = nodes_of kids }
  pub kids_lie : ns ≡ (xs ++ laid rest) ++ (laid kids ++ (record { label = label; below = nodes_of kids } ∷ ys))
  pub kids_from : length (xs ++ laid rest) ≡ length xs + nodes_of rest
  pub rest_lie : ns ≡ xs ++ (laid rest ++ (laid kids ++ (record { label = label; below = nodes_of kids } ∷ ys)))

-- the nodes of trees that lie among others are those of the trees after the first, then of its children, then its root
pub parted : (label : List ℕ) (kids rest : Forest) (xs ys ns : List LaidNode) → ns ≡ xs ++ (laid (tree label kids rest) ++ ys) → Parted xs ys ns label kids rest
parted label kids rest xs ys ns e =
    let n : LaidNode = record { label = label; below = nodes_of kids } in
    let middle : ns ≡ xs ++ (laid rest ++ (laid kids ++ (n ∷ ys))) =
    e ∙ ap (λ r. xs ++ r) (append_assoc (laid rest) (laid kids ++ n ∷ []) ys ∙ ap (λ r. laid rest ++ r) (append_assoc (laid kids) (n ∷ []) ys)) in
    let last : ns ≡ (xs ++ (laid rest ++ laid kids)) ++ (n ∷ ys) =
    middle ∙ ap (λ r. xs ++ r) (sym (append_assoc (laid rest) (laid kids) (n ∷ ys))) ∙ sym (append_assoc xs (laid rest ++ laid kids) (n ∷ ys)) in
    let long : length (xs ++ (laid rest ++ laid kids)) ≡ length xs + nodes_of rest + nodes_of kids =
    omega (arith, length-append xs (laid rest ++ laid kids), length-append (laid rest) (laid kids), length-laid rest, length-laid kids) in
    record {
      root =
          ap (λ j. node_at ns j) (sym long) ∙ ap (λ ms. node_at ms (length (xs ++ (laid rest ++ laid kids)))) last
          ∙ get_or-append_seam (xs ++ (laid rest ++ laid kids)) n ys (record { label = []; below = 0 });
      kids_lie = middle ∙ sym (append_assoc xs (laid rest) (laid kids ++ (n ∷ ys)));
      kids_from = omega (arith, length-append xs (laid rest), length-laid rest);
      rest_lie = middle;
    }

-- trees are read where they were laid
pub read : (f : Forest) (xs ys ns : List LaidNode) (from to : ℕ) → ns ≡ xs ++ (laid f ++ ys) → from ≡ length xs → to ≡ length xs + nodes_of f → between ns from to ≡ f
read none xs ys ns from to e a b = between_none ns from to (fits_none ns from to (omega arith))
read (tree label kids rest) xs ys ns from to e a b =
    let n : LaidNode = record { label = label; below = nodes_of kids } in
    let i = length xs + nodes_of rest + nodes_of kids in
    let parts = parted label kids rest xs ys ns e in
    let here : node_at ns (length xs + nodes_of rest + nodes_of kids) ≡ n = parts.root in
    let size : below ns (length xs + nodes_of rest + nodes_of kids) ≡ nodes_of kids = ap (λ (m : LaidNode). m.below) here in
    let next : i + 1 ≡ to = omega arith in
    let at : to - 1 ≡ length xs + nodes_of rest + nodes_of kids = omega arith in
    let last_size : below ns (to - 1) ≡ nodes_of kids = ap (below ns) at ∙ size in
    let fits_here : fits ns from to ≡ true = fit (below ns (to - 1)) (to - from) (omega (arith, last_size)) in
    let start : before ns (length xs + nodes_of rest + nodes_of kids) ≡ length xs + nodes_of rest = omega (arith, size) in
    let kids_are = read kids (xs ++ laid rest) (n ∷ ys) ns (before ns i) i parts.kids_lie (omega (arith, start, parts.kids_from)) (omega (arith, parts.kids_from)) in
    let rest_is = read rest xs (laid kids ++ (n ∷ ys)) ns from (before ns i) parts.rest_lie a start in
    between_first ns from to i fits_here next
    ∙ ap (λ (m : LaidNode). tree m.label (between ns (before ns i) i) (between ns from (before ns i))) here
    ∙ ap (λ f. tree label f (between ns from (before ns i))) kids_are
    ∙ ap (tree label kids) rest_is

-- a document is read where it was laid
pub read_root : (ns : List LaidNode) (root : LabelledTree) → IsDocument ns root → between ns (before ns (length ns - 1)) (length ns - 1) ≡ alone root
read_root ns root e =
    let d : LaidNode = record { label = []; below = nodes_of (alone root) } in
    let long : length ns ≡ nodes_of (alone root) + 1 = omega (arith, ap length e, length-append (laid (alone root)) (d ∷ []), length-laid (alone root)) in
    let at : length ns - 1 ≡ length (laid (alone root)) = omega (arith, long, length-laid (alone root)) in
    let here : node_at ns (length ns - 1) ≡ d =
    ap (λ j. node_at ns j) at ∙ ap (λ ms. node_at ms (length (laid (alone root)))) e ∙ get_or-append_seam (laid (alone root)) d [] (record { label = []; below = 0 }) in
    let size : below ns (length ns - 1) ≡ nodes_of (alone root) = ap (λ (m : LaidNode). m.below) here in
    read (alone root) [] (d ∷ []) ns (before ns (length ns - 1)) (length ns - 1) e (omega (arith, long, size)) (omega (arith, long))

-- the root of a document, which lies right before the document node
pub record IsRoot (ns : List LaidNode) (i : ℕ) (t : LabelledTree) : Type 0 where
  pub inside : i + 2 ≡ length ns
  pub label : (node_at ns i).label ≡ t.label
  pub kids : between ns (before ns i) i ≡ t.kids

-- the node right before the document node is the root of the document
pub root_at : (ns : List LaidNode) (t : LabelledTree) (i : ℕ) → IsDocument ns t → i ≡ length ns - 2 → IsRoot ns i t
root_at ns t i e p =
    let n : LaidNode = record { label = t.label; below = nodes_of t.kids } in
    let d : LaidNode = record { label = []; below = nodes_of (alone t) } in
    let parts : ns ≡ laid t.kids ++ (n ∷ d ∷ []) = e ∙ append_assoc (laid t.kids) (n ∷ []) (d ∷ []) in
    let long : length ns ≡ nodes_of t.kids + 2 = omega (arith, ap length parts, length-append (laid t.kids) (n ∷ d ∷ []), length-laid t.kids) in
    let at : i ≡ length (laid t.kids) = omega (arith, p, long, length-laid t.kids) in
    let here : node_at ns i ≡ n =
    ap (node_at ns) at ∙ ap (λ ms. node_at ms (length (laid t.kids))) parts ∙ get_or-append_seam (laid t.kids) n (d ∷ []) (record { label = []; below = 0 }) in
    let size : below ns i ≡ nodes_of t.kids = ap (λ (m : LaidNode). m.below) here in
    record {
      inside = omega (arith, p, long);
      label = ap (λ (m : LaidNode). m.label) here;
      kids = read t.kids [] (n ∷ d ∷ []) ns (before ns i) i parts (omega (arith, p, long, size)) (omega (arith, p, long));
    }

-- a tree of the same label and children is the same
pub same_tree : (u t : LabelledTree) → u.label ≡ t.label → u.kids ≡ t.kids → u ≡ t
same_tree u t l k =
    let made : List ℕ → Forest → LabelledTree = λ m f. record { label = m; kids = f } in
    ap (λ m. made m u.kids) l ∙ ap (made t.label) k

-- trees so far, with one more that is read between two positions, and those after it, are the trees so far with those between
pub tree_more : (ns : List LaidNode) (items more : List LabelledTree) (t : LabelledTree) (from to i : ℕ) → fits ns from to ≡ true → i + 1 ≡ to → more ≡ items ++ t ∷ []
    → t.label ≡ (node_at ns i).label → t.kids ≡ between ns (before ns i) i
    → followed (forest_of more) (between ns from (before ns i)) ≡ followed (forest_of items) (between ns from to)
tree_more ns items more t from to i h e m l k =
    let rest = between ns from (before ns i) in
    ap (λ ts. followed (forest_of ts) rest) m ∙ ap (λ f. followed f rest) (forest_of-append items (t ∷ []))
    ∙ followed_assoc (forest_of items) (alone t) rest
    ∙ ap (λ n. followed (forest_of items) (tree n t.kids (between ns from (before ns i)))) l
    ∙ ap (λ f. followed (forest_of items) (tree (node_at ns i).label f (between ns from (before ns i)))) k
    ∙ ap (followed (forest_of items)) (sym (between_first ns from to i h e))
