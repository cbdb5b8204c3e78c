-- The nodes below each node of a document lie right before it, and how many and how deep they are.
use Rattle.std.proofs.Common.{◌≡◌, ◌∙◌, ◌⊎◌, inl, inr, ℕ, zero, suc, ◌+◌, ◌-◌, ◌<◌, ◌≤◌, true, List, [], ◌∷◌, ◌++◌, length, length-append, ap, sym, arith, nat_lt}
use Rattle.std.proofs.lemmas.Bool.Decides.{nat_tests}
use Rattle.mix_base.proofs.Lists.{append_nil}
use Rattle.mix_tree.specs.Forest.{Forest, none, tree, LabelledTree, alone}
use Rattle.mix_tree.specs.Weight.{nodes_of}
use Rattle.document_store.specs.Laid.{LaidNode, laid, below, IsDocument}
use Rattle.document_store.specs.Between.{before, between}
use Rattle.document_store.specs.Shallow.{levels_of, levels, IsLow, IsNested}
use Rattle.document_store.proofs.Laying.{length-laid}
use Rattle.document_store.proofs.Between.{fits_none, between_none, between_some}
use Rattle.document_store.proofs.Reading.{read, parted}

-- what follows where a place lies before two others, between them, and after them, follows
by_side : {P : Type 0} (i a b : ℕ) → (i < a → P) → (a ≤ i → i < b → P) → (b ≤ i → P) → P
by_side {P = P} i a b before_both amid after_both = chosen (sides i a b)
  where
    sides : (i a b : ℕ) → (i < a) ⊎ (((a ≤ i) × (i < b)) ⊎ (b ≤ i))
    sides i a b = grind arith

    chosen : (i < a) ⊎ (((a ≤ i) × (i < b)) ⊎ (b ≤ i)) → P
    chosen (inl h) = before_both h
    chosen (inr (inl h)) = amid h.0 h.1
    chosen (inr (inr h)) = after_both h

-- the nodes of trees lie, with those below them, after where the trees begin
lies_within : (f : Forest) (xs ys ns : List LaidNode) (j : ℕ) → ns ≡ xs ++ (laid f ++ ys) → length xs ≤ j → j < length xs + nodes_of f → length xs + below ns j ≤ j
lies_within none xs ys ns j e begun ends = absurd (omega arith)
lies_within (tree label kids rest) xs ys ns j e begun ends =
    let n : LaidNode = record { label = label; below = nodes_of kids } in
    let parts = parted label kids rest xs ys ns e in
    by_side j (length xs + nodes_of rest) (length xs + nodes_of rest + nodes_of kids)
    (λ h. lies_within rest xs (laid kids ++ (n ∷ ys)) ns j parts.rest_lie begun h)
    (λ h k. let more = lies_within kids (xs ++ laid rest) (n ∷ ys) ns j parts.kids_lie (omega (arith, parts.kids_from, h)) (omega (arith, parts.kids_from, k)) in
    omega (arith, parts.kids_from, more))
    (λ h. let here : j ≡ length xs + nodes_of rest + nodes_of kids = omega arith in
    let size : below ns j ≡ nodes_of kids = ap (below ns) here ∙ ap (λ (m : LaidNode). m.below) parts.root in
    omega (arith, here, size))

-- of two nodes of trees one of which is below the other, so are the nodes below it
nested_in : (f : Forest) (xs ys ns : List LaidNode) (i j : ℕ) → ns ≡ xs ++ (laid f ++ ys) → length xs ≤ i → i < length xs + nodes_of f → before ns i ≤ j → j < i → before ns i + below ns j ≤ j
nested_in none xs ys ns i j e begun ends b k = absurd (omega arith)
nested_in (tree label kids rest) xs ys ns i j e begun ends b k =
    let n : LaidNode = record { label = label; below = nodes_of kids } in
    let parts = parted label kids rest xs ys ns e in
    by_side i (length xs + nodes_of rest) (length xs + nodes_of rest + nodes_of kids)
    (λ h. nested_in rest xs (laid kids ++ (n ∷ ys)) ns i j parts.rest_lie begun h b k)
    (λ h l. nested_in kids (xs ++ laid rest) (n ∷ ys) ns i j parts.kids_lie (omega (arith, parts.kids_from, h)) (omega (arith, parts.kids_from, l)) b k)
    (λ h. let here : i ≡ length xs + nodes_of rest + nodes_of kids = omega arith in
    let size : below ns i ≡ nodes_of kids = ap (below ns) here ∙ ap (λ (m : LaidNode). m.below) parts.root in
    let start : before ns i ≡ length (xs ++ laid rest) = omega (arith, here, size, parts.kids_from) in
    let more = lies_within kids (xs ++ laid rest) (n ∷ ys) ns j parts.kids_lie (omega (arith, start, b)) (omega (arith, k, here, parts.kids_from)) in
    omega (arith, start, more))

-- the trees below a node of trees have fewer levels than those
low_in : (f : Forest) (xs ys ns : List LaidNode) (i : ℕ) → ns ≡ xs ++ (laid f ++ ys) → length xs ≤ i → i < length xs + nodes_of f → levels_of (between ns (before ns i) i) < levels_of f
low_in none xs ys ns i e begun ends = absurd (omega arith)
low_in (tree label kids rest) xs ys ns i e begun ends =
    let n : LaidNode = record { label = label; below = nodes_of kids } in
    let parts = parted label kids rest xs ys ns e in
    by_side i (length xs + nodes_of rest) (length xs + nodes_of rest + nodes_of kids)
    (λ h. let more = low_in rest xs (laid kids ++ (n ∷ ys)) ns i parts.rest_lie begun h in omega (arith, more))
    (λ h l. let more = low_in kids (xs ++ laid rest) (n ∷ ys) ns i parts.kids_lie (omega (arith, parts.kids_from, h)) (omega (arith, parts.kids_from, l)) in omega (arith, more))
    (λ h. let here : i ≡ length xs + nodes_of rest + nodes_of kids = omega arith in
    let size : below ns i ≡ nodes_of kids = ap (below ns) here ∙ ap (λ (m : LaidNode). m.below) parts.root in
    let same = read kids (xs ++ laid rest) (n ∷ ys) ns (before ns i) i parts.kids_lie (omega (arith, here, size, parts.kids_from)) (omega (arith, here, parts.kids_from)) in
    omega (arith, ap levels_of same))

-- in a document of a tree of at most 200 levels the trees below each node but the document node have fewer
pub low : (ns : List LaidNode) (t : LabelledTree) → IsDocument ns t → levels t ≤ 200 → IsLow ns
low ns t e few = λ i h.
    let d : LaidNode = record { label = []; below = nodes_of (alone t) } in
    let long : length ns ≡ nodes_of (alone t) + 1 = omega (arith, ap length e, length-append (laid (alone t)) (d ∷ []), length-laid (alone t)) in
    let more = low_in (alone t) [] (d ∷ []) ns i e (omega arith) (omega (arith, h, long)) in
    omega (arith, more, few)

-- a document's nodes are nested
pub nested : (ns : List LaidNode) (t : LabelledTree) → IsDocument ns t → IsNested ns
nested ns t e = λ i j h b k.
    let all = alone (record { label = []; kids = alone t }) in
    let long : length ns ≡ nodes_of (alone (record { label = []; kids = alone t })) = omega (arith, ap length e, length-laid all) in
    nested_in all [] [] ns i j (e ∙ sym (append_nil (laid all))) (omega arith) (omega (arith, h, long)) b k

-- a smaller number is tested to be smaller
fit : (a d : ℕ) → a < d → nat_lt a d ≡ true
fit a d p = grind (arith, nat_tests)

-- between where the children of a node begin and a place among the nodes below it there lie trees of all nodes there
pub nodes_between : (ns : List LaidNode) (most i to : ℕ) → IsNested ns → i < length ns → before ns i ≤ to → to ≤ i → to ≤ most → nodes_of (between ns (before ns i) to) + before ns i ≡ to
nodes_between ns zero i to n h b k m = omega (arith, ap nodes_of (between_none ns (before ns i) to (fits_none ns (before ns i) to (omega arith))))
nodes_between ns (suc most) i to n h b k m =
    by_side to (before ns i) (before ns i + 1)
    (λ p. absurd (omega arith))
    (λ p q. omega (arith, ap nodes_of (between_none ns (before ns i) to (fits_none ns (before ns i) to (omega arith)))))
    (λ p. let inner = n i (to - 1) h (omega arith) (omega arith) in
    let all = between_some ns (before ns i) to (fit (below ns (to - 1)) (to - before ns i) (omega (arith, inner))) in
    let kids = nodes_between ns most (to - 1) (to - 1) n (omega arith) (omega arith) (omega arith) (omega arith) in
    let others = nodes_between ns most i (before ns (to - 1)) n h (omega (arith, inner)) (omega arith) (omega arith) in
    omega (arith, ap nodes_of all, kids, others, inner))

-- a document has nodes
pub document_some : (ns : List LaidNode) (t : LabelledTree) → IsDocument ns t → 0 < length ns
document_some ns t e = let d : LaidNode = record { label = []; below = nodes_of (alone t) } in omega (arith, ap length e, length-append (laid (alone t)) (d ∷ []))
