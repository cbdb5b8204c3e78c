-- What stands in source documents, as slices of trees.
use Rattle.std.proofs.Common.{◌≡◌, ◌<◌, ◌≤◌, ◌+◌, ◌-◌, ◌∙◌, ℕ, zero, suc, List, [], ◌∷◌, ◌++◌, Option, Some, None, refl, sym, ap, arith, length, take, drop, get_or, add-one, drop-cons}
use Rattle.std.specs.Prelude.{slice_range}
use Rattle.mix_tree.specs.Forest.{Forest, none, tree, LabelledTree, forest_of, first_tree, first_kids, from}
use Rattle.mix_tree.specs.Place.{trees_at}
use Rattle.mix_tree.specs.Nodes.{label_of_first}
use Rattle.mix_tree.proofs.Kids.{from_past, first_tree-get}
use Rattle.mix_tree.proofs.Places.{trees_at_none, trees_at-append}
use Rattle.mix_tree.specs.Weight.{nodes_of}
use Rattle.plain_rule.specs.Documents.{documents_of}

-- a source's document is the one tree of its number
pub document_there : (docs : List LabelledTree) (s : ℕ) → s < length docs → forest_of (slice_range docs s (s + 1)) ≡ documents_of docs s
document_there [] s h = absurd (omega arith)
document_there (t ∷ docs) zero h = refl
document_there (t ∷ docs) (suc s) h =
    let e : suc s + 1 - suc s ≡ s + 1 - s = omega arith in
    ap (λ n. forest_of (take n (drop s docs))) e ∙ document_there docs s (omega arith)

-- a source without a tree has no document
pub document_missing : (docs : List LabelledTree) (s : ℕ) → length docs ≤ s → documents_of docs s ≡ none
document_missing [] s h = refl
document_missing (t ∷ docs) zero h = absurd (omega arith)
document_missing (t ∷ docs) (suc s) h = document_missing docs s (omega arith)

-- the steps of a place from an index on are the one there and those after it
next_step : (place : List ℕ) (i : ℕ) → i < length place → drop i place ≡ get_or place i 0 ∷ drop (i + 1) place
next_step place i h = rw (add-one, drop-cons place i 0) refl

-- below a child that is not there, no trees stand
pub step_missing : (kids : List LabelledTree) (place : List ℕ) (i : ℕ) → i < length place → length kids ≤ get_or place i 0
    → first_kids (trees_at (tree [] (forest_of kids) none) (drop i place)) ≡ none
step_missing kids place i h k =
    ap (λ p. first_kids (trees_at (tree [] (forest_of kids) none) p)) (next_step place i h)
    ∙ ap (λ f. first_kids (trees_at f (drop (i + 1) place))) (from_past kids (get_or place i 0) k)
    ∙ ap first_kids (trees_at_none (drop (i + 1) place))

-- below the first of some trees stands what stands below its children
below_first : (f : Forest) (label : List ℕ) (place : List ℕ) (t : LabelledTree) → Some t ≡ first_tree f → first_kids (trees_at f place) ≡ first_kids (trees_at (tree label t.kids none) place)
below_first none label place t e = cc
below_first (tree l kids rest) label [] t e = ap kids_in (sym e)
  where
    kids_in : Option LabelledTree → Forest
    kids_in None = none
    kids_in (Some u) = u.kids
below_first (tree l kids rest) label (i ∷ place) t e = ap (λ o. first_kids (trees_at (from i (kids_in o)) place)) (sym e)
  where
    kids_in : Option LabelledTree → Forest
    kids_in None = none
    kids_in (Some u) = u.kids

-- a step to a child leads to what stands below that child
pub step_there : (kids : List LabelledTree) (place : List ℕ) (i : ℕ) (t : LabelledTree) → i < length place → get_or place i 0 < length kids → t ≡ get_or kids (get_or place i 0) t
    → first_kids (trees_at (tree [] (forest_of kids) none) (drop i place)) ≡ first_kids (trees_at (tree [] t.kids none) (drop (i + 1) place))
step_there kids place i t h k e =
    ap (λ p. first_kids (trees_at (tree [] (forest_of kids) none) p)) (next_step place i h)
    ∙ below_first (from (get_or place i 0) (forest_of kids)) [] (drop (i + 1) place) t (first_tree-get kids (get_or place i 0) (Some t) (k, e))

-- the label of the first tree, where there is one, is the label of the trees' first
pub label_of_some : (f : Forest) (t : LabelledTree) → Some t ≡ first_tree f → t.label ≡ label_of_first f
label_of_some none t e = cc
label_of_some (tree l kids rest) t e = ap label_in e
  where
    label_in : Option LabelledTree → List ℕ
    label_in None = []
    label_in (Some u) = u.label

-- the label at a place is that of a child of the node above it
pub label_above : (f : Forest) (place above : List ℕ) (last : ℕ) → place ≡ above ++ last ∷ [] → label_of_first (trees_at f place) ≡ label_of_first (from last (first_kids (trees_at f above)))
label_above f place above last e = ap (λ p. label_of_first (trees_at f p)) e ∙ ap label_of_first (trees_at-append f above (last ∷ []))

-- a tree of a list has fewer nodes than all
pub fewer_nodes : (ts : List LabelledTree) (i : ℕ) (t : LabelledTree) → i < length ts → t ≡ get_or ts i t → nodes_of t.kids < nodes_of (forest_of ts)
fewer_nodes [] i t h e = absurd (omega arith)
fewer_nodes (u ∷ ts) zero t h e = let k : nodes_of t.kids ≡ nodes_of u.kids = ap (λ (v : LabelledTree). nodes_of v.kids) e in omega (arith, k)
fewer_nodes (u ∷ ts) (suc i) t h e = let k = fewer_nodes ts i t (omega arith) e in omega (arith, k)
