-- Laws on places.
use Rattle.std.proofs.Common.{◌≡◌, ◌∙◌, ℕ, List, [], ◌∷◌, ◌++◌, Option, Some, None, refl, ap, sym, option_and_then, is_some, false}
use Rattle.mix_tree.specs.Forest.{Forest, none, tree, LabelledTree, alone, first_label, first_tree, first_kids, from}
use Rattle.mix_tree.specs.Place.{trees_at, has_place, tree_at, child_place}
use Rattle.mix_tree.proofs.Kids.{from_none}

-- nothing has no places below it
pub trees_at_none : (place : List ℕ) → trees_at none place ≡ none
trees_at_none [] = refl
trees_at_none (i ∷ place) = ap (λ f. trees_at f place) (from_none i) ∙ trees_at_none place

-- what stands at a place is that of the first tree, whatever is after it
pub tree_at_first : (f : Forest) (t : LabelledTree) (place : List ℕ) → Some t ≡ first_tree f → first_tree (trees_at f place) ≡ tree_at t place
tree_at_first none t place e = cc
tree_at_first (tree label kids rest) t [] e = sym e
tree_at_first (tree label kids rest) t (i ∷ place) e =
    ap (λ (o : Option LabelledTree). first_tree (trees_at (from i (kids_in o)) place)) (sym e)
  where
    kids_in : Option LabelledTree → Forest
    kids_in None = none
    kids_in (Some u) = u.kids

-- below a place that is not there, there is none
pub tree_at_nowhere : (f : Forest) (place : List ℕ) → None ≡ first_tree f → first_tree (trees_at f place) ≡ None
tree_at_nowhere none place e = ap first_tree (trees_at_none place)
tree_at_nowhere (tree label kids rest) place e = cc

-- what stands at a place below a tree is what stands at the place's rest, below the child at its first index
pub tree_at-step : (t : LabelledTree) (i : ℕ) (place : List ℕ) (kid : Option LabelledTree) → kid ≡ first_tree (from i t.kids)
    → tree_at t (i ∷ place) ≡ option_and_then (λ (u : LabelledTree). tree_at u place) kid
tree_at-step t i place None e = tree_at_nowhere (from i t.kids) place e
tree_at-step t i place (Some u) e = tree_at_first (from i t.kids) u place e

-- what stands at a place after a place is what stands at it from there
pub trees_at-append : (f : Forest) (place more : List ℕ) → trees_at f (place ++ more) ≡ trees_at (trees_at f place) more
trees_at-append f [] more = refl
trees_at-append f (i ∷ place) more = trees_at-append (from i (first_kids f)) place more

-- what stands at the place of the first child is the children of the tree there
pub trees_at-child : (f : Forest) (place : List ℕ) → trees_at f (child_place place) ≡ first_kids (trees_at f place)
trees_at-child f place = trees_at-append f place (0 ∷ [])

-- a child of the node at a place is a child of the tree there
pub has_place-below : (t u : LabelledTree) (place : List ℕ) (i : ℕ) → tree_at t place ≡ Some u → has_place (alone t) (place ++ i ∷ []) ≡ has_place (alone u) (i ∷ [])
has_place-below t u place i e =
    ap (λ f. is_some (first_label f)) (trees_at-append (alone t) place (i ∷ []))
    ∙ ap (λ f. is_some (first_label (from i f))) (kids_of (trees_at (alone t) place) e)
  where
    kids_in : Option LabelledTree → Forest
    kids_in None = none
    kids_in (Some v) = v.kids

    kids_of : (f : Forest) → first_tree f ≡ Some u → first_kids f ≡ u.kids
    kids_of none h = cc
    kids_of (tree label kids rest) h = ap kids_in h

-- below a place that is not there, there is no place
pub has_place-nowhere : (t : LabelledTree) (place : List ℕ) (i : ℕ) → tree_at t place ≡ None → has_place (alone t) (place ++ i ∷ []) ≡ false
has_place-nowhere t place i e =
    ap (λ f. is_some (first_label f)) (trees_at-append (alone t) place (i ∷ []))
    ∙ below_none (trees_at (alone t) place) e
  where
    below_none : (f : Forest) → first_tree f ≡ None → is_some (first_label (from i (first_kids f))) ≡ false
    below_none none h = ap (λ f. is_some (first_label f)) (from_none i)
    below_none (tree label kids rest) h = cc
