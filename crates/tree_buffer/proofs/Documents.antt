-- Places of a document: children and next siblings.
use Rattle.std.proofs.Common.{◌≡◌, ℕ, zero, suc, ◌+◌, false, List, [], ◌∷◌, ◌++◌, Option, Some, None, refl, ap, sym, ◌∙◌, add-one}
use Rattle.std.specs.Prelude.{is_some, option_map}
use Rattle.mix_tree.specs.Forest.{Forest, none, tree, first_label, first_kids, after_first, from}
use Rattle.mix_tree.specs.Place.{trees_at, has_place, next_place}
use Rattle.mix_tree.proofs.Places.{trees_at-append}
use Rattle.tree_buffer.specs.Document.{has_given, has_next}

-- the trees from one index further on are those after the first from the index on
from-suc : (k : ℕ) (f : Forest) → from (suc k) f ≡ after_first (from k f)
from-suc zero f = refl
from-suc (suc k) f = from-suc k (after_first f)

-- the trees from the next index on are those after the first of those from an index on
pub from-more : (k : ℕ) (f : Forest) → from (k + 1) f ≡ after_first (from k f)
from-more k f = rw add-one (from-suc k f)

-- what stands at the child of a place at an index is the trees from that index on among the children of the tree there
pub trees_at-push : (f : Forest) (p : List ℕ) (k : ℕ) → trees_at f (p ++ k ∷ []) ≡ from k (first_kids (trees_at f p))
trees_at-push f p k = trees_at-append f p (k ∷ [])

-- the place next to a child's is that of the next child
pub next_place-push : (p : List ℕ) (k : ℕ) → next_place (p ++ k ∷ []) ≡ Some (p ++ (k + 1) ∷ [])
next_place-push [] k = refl
next_place-push (x ∷ []) k = refl
next_place-push (x ∷ y ∷ p) k = ap (option_map (λ q. x ∷ q)) (next_place-push (y ∷ p) k)

-- a child has a next sibling where there is a next child
pub has_next-push : (f : Forest) (p : List ℕ) (k : ℕ) → has_next f (p ++ k ∷ []) ≡ has_place f (p ++ (k + 1) ∷ [])
has_next-push f p k = ap (has_given f) (next_place-push p k)

-- a list that has no first tree is empty
pub no_tree : (f : Forest) → is_some (first_label f) ≡ false → f ≡ none
no_tree none e = refl
no_tree (tree label kids rest) e = cc

-- what stands at the next place of a place is what stands after the first tree there
pub trees_at-next : (f : Forest) (p q : List ℕ) → Some q ≡ next_place p → trees_at f q ≡ after_first (trees_at f p)
trees_at-next f [] q e = cc
trees_at-next f (k ∷ []) q e = let same : q ≡ (k + 1) ∷ [] = cc in ap (trees_at f) same ∙ from-more k (first_kids f)
trees_at-next f (k ∷ j ∷ p) q e = deeper (next_place (j ∷ p)) (trees_at-next (from k (first_kids f)) (j ∷ p)) refl e
  where
    deeper : (o : Option (List ℕ)) → ((r : List ℕ) → Some r ≡ next_place (j ∷ p) → trees_at (from k (first_kids f)) r ≡ after_first (trees_at (from k (first_kids f)) (j ∷ p)))
        → o ≡ next_place (j ∷ p) → Some q ≡ option_map (λ r. k ∷ r) o → trees_at f q ≡ after_first (trees_at f (k ∷ j ∷ p))
    deeper None below is e = cc
    deeper (Some r) below is e = let same : q ≡ k ∷ r = cc in ap (trees_at f) same ∙ below r is

-- each place but the empty one has a next one
some_next : (k : ℕ) (p : List ℕ) → (q : List ℕ) × (next_place (k ∷ p) ≡ Some q)
some_next k [] = ((k + 1) ∷ [], refl)
some_next k (j ∷ p) = let r = some_next j p in (k ∷ r.0, ap (option_map (λ q. k ∷ q)) r.1)

-- where a node has no next sibling, nothing stands after it
pub no_next : (f : Forest) (p : List ℕ) → after_first f ≡ none → has_next f p ≡ false → after_first (trees_at f p) ≡ none
no_next f [] alone e = alone
no_next f (k ∷ p) alone e =
    let q = some_next k p in
    sym (trees_at-next f (k ∷ p) q.0 (sym q.1)) ∙ no_tree (trees_at f q.0) (sym (ap (has_given f) q.1) ∙ e)
