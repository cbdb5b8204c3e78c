-- Lists of trees with their tolls and without, and the trees at places.
use Rattle.std.proofs.Common.{◌≡◌, ℕ, zero, suc, ◌+◌, false, List, [], ◌∷◌, Option, Some, None, refl, ◌∙◌, sym, ap, add-one}
use Rattle.std.specs.Prelude.{is_some, option_map}
use Rattle.mix_tree.specs.Forest.{Forest, none, tree, LabelledTree, alone, first_tree, first_label, first_kids, after_first, from}
use Rattle.mix_tree.specs.Place.{trees_at, has_place, next_place}
use Rattle.plan_core.specs.Tolled.{Tolled, ends, item, trees_below, trees_after, plain}

-- WITHOUT TOLLS

-- the trees below the first without their tolls are those below the first of the trees without theirs
pub plain_below : (f : Tolled) → plain (trees_below f) ≡ first_kids (plain f)
plain_below (ends t) = refl
plain_below (item t x d r) = refl

-- the trees after the first without their tolls are those after the first of the trees without theirs
pub plain_after : (f : Tolled) → plain (trees_after f) ≡ after_first (plain f)
plain_after (ends t) = refl
plain_after (item t x d r) = refl

-- PLACES

-- the trees from an index on among those after the first are those after the first from that index on
after_from : (k : ℕ) (f : Forest) → from k (after_first f) ≡ after_first (from k f)
after_from zero f = refl
after_from (suc k) f = after_from k (after_first f)

-- the trees at the next place of a place are those after the first at the place
pub at_next : (f : Forest) (p q : List ℕ) → next_place p ≡ Some q → trees_at f q ≡ after_first (trees_at f p)
at_next f [] q e = cc
at_next f (i ∷ []) q e =
    let d : q ≡ suc i ∷ [] = rw add-one at (let z : q ≡ (i + 1) ∷ [] = cc in z) in
    rw d (after_from i (first_kids f))
at_next f (i ∷ j ∷ p) q e = deeper (next_place (j ∷ p)) (λ r z. at_next (from i (first_kids f)) (j ∷ p) r z) refl e
  where
    deeper : (o : Option (List ℕ)) → ((r : List ℕ) → next_place (j ∷ p) ≡ Some r → trees_at (from i (first_kids f)) r ≡ after_first (trees_at f (i ∷ j ∷ p)))
        → next_place (j ∷ p) ≡ o → option_map (λ r. i ∷ r) o ≡ Some q → trees_at f q ≡ after_first (trees_at f (i ∷ j ∷ p))
    deeper None h z d = cc
    deeper (Some r) h z d = let y : q ≡ i ∷ r = cc in rw y (h r z)

-- a place that isn't the root's has a next one
never_none : (c : ℕ) (r : List ℕ) → next_place (c ∷ r) ≡ None → ⊥
never_none c [] e = absurd cc
never_none c (d ∷ r) e = elim (next_place (d ∷ r)) as (λ o. next_place (d ∷ r) ≡ o → option_map (λ s. c ∷ s) o ≡ None → ⊥) [ None ↦ λ u v. never_none d r u | Some s ↦ λ u v. cc ] refl e

-- after the tree at a place that has no next one, in a tree alone, there is none
pub none_next : (t : LabelledTree) (p : List ℕ) → next_place p ≡ None → after_first (trees_at (alone t) p) ≡ none
none_next t [] e = refl
none_next t (c ∷ r) e = absurd (never_none c r e)

-- where there is no such place, there are no trees at it
pub nowhere : (f : Forest) (p : List ℕ) → has_place f p ≡ false → trees_at f p ≡ none
nowhere f p h = bare (trees_at f p) h
  where
    bare : (g : Forest) → is_some (first_label g) ≡ false → g ≡ none
    bare none e = refl
    bare (tree x d r) e = cc

-- a first tree by its label, with what is below and after it, is the list of trees without tolls
pub whole_tree : (f : Tolled) (u : LabelledTree) (label : List ℕ) → first_tree (plain f) ≡ Some u → label ≡ u.label → tree label (plain (trees_below f)) (plain (trees_after f)) ≡ plain f
whole_tree (ends t) u label e h = cc
whole_tree (item t x d r) u label e h =
    let i : x ≡ u.label = ap (λ (z : Option LabelledTree). label_or z) e in
    ap (λ (l : List ℕ). tree l (plain d) (plain r)) (h ∙ sym i)
  where
    label_or : Option LabelledTree → List ℕ
    label_or None = []
    label_or (Some z) = z.label
