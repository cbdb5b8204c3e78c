-- Sorted lists: what is found in them, and a list of positions as a position holds it.
use mathlib.Core.Former.{Count}
use Rattle.std.proofs.Common.{◌≡◌, ◌<◌, ◌≤◌, ℕ, zero, suc, List, [], ◌∷◌, ◌++◌, Option, Some, None, map, length, drop, get_or, slice_get, refl, ◌∙◌, sym, ap, subst, arith}
use Rattle.std.specs.Prelude.{MatchOption, Bool}
use Rattle.std.specs.List.{AllByRecursion}
use Rattle.std.specs.declared.alloc.Global.{Global}
use Rattle.std.specs.declared.rc.Rc.{Rc}
use Rattle.std.specs.declared.vec.Vec.{Vec}
use Rattle.std.specs.Borrow.{Bor}
use Rattle.std.specs.Slice.{IsItemAt}
use Rattle.std.proofs.lemmas.Option.{slice_get_past, slice_get_read}
use Rattle.mix_base.specs.Events.{bind, nothing, finds, found}
use Rattle.plan_core.specs.Plans.{Operator}
use Rattle.plan_core.specs.Shapes.{Shape, shape_at}
use Rattle.plan_core.specs.TolledRows.{TolledRow}
use Rattle.tree_buffer.specs.declared.spot.Spot.{Spot}
use Rattle.lazy_binding.specs.declared.position.Position.{Position, Start, Sorted', roll-Position, roll-out-Position, Row_of-Position-Sorted-0-1 as Row, end_of-Position-Sorted-0-1 as no_more, more_of-Position-Sorted-0-1 as one_more, items-the_row-Position-Sorted-0-1 as items, items_hidden-the_row-Position-Sorted-0-1-0 as items_are}
use Rattle.lazy_binding.specs.declared.position.Position.TheVariants.{Sorted, rolls-Sorted, outs-Sorted'}
use Rattle.lazy_binding.specs.World.{World}
use Rattle.lazy_binding.specs.Cursors.{binding, count, rows_in, AreIn}
use Rattle.lazy_binding.specs.SortedLists.{sorts, ArePositions, bindings_at}
use Rattle.lazy_binding.specs.Reading.{nth, below}
use Rattle.lazy_binding.specs.Spots.{spot_at, spot_in, spot_nth}

-- a property of all elements of two lists is one of both lists one after the other
pub all_both : {X : Type 0} (P : X → Type 0) (xs ys : List X) → AllByRecursion P xs → AllByRecursion P ys → AllByRecursion P (xs ++ ys)
all_both P [] ys a b = b
all_both P (x ∷ xs) ys a b = (a.0, all_both P xs ys a.1 b)

-- of bindings from an index on, the one at the index is found first, before those after it
pub found_at : (rows : List TolledRow) (k : ℕ) → k < length rows → found (map bind (drop k rows)) ≡ finds (get_or rows k []) (map bind (drop (suc k) rows))
found_at [] k l = absurd (omega (arith, l))
found_at (x ∷ rows) zero l = refl
found_at (x ∷ rows) (suc k) l = found_at rows k (omega (arith, l))

-- no binding is found after the end of a list of bindings
pub found_past : (rows : List TolledRow) (k : ℕ) → length rows ≤ k → found (map bind (drop k rows)) ≡ nothing
found_past [] zero l = refl
found_past [] (suc k) l = refl
found_past (x ∷ rows) zero l = absurd (omega (arith, l))
found_past (x ∷ rows) (suc k) l = found_past rows k (omega (arith, l))

-- THE LIST AS A POSITION HOLDS IT, MEMBER BY MEMBER

-- the sorted list of a position
abbrev list_of : Position → (m : Count) × Row m
list_of (Sorted' q m row k) = (_, row)
list_of c = (_, no_more)

-- each position in a sorted list is one that the code can make
pub as_made : (q : _) (m : _) (row : Row _) (k : ℕ) → (list : Rc (Vec (Rc Position Global) Global) Global) × (Sorted list k ≡ Sorted' q m row k)
unfolding roll-Position denote.Hole.Carrier.roll
as_made q m row k = (_, rolls-Sorted _ _ ∙ ap roll-Position (sym (outs-Sorted' q m row k)) ∙ roll-out-Position (Sorted' q m row k))

-- a sorted list has as many positions as members
count_items : (m : _) (row : Row m) → count row ≡ length (items m row)
count_items m no_more = refl
count_items m (one_more q c rest) = ap suc (count_items _ rest)

-- the member of a sorted list at an index is the position there
nth_items : (m : _) (row : Row m) (k : ℕ) (p : Rc Position Global) → slice_get (items m row) k ≡ Some p → nth row k ≡ p.value
nth_items m no_more k p h = cc
nth_items m (one_more q c rest) zero p h = ap (λ (z : Option (Rc Position Global)). elim z as (λ _. Position) [ Some y ↦ y.value | None ↦ c ]) h
nth_items m (one_more q c rest) (suc k) p h = nth_items _ rest k p h

-- after the end of a sorted list there is no member
nth_past : (m : _) (row : Row m) (k : ℕ) → slice_get (items m row) k ≡ None → nth row k ≡ Start
nth_past m no_more k h = refl
nth_past m (one_more q c rest) zero h = cc
nth_past m (one_more q c rest) (suc k) h = nth_past _ rest k h

module _ (ops : List Operator) (i v : ℕ) where
  -- the spot of a variable at an index of a sorted list is that at the position there
  spot_items : (m : _) (row : Row m) (k : ℕ) (p : Rc Position Global) → slice_get (items m row) k ≡ Some p → spot_nth ops i row k v ≡ spot_in ops i p.value v
  spot_items m no_more k p h = cc
  spot_items m (one_more q c rest) zero p h = ap (λ (z : Option (Rc Position Global)). elim z as (λ _. Option (ℕ × Spot)) [ Some y ↦ spot_in ops i y.value v | None ↦ None ]) h
  spot_items m (one_more q c rest) (suc k) p h = spot_items _ rest k p h

  -- after the end of a sorted list a variable has no spot
  spot_past : (m : _) (row : Row m) (k : ℕ) → slice_get (items m row) k ≡ None → spot_nth ops i row k v ≡ None
  spot_past m no_more k h = refl
  spot_past m (one_more q c rest) zero h = cc
  spot_past m (one_more q c rest) (suc k) h = spot_past _ rest k h

module _ (w : World) (ops : List Operator) (i : ℕ) where
  -- the bindings of a sorted list are those at its positions
  rows_items : (m : _) (row : Row m) → rows_in w ops i row ≡ bindings_at w ops i (items m row)
  rows_items m no_more = refl
  rows_items m (one_more q c rest) = ap (λ (rows : List TolledRow). binding w ops i c ∷ rows) (rows_items _ rest)

  -- a sorted list is one of positions of an operator where its members are
  in_items : (m : _) (row : Row m) → ArePositions w ops i (items m row) → AreIn w ops i row
  in_items m no_more h = tt
  in_items m (one_more q c rest) h = (h.0.0, h.0.1, in_items _ rest h.1)

  -- a sorted list whose positions are ones of an operator has members that are
  items_in : (m : _) (row : Row m) → AreIn w ops i row → ArePositions w ops i (items m row)
  items_in m no_more h = tt
  items_in m (one_more q c rest) h = ((h.0, h.1), items_in _ rest h.2)

module _ (list : Rc (Vec (Rc Position Global) Global) Global) (k : ℕ) where
  -- a list that the code made has as many positions as members
  pub list_count : count (list_of (Sorted list k)).1 ≡ length list.value.items
  list_count = let l = list_of (Sorted list k) in count_items l.0 l.1 ∙ ap length (items_are list.value)

  -- the position under one that stands in a sorted list is the member at its index
  pub list_below : (p : Rc Position Global) → slice_get list.value.items k ≡ Some p → below (Sorted list k) ≡ p.value
  list_below p h = let l = list_of (Sorted list k) in nth_items l.0 l.1 k p (ap (λ (xs : List (Rc Position Global)). slice_get xs k) (items_are list.value) ∙ h)

  -- past the end of a sorted list stands the position before all events
  pub list_past : slice_get list.value.items k ≡ None → below (Sorted list k) ≡ Start
  list_past h = let l = list_of (Sorted list k) in nth_past l.0 l.1 k (ap (λ (xs : List (Rc Position Global)). slice_get xs k) (items_are list.value) ∙ h)

  -- the spot of a variable at the index of a sorted list that the code made is that at the member there
  pub list_spot : (ops : List Operator) (i v : ℕ) (p : Rc Position Global) → slice_get list.value.items k ≡ Some p → spot_nth ops i (list_of (Sorted list k)).1 k v ≡ spot_in ops i p.value v
  list_spot ops i v p h = let l = list_of (Sorted list k) in spot_items ops i v l.0 l.1 k p (ap (λ (xs : List (Rc Position Global)). slice_get xs k) (items_are list.value) ∙ h)

  -- past the end of a sorted list that the code made, a variable has no spot
  pub list_no_spot : (ops : List Operator) (i v : ℕ) → slice_get list.value.items k ≡ None → spot_nth ops i (list_of (Sorted list k)).1 k v ≡ None
  list_no_spot ops i v h = let l = list_of (Sorted list k) in spot_past ops i v l.0 l.1 k (ap (λ (xs : List (Rc Position Global)). slice_get xs k) (items_are list.value) ∙ h)

  module _ (w : World) (ops : List Operator) (i : ℕ) where
    -- the bindings of a sorted list are those at which its positions stand
    pub list_rows : rows_in w ops i (list_of (Sorted list k)).1 ≡ bindings_at w ops i list.value.items
    list_rows = let l = list_of (Sorted list k) in rows_items w ops i l.0 l.1 ∙ ap (bindings_at w ops i) (items_are list.value)

    -- a list of positions of an operator is, as a position holds it, one of that operator's positions
    pub list_in : ArePositions w ops i list.value.items → AreIn w ops i (list_of (Sorted list k)).1
    list_in h = let l = list_of (Sorted list k) in in_items w ops i l.0 l.1 (subst (ArePositions w ops i) (sym (items_are list.value)) h)

    -- positions of an operator make a sorted list of its positions
    pub in_list : AreIn w ops i (list_of (Sorted list k)).1 → ArePositions w ops i list.value.items
    in_list h = let l = list_of (Sorted list k) in subst (ArePositions w ops i) (items_are list.value) (items_in w ops i l.0 l.1 h)

module _ (list : Rc (Vec (Rc Position Global) Global) Global) (k : ℕ) (xs : List (Rc Position Global)) (e : xs ≡ list.value.items) (here : Position) (is : here ≡ Sorted list k) where
  -- what is read at the index of a sorted list is the position under the one that stands there
  pub list_part : (r : Option (Bor (Rc Position Global))) → IsItemAt xs k r → MatchOption r (below here ≡ Start) (λ p. p.now.value ≡ below here)
  list_part None h = ap below is ∙ list_past list k (ap (λ (zs : List (Rc Position Global)). slice_get zs k) (sym e) ∙ slice_get_past xs k h.3)
  list_part (Some p) h = sym (ap below is ∙ list_below list k p.now (ap (λ (zs : List (Rc Position Global)). slice_get zs k) (sym e) ∙ slice_get_read xs (length xs) k p.now refl h.3.0 h.1))

  -- in an orderBy the spot of a variable is that of the position at the index
  pub list_spots : (ops : List Operator) (n i u : ℕ) (desc : Bool) (v : ℕ) → shape_at ops n ≡ sorts i u desc → (r : Option (Bor (Rc Position Global))) → IsItemAt xs k r
      → MatchOption r (spot_in ops n here v ≡ None) (λ p. spot_in ops n here v ≡ spot_in ops i p.now.value v)
  list_spots ops n i u desc v shape None h =
      ap (λ (f : Shape). spot_at ops f here v) shape ∙ ap (λ (c : Position). spot_at ops (sorts i u desc) c v) is
      ∙ list_no_spot list k ops i v (ap (λ (zs : List (Rc Position Global)). slice_get zs k) (sym e) ∙ slice_get_past xs k h.3)
  list_spots ops n i u desc v shape (Some p) h =
      ap (λ (f : Shape). spot_at ops f here v) shape ∙ ap (λ (c : Position). spot_at ops (sorts i u desc) c v) is
      ∙ list_spot list k ops i v p.now (ap (λ (zs : List (Rc Position Global)). slice_get zs k) (sym e) ∙ slice_get_read xs (length xs) k p.now refl h.3.0 h.1)
