-- The first row above a key, found by halving.
use Rattle.std.proofs.Common.{◌≡◌, ◌<◌, ◌≤◌, ℕ, zero, suc, ℤ, Bool, true, false, not, List, [], ◌∷◌, Option, Some, refl, ap, ◌∙◌, arith, length, drop, get_or, int_lt}
use Rattle.std.specs.List.{filter}
use Rattle.std.specs.List.Sorted.{IsPartitionPoint, IsPartitionedBy}
use Rattle.mix_base.proofs.Choices.{and_parts}
use Rattle.mix_base.proofs.Firsts.{filter-map}
use Rattle.table_keep.proofs.Rising.{above_more}
use Rattle.table_keep.specs.declared.row.TableRow.{TableRow}
use Rattle.table_keep.specs.Page.{is_above, keys_rise}
use Rattle.table_keep.specs.Rows.{Row, row_of, rows_of}

-- a boolean whose negation is false is true
turned_false : (b : Bool) → not b ≡ false → b ≡ true
turned_false true h = refl
turned_false false h = absurd (cc h)

-- a boolean whose negation is true is false
turned_true : (b : Bool) → not b ≡ true → b ≡ false
turned_true true h = absurd (cc h)
turned_true false h = refl

-- what passes from a place on, and nothing before it, is what a test lets through
filter_point : {X : Type 0} (p : X → Bool) (xs : List X) (i : ℕ) → i ≤ length xs → IsPartitionPoint (λ y. not (p y) ≡ true) (λ y. not (p y) ≡ false) xs i → filter p xs ≡ drop i xs
filter_point p [] zero w h = refl
filter_point p [] (suc i) w h = refl
filter_point {X} p (x ∷ xs) zero w h =
    let first : p x ≡ true = turned_false (p x) (h.1 0 x (omega arith) (omega arith)) in
    rw first (ap (λ (ys : List X). x ∷ ys) (filter_point p xs zero (omega arith) (λ k d a b. absurd (omega arith), λ k d a b. h.1 (suc k) d (omega arith) (omega arith))))
filter_point p (x ∷ xs) (suc i) w h =
    let first : p x ≡ false = turned_true (p x) (h.0 0 x (omega arith) (omega arith)) in
    rw first (filter_point p xs i (omega arith) (λ k d a b. h.0 (suc k) d (omega arith) (omega arith), λ k d a b. h.1 (suc k) d (omega arith) (omega arith)))

-- each of rows that rise stands above the key before them
above_each : (after : Option ℤ) (rows : List TableRow) → keys_rise after (rows_of rows) ≡ true → (j : ℕ) (d : TableRow) → j < length rows → is_above after (get_or rows j d).key ≡ true
above_each after [] h j d w = absurd (omega arith)
above_each after (r ∷ rows) h zero d w = (and_parts (is_above after r.key) (keys_rise (Some r.key) (rows_of rows)) h).0
above_each after (r ∷ rows) h (suc j) d w =
    let parts = and_parts (is_above after r.key) (keys_rise (Some r.key) (rows_of rows)) h in
    above_more after r.key (get_or rows j d).key parts.0 (above_each (Some r.key) rows parts.1 j d (omega arith))

-- of rows that rise, no row above a key stands before one that isn't
pub parted : (after from : Option ℤ) (rows : List TableRow) → keys_rise from (rows_of rows) ≡ true → IsPartitionedBy (λ r. not (is_above after r.key)) rows
parted after from [] h i j d w l k = absurd (omega arith)
parted after from (r ∷ rows) h zero zero d w l k = k
parted after from (r ∷ rows) h (suc i) zero d w l k = absurd (omega arith)
parted after from (r ∷ rows) h (suc i) (suc j) d w l k = parted after (Some r.key) rows (and_parts (is_above from r.key) (keys_rise (Some r.key) (rows_of rows)) h).1 i j d (omega arith) (omega arith) k
parted after from (r ∷ rows) h zero (suc j) d w l k =
    let later = above_each (Some r.key) rows (and_parts (is_above from r.key) (keys_rise (Some r.key) (rows_of rows)) h).1 j d (omega arith) in
    below (is_above after r.key) refl later (turned_true (is_above after (get_or rows j d).key) k)
  where
    below : (b : Bool) → is_above after r.key ≡ b → int_lt r.key (get_or rows j d).key ≡ true → is_above after (get_or rows j d).key ≡ false → not (is_above after r.key) ≡ true
    below true e m n = let both = above_more after r.key (get_or rows j d).key e m in absurd (cc both)
    below false e m n = ap not e

-- the rows above a key are those from the place on at which they begin
pub above_from : (after : Option ℤ) (rows : List TableRow) (i : ℕ) → i ≤ length rows → IsPartitionPoint (λ r. not (is_above after r.key) ≡ true) (λ r. not (is_above after r.key) ≡ false) rows i
    → filter (λ r. is_above after r.key) (rows_of rows) ≡ rows_of (drop i rows)
above_from after rows i w h = filter-map (λ (r : Row). is_above after r.key) row_of rows ∙ ap rows_of (filter_point (λ (r : TableRow). is_above after r.key) rows i w h)
