-- Rows with some of their values.
use Rattle.std.proofs.Common.{◌≡◌, ◌==◌, ℕ, zero, suc, ℤ, Bool, true, false, cond, if◌then◌else◌, List, [], ◌∷◌, Option, Some, None, option_map, option_and_then, refl, ap, sym, ◌∙◌, subst, arith, length, map, min, take, drop, get_or}
use Rattle.std.specs.List.{filter, find, list_all}
use Rattle.std.specs.Str.{bytes_eq}
use Rattle.std.proofs.lemmas.List.{take-map, take_min}
use Rattle.mix_base.proofs.Choices.{and_both, and_parts, some_is}
use Rattle.mix_base.proofs.Firsts.{filter-map}
use Rattle.mix_catalog.specs.declared.column.Column.{Column}
use Rattle.table_keep.specs.declared.mem_table.MemTable.{MemTable}
use Rattle.table_keep.specs.declared.row.TableRow.{TableRow}
use Rattle.table_keep.specs.Page.{first_above, is_above}
use Rattle.table_keep.specs.Rows.{Row, Value, null, row_of, rows_of}
use Rattle.table_keep.specs.Table.{is_at, is_row, is_short, is_sound, place_of, places_of, projected, rows_by, rows_told}
use Rattle.table_keep.specs.Views.{Declared}

-- there are as many places as columns
pub places_length : (names : List (List ℕ)) (columns : List Column) (places : List ℕ) → places_of names columns ≡ Some places → length places ≡ length columns
places_length names [] places e = ap length (sym (some_is [] places e))
places_length names (c ∷ cs) places e = one (place_of names c) (places_of names cs) (places_length names cs) e
  where
    one : (p : Option ℕ) (found : Option (List ℕ)) → ((ps : List ℕ) → found ≡ Some ps → length ps ≡ length cs)
        → option_and_then (λ q. option_map (λ (qs : List ℕ). q ∷ qs) found) p ≡ Some places → length places ≡ length (c ∷ cs)
    one None found f h = absurd (cc h)
    one (Some q) None f h = absurd (cc h)
    one (Some q) (Some qs) f h = ap length (sym (some_is (q ∷ qs) places h)) ∙ ap suc (f qs refl)

-- the first rows above a key, with some of their values
pub first_projected : (places : List ℕ) (after : Option ℤ) (limit : ℕ) (rows : List Row)
    → first_above after limit (map (projected places) rows) ≡ map (projected places) (first_above after limit rows)
first_projected places after limit rows =
    ap (take limit) (filter-map (λ (r : Row). is_above after r.key) (projected places) rows) ∙ take-map (projected places) limit (filter (λ (r : Row). is_above after r.key) rows)

-- the first rows above a key, copied from where they begin
pub first_copied : (places : List ℕ) (after : Option ℤ) (limit : ℕ) (rows : List TableRow) (i : ℕ) → filter (λ r. is_above after r.key) (rows_of rows) ≡ rows_of (drop i rows)
    → map (projected places) (rows_of (take (min limit (length (drop i rows))) (drop i rows))) ≡ first_above after limit (map (projected places) (rows_of rows))
first_copied places after limit rows i e =
    ap (λ (prefix : List TableRow). map (projected places) (rows_of prefix)) (take_min limit (drop i rows))
    ∙ ap (map (projected places)) (sym (take-map row_of limit (drop i rows)) ∙ ap (take limit) (sym e))
    ∙ sym (first_projected places after limit (rows_of rows))

-- a value at a place is short where all are
short_at : (values : List Value) → list_all is_short values ≡ true → (p : ℕ) → is_short (get_or values p null) ≡ true
short_at [] h p = refl
short_at (v ∷ values) h zero = (and_parts (is_short v) (list_all is_short values) h).0
short_at (v ∷ values) h (suc p) = short_at values (and_parts (is_short v) (list_all is_short values) h).1 p

-- the values at some places are short where all are
short_at_all : (values : List Value) → list_all is_short values ≡ true → (places : List ℕ) → list_all is_short (map (λ p. get_or values p null) places) ≡ true
short_at_all values h [] = refl
short_at_all values h (p ∷ places) = and_both (is_short (get_or values p null)) _ (short_at values h p) (short_at_all values h places)

-- there are as many images as members
same_length : {X Y : Type 0} (f : X → Y) (xs : List X) → length (map f xs) ≡ length xs
same_length f [] = refl
same_length f (x ∷ xs) = ap suc (same_length f xs)

-- numbers that are the same are tested to be so
same_number : (m n : ℕ) → m ≡ n → (m == n) ≡ true
same_number m n e = grind arith

-- rows with the values at some places alone have as many values as there are places, all of them short
pub rows_projected : (width : ℕ) (places : List ℕ) (rows : List Row) → list_all (is_row width) rows ≡ true → list_all (is_row (length places)) (map (projected places) rows) ≡ true
rows_projected width places [] h = refl
rows_projected width places (r ∷ rows) h =
    let parts = and_parts (is_row width r) (list_all (is_row width) rows) h in
    let short = (and_parts (length r.values == width) (list_all is_short r.values) parts.0).1 in
    and_both (is_row (length places) (projected places r)) _
    (and_both (length (projected places r).values == length places) _ (same_number _ _ (same_length (λ p. get_or r.values p null) places)) (short_at_all r.values short places))
    (rows_projected width places rows parts.1)

-- the rows of a sound table by a key are rows of the columns
pub by_rows : (t : MemTable) (key : List ℕ) (columns : List Column) (rows : List Row) → is_sound t ≡ true → rows_by t key columns ≡ Some rows → list_all (is_row (length columns)) rows ≡ true
by_rows t key columns rows sound e = by_key (bytes_eq t.key key) (places_of t.columns.items columns) refl e
  where
    by_key : (b : Bool) (found : Option (List ℕ)) → places_of t.columns.items columns ≡ found
        → (if b then option_map (λ (places : List ℕ). map (projected places) (rows_of t.rows.items)) found else None) ≡ Some rows → list_all (is_row (length columns)) rows ≡ true
    by_key false found f h = absurd (cc h)
    by_key true None f h = absurd (cc h)
    by_key true (Some places) f h =
        let all = rows_projected (length t.columns.items) places (rows_of t.rows.items) (and_parts _ (list_all (is_row (length t.columns.items)) (rows_of t.rows.items)) sound).1 in
        let out = subst (λ rs. list_all (is_row (length places)) rs ≡ true) (some_is _ rows h) all in
        subst (λ n. list_all (is_row n) rows ≡ true) (places_length t.columns.items columns places f) out

-- a table that is found among sound ones is sound
pub found_sound : (p : MemTable → Bool) (tables : List MemTable) (t : MemTable) → list_all is_sound tables ≡ true → find p tables ≡ Some t → is_sound t ≡ true
found_sound p [] t h e = absurd (cc e)
found_sound p (u ∷ tables) t h e =
    let parts = and_parts (is_sound u) (list_all is_sound tables) h in
    one (p u) parts.0 (found_sound p tables t parts.1) e
  where
    one : (b : Bool) → is_sound u ≡ true → (find p tables ≡ Some t → is_sound t ≡ true) → cond b (Some u) (find p tables) ≡ Some t → is_sound t ≡ true
    one true sound later k = subst (λ s. is_sound s ≡ true) (some_is u t k) sound
    one false sound later k = later k

-- the rows that sound tables tell are rows of the declared columns
pub told_rows : (tables : List MemTable) (d : Declared) (rows : List Row) → list_all is_sound tables ≡ true → rows_told tables d ≡ Some rows → list_all (is_row (length d.columns)) rows ≡ true
told_rows tables d rows sound e = of_first (find (is_at d.file d.table) tables) refl e
  where
    of_first : (found : Option MemTable) → find (is_at d.file d.table) tables ≡ found → option_and_then (λ (t : MemTable). rows_by t d.key d.columns) found ≡ Some rows → list_all (is_row (length d.columns)) rows ≡ true
    of_first None f h = absurd (cc h)
    of_first (Some t) f h = by_rows t d.key d.columns rows (found_sound (is_at d.file d.table) tables t sound f) h
