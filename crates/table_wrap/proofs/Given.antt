-- The lists that holes are answered with keep what a source promises.
use Rattle.std.proofs.Common.{◌≡◌, ◌∙◌, ℕ, zero, suc, ◌+◌, ◌*◌, ◌^◌, ◌<◌, ◌≤◌, ◌==◌, Bool, true, false, cond, ℤ, pos, negsuc, List, [], ◌∷◌, ◌++◌, length, take, drop, Option, Some, None, IfSome, is_some, unwrap_or, SFits, w64, refl, ap, sym, subst, arith, int_lt}
use Rattle.std.specs.List.{AllByRecursion, filter}
use Rattle.std.proofs.lemmas.Bool.Decides.{nat_tests}
use Rattle.std.proofs.lemmas.Int.{ints, to_z-of_z}
use Rattle.std.proofs.lemmas.List.{length-take, take-append-drop, take_all}
use Rattle.std.proofs.Math.Nat.{mul-le-mul_right}
use Rattle.mix_base.proofs.Choices.{and_parts, number_is}
use Rattle.mix_base.proofs.Firsts.{each_passes, filter_absorb}
use Rattle.mix_base.proofs.Lists.{append_nil}
use Rattle.mix_tree.specs.Forest.{none, tree, followed, forest_of}
use Rattle.mix_tree.specs.Weight.{nodes_of}
use Rattle.mix_tree.proofs.Forests.{followed-none}
use Rattle.lxp_core.specs.declared.open_tree.HoleId.{HoleId}
use Rattle.lxp_core.specs.Open.{closed, weight_of, AllHoles, IsProgress, begins_with_hole}
use Rattle.mix_catalog.specs.declared.column.Column.{Column}
use Rattle.row_document.specs.Rows.{name_given, rest_given}
use Rattle.row_document.proofs.Lists.{name_closes, name_progress, name_small, rest_by, row_forest-append, rows_close, rows_forward, rows_known, rows_progress, rows_weigh}
use Rattle.table_keep.specs.Page.{IsPageOf, first_above, is_above, keys_rise}
use Rattle.table_keep.specs.Rows.{Row, Value}
use Rattle.table_keep.specs.Views.{TablesView}
use Rattle.table_keep.proofs.Rising.{above_more, rise_above, rise_filter, rise_from, rise_take}
use Rattle.table_wrap.specs.declared.document.TableDoc.{TableDoc}
use Rattle.table_wrap.specs.declared.parts.Part.TheVariants.{Name, Rows}
use Rattle.table_wrap.specs.Parts.{hole_of, part_of}
use Rattle.table_wrap.specs.Rows.{cells, label_of, leaf, row_cells, row_forest}
use Rattle.table_wrap.specs.Wire.{AreInRange}
use Rattle.table_wrap.proofs.Small.{short_name, small_page}
use Rattle.table_wrap.specs.Document.{AreFirst, IsAnswer, chunk_of, columns_of, declared_of, forest, is_full, knows, last_key, name_of, page_given, part_forest, part_weight, room, row_weight, rows_of, weight}

-- each key is one of 64 bits
abbrev pub KeysFit : List Row → Type 0
KeysFit rows = AllByRecursion (λ r. SFits w64 r.key) rows

-- nothing stands above what is above all
above_irrefl : (key : ℤ) → int_lt key key ≡ false
above_irrefl key = grind (arith, ints)

-- the last of rows that rise from a key on isn't below it
not_below : (key : ℤ) (rows : List Row) → keys_rise (Some key) rows ≡ true → is_above (last_key (Some key) rows) key ≡ false
not_below key [] h = above_irrefl key
not_below key (r ∷ rows) h =
    let parts = and_parts (int_lt key r.key) (keys_rise (Some r.key) rows) h in
    turned (is_above (last_key (Some r.key) rows) key) refl (not_below r.key rows parts.1) parts.0
  where
    turned : (b : Bool) → is_above (last_key (Some r.key) rows) key ≡ b → is_above (last_key (Some r.key) rows) r.key ≡ false → int_lt key r.key ≡ true → is_above (last_key (Some r.key) rows) key ≡ false
    turned false e f g = e
    turned true e f g = let both = above_more (last_key (Some r.key) rows) key r.key e g in absurd (cc both)

-- what stands above the last of rows that rise stands above the key before them
above_last : (after : Option ℤ) (rows : List Row) (key : ℤ) → keys_rise after rows ≡ true → is_above (last_key after rows) key ≡ true → is_above after key ≡ true
above_last after [] key h k = k
above_last after (r ∷ rows) key h k =
    let parts = and_parts (is_above after r.key) (keys_rise (Some r.key) rows) h in
    above_more after r.key key parts.0 (above_last (Some r.key) rows key parts.1 k)

-- all rows that rise from a key on stand above it
all_above : (after : Option ℤ) (rows : List Row) → AllByRecursion (λ r. is_above after r.key ≡ true) rows → filter (λ r. is_above after r.key) rows ≡ rows
all_above after [] h = refl
all_above after (r ∷ rows) h = rw h.0 (ap (λ (rs : List Row). r ∷ rs) (all_above after rows h.1))

-- of rows that rise, those above the last of the first so many are the others
above_taken : (n : ℕ) (after : Option ℤ) (rows : List Row) → keys_rise after rows ≡ true → filter (λ r. is_above (last_key after (take n rows)) r.key) rows ≡ drop n rows
above_taken zero after rows h = all_above after rows (rise_above after rows h)
above_taken (suc n) after [] h = refl
above_taken (suc n) after (r ∷ rows) h =
    let parts = and_parts (is_above after r.key) (keys_rise (Some r.key) rows) h in
    let first : is_above (last_key (Some r.key) (take n rows)) r.key ≡ false = not_below r.key (take n rows) (rise_take n (Some r.key) rows parts.1) in
    rw first (above_taken n (Some r.key) rows parts.1)

-- a row has at most a node of its own and two for each column
cells_light : (columns : List Column) (values : List Value) → nodes_of (forest_of (cells columns values)) ≤ 2 * length columns
cells_light [] values = omega arith
cells_light (c ∷ cs) [] = omega arith
cells_light (c ∷ cs) (v ∷ vs) = omega (arith, cells_light cs vs, leaf_light (label_of v))
  where
    leaf_light : (label : Option (List ℕ)) → nodes_of (leaf label) ≤ 1
    leaf_light None = omega arith
    leaf_light (Some l) = omega arith

-- a number taken once more than n times is the number, and n times the number
one_more : (n w : ℕ) → suc n * w ≡ w + n * w
one_more n w = grind arith

-- rows have each at most a node of their own and two for each column
rows_light : (columns : List Column) (rows : List Row) → nodes_of (row_forest columns rows) ≤ length rows * (1 + 2 * length columns)
rows_light columns [] = omega arith
rows_light columns (r ∷ rows) = omega (arith, one_more (length rows) (1 + 2 * length columns), cells_light columns r.values, rows_light columns rows)

-- above a higher key there is room for one row less
room_less : (after : Option ℤ) (key : ℤ) → is_above after key ≡ true → SFits w64 key → suc (room (Some key)) ≤ room after
room_less None (pos n) h fits = omega arith
room_less None (negsuc n) h fits = let small : n < 2 ^ 63 = fits.sfits in omega arith
room_less (Some (pos m)) (pos n) h fits = let small : n < 2 ^ 63 = fits.sfits in (let less : m < n = grind (arith, nat_tests) in omega arith)
room_less (Some (pos m)) (negsuc n) h fits = absurd (cc h)
room_less (Some (negsuc m)) (pos n) h fits = let small : n < 2 ^ 63 = fits.sfits in omega arith
room_less (Some (negsuc m)) (negsuc n) h fits = let less : n < m = grind (arith, nat_tests) in omega arith

-- rows that rise, and what may stand after them, have room above the key before them
rows_room : (after : Option ℤ) (rows : List Row) → keys_rise after rows ≡ true → KeysFit rows → length rows + room (last_key after rows) ≤ room after
rows_room after [] h fits = omega arith
rows_room after (r ∷ rows) h fits =
    let parts = and_parts (is_above after r.key) (keys_rise (Some r.key) rows) h in
    omega (arith, room_less after r.key parts.0 fits.0, rows_room (Some r.key) rows parts.1 fits.1)

-- the last key of some rows is one of 64 bits
last_fits : (after : Option ℤ) (rows : List Row) → (rows ≡ [] → ⊥) → KeysFit rows → (key : ℤ) × (last_key after rows ≡ Some key) × SFits w64 key
last_fits after [] some fits = absurd (some refl)
last_fits after (r ∷ []) some fits = (r.key, refl, fits.0)
last_fits after (r ∷ s ∷ rows) some fits = last_fits (Some r.key) (s ∷ rows) (λ e. cc e) fits.1

-- the part of a hole after a key is the rows above it
part_back : (key : ℤ) → SFits w64 key → part_of (hole_of (Rows (Some key))) ≡ Some (Rows (Some key))
part_back key fits = ap (λ k. Some (Rows (Some k))) (to_z-of_z w64 key fits)

module _ (d : TableDoc) (after : Option ℤ) (rows : List Row) where
  -- the hole for the rows above the last key
  abbrev rest_hole : HoleId
  rest_hole = hole_of (Rows (last_key after rows))

  -- a full page has rows
  some_rows : is_full d rows ≡ true → rows ≡ [] → ⊥
  some_rows full e = let same = number_is (length rows) d.chunk full in let empty : length rows ≡ 0 = ap length e in omega (arith, d.some, same, empty)

  -- no rows are no full page
  none_full : rows ≡ [] → is_full d rows ≡ false
  none_full e = by_full (is_full d rows) refl
    where
      by_full : (b : Bool) → is_full d rows ≡ b → b ≡ false
      by_full true full = absurd (some_rows full e)
      by_full false full = refl

  -- where there is a hole after rows, its part is the rows above the last
  rest_part : is_full d rows ≡ true → KeysFit rows → part_of (hole_of (Rows (last_key after rows))) ≡ Some (Rows (last_key after rows))
  rest_part full fits =
      let last = last_fits after rows (some_rows full) fits in
      subst (λ (l : Option ℤ). part_of (hole_of (Rows l)) ≡ Some (Rows l)) (sym last.1) (part_back last.0 last.2)

  -- the list of a page keeps progress
  progress_page : IsProgress (page_given d after rows)
  progress_page = rows_progress (row_cells (columns_of d)) rows (is_full d rows) rest_hole none_full

  -- the list of a page begins with no hole
  forward_page : begins_with_hole (page_given d after rows) ≡ false
  forward_page = rows_forward (row_cells (columns_of d)) rows (is_full d rows) rest_hole none_full

  -- all holes of the list of a page are known
  known_page : AllHoles (knows d) (page_given d after rows)
  known_page = rows_known (row_cells (columns_of d)) rows (is_full d rows) rest_hole (knows d) (λ full. known (last_key after rows))
    where
      known : (last : Option ℤ) → knows d (hole_of (Rows last)) ≡ true
      known None = refl
      known (Some key) = refl

  -- the list of a page weighs no more than the part of the rows above the key
  lighter_page : keys_rise after rows ≡ true → KeysFit rows → weight_of (weight d) (page_given d after rows) ≤ room after * row_weight d
  lighter_page rise fits =
      let both = rows_weigh (row_cells (columns_of d)) rows (is_full d rows) rest_hole (weight d) in
      let light = rows_light (columns_of d) rows in
      let space = mul-le-mul_right {m = length rows + room (last_key after rows)} {n = room after} (row_weight d) (rows_room after rows rise fits) in
      let split : (length rows + room (last_key after rows)) * row_weight d ≡ length rows * row_weight d + room (last_key after rows) * row_weight d = add_mul (length rows) (room (last_key after rows)) (row_weight d) in
      omega (arith, both, light, space, split, rest_light)
    where
      add_mul : (a b w : ℕ) → (a + b) * w ≡ a * w + b * w
      add_mul a b w = grind arith

      rest_light : weight_of (weight d) (rest_given (is_full d rows) rest_hole) ≤ room (last_key after rows) * row_weight d
      rest_light = rest_by (λ o. weight_of (weight d) o ≤ room (last_key after rows) * row_weight d) (is_full d rows) rest_hole
          (λ full. (let same = ap (part_weight d) (rest_part full fits) in omega (arith, same))) (λ k. omega arith)

  -- a hole after the rows closes to the rows above the last
  rest_closes : (v : TablesView) → is_full d rows ≡ true → KeysFit rows
      → forest v d rest_hole ≡ row_forest (columns_of d) (filter (λ r. is_above (last_key after rows) r.key) (rows_of v d))
  rest_closes v full fits = ap (part_forest (rows_of v d) d) (rest_part full fits)

-- the first rows above a key, and the rows above the last of them, where there are as many as may be
first_and_rest : (chunk : ℕ) (after : Option ℤ) (all : List Row) → keys_rise None all ≡ true
    → first_above after chunk all ++ cond (length (first_above after chunk all) == chunk) (filter (λ r. is_above (last_key after (first_above after chunk all)) r.key) all) []
    ≡ filter (λ r. is_above after r.key) all
first_and_rest chunk after all rise =
    let p : Row → Bool = λ r. is_above after r.key in
    by_full chunk (filter p all) (rise_from None after (filter p all) (rise_filter p None all rise) (each_passes p all)) (length (take chunk (filter p all)) == chunk) refl refl
  where
    -- the test of a length that isn't the one asked for
    shorter : (n : ℕ) (rows : List Row) → (length (take n rows) == n) ≡ false → length rows ≤ n
    shorter n rows e = let long = length-take n rows in grind (arith, nat_tests)

    later : (n : ℕ) (above : List Row) → keys_rise after above ≡ true → above ≡ filter (λ (r : Row). is_above after r.key) all
        → filter (λ r. is_above (last_key after (take n above)) r.key) all ≡ drop n above
    later n above h e =
        let last : Row → Bool = λ r. is_above (last_key after (take n above)) r.key in
        sym (filter_absorb last (λ (r : Row). is_above after r.key) (λ r k. above_last after (take n above) r.key (rise_take n after above h) k) all)
        ∙ ap (filter last) (sym e)
        ∙ above_taken n after above h

    by_full : (n : ℕ) (above : List Row) → keys_rise after above ≡ true → (b : Bool) → (length (take n above) == n) ≡ b → above ≡ filter (λ (r : Row). is_above after r.key) all
        → take n above ++ cond (length (take n above) == n) (filter (λ r. is_above (last_key after (take n above)) r.key) all) [] ≡ above
    by_full n above h true e f =
        ap (λ b. take n above ++ cond b (filter (λ r. is_above (last_key after (take n above)) r.key) all) []) e
        ∙ ap (λ (rs : List Row). take n above ++ rs) (later n above h f)
        ∙ take-append-drop n above
    by_full n above h false e f =
        ap (λ b. take n above ++ cond b (filter (λ r. is_above (last_key after (take n above)) r.key) all) []) e
        ∙ append_nil (take n above) ∙ take_all n above (shorter n above e)

-- where rows are told, the list of a page closes to the rows above the key
closed_page : (v : TablesView) (d : TableDoc) (after : Option ℤ) (rows all : List Row) → v.told (declared_of d) ≡ Some all → keys_rise None all ≡ true
    → rows ≡ first_above after (chunk_of d) all → KeysFit rows
    → closed (forest v d) (page_given d after rows) ≡ part_forest (rows_of v d) d (Some (Rows after))
closed_page v d after rows all told rise first fits =
    let columns = columns_of d in
    let beyond = filter (λ (r : Row). is_above (last_key after rows) r.key) all in
    rows_close (row_cells columns) rows (is_full d rows) (rest_hole d after rows) (forest v d)
    ∙ ap (followed (row_forest columns rows)) (closed-rest (is_full d rows) refl)
    ∙ sym (row_forest-append (row_cells columns) rows (cond (is_full d rows) beyond []))
    ∙ ap (row_forest columns) (subst (λ (rs : List Row). rs ++ cond (length rs == chunk_of d) (filter (λ r. is_above (last_key after rs) r.key) all) [] ≡ filter (λ r. is_above after r.key) all) (sym first) (first_and_rest (chunk_of d) after all rise))
    ∙ sym (ap (λ (rs : List Row). row_forest columns (filter (λ r. is_above after r.key) rs)) (ap (λ (o : Option (List Row)). unwrap_or o []) told))
  where
    closed-rest : (b : Bool) → is_full d rows ≡ b → closed (forest v d) (rest_given (is_full d rows) (rest_hole d after rows))
        ≡ row_forest (columns_of d) (cond (is_full d rows) (filter (λ (r : Row). is_above (last_key after rows) r.key) all) [])
    closed-rest true e =
        ap (λ b. closed (forest v d) (rest_given b (rest_hole d after rows))) e
        ∙ followed-none (forest v d (rest_hole d after rows))
        ∙ rest_closes d after rows v e fits
        ∙ ap (λ (rs : List Row). row_forest (columns_of d) (filter (λ r. is_above (last_key after rows) r.key) rs)) (ap (λ (o : Option (List Row)). unwrap_or o []) told)
        ∙ ap (λ b. row_forest (columns_of d) (cond b (filter (λ (r : Row). is_above (last_key after rows) r.key) all) [])) (sym e)
    closed-rest false e =
        ap (λ b. closed (forest v d) (rest_given b (rest_hole d after rows))) e
        ∙ ap (λ b. row_forest (columns_of d) (cond b (filter (λ (r : Row). is_above (last_key after rows) r.key) all) [])) (sym e)

-- the list of a page is an answer
pub answer_rows : (v : TablesView) (d : TableDoc) (after : Option ℤ) (rows : List Row) → ((all : List Row) → v.told (declared_of d) ≡ Some all → keys_rise None all ≡ true)
    → IsPageOf after (chunk_of d) (columns_of d) rows → AreFirst v d after rows → KeysFit rows
    → AllByRecursion (λ r. AreInRange (columns_of d) r.values) rows → IsAnswer v d (Some (Rows after)) (page_given d after rows)
answer_rows v d after rows rising page first fits range = record {
  list = (rows, page, first, refl);
  answers = λ h at. record {
    closes = λ told. closes (v.told (declared_of d)) refl told first ∙ ap (part_forest (rows_of v d) d) (sym at);
    progress = progress_page d after rows;
    known = known_page d after rows;
    lighter = subst (λ p. weight_of (weight d) (page_given d after rows) ≤ part_weight d p) (sym at) (lighter_page d after rows page.rise fits);
    forward = λ told. forward_page d after rows;
    small = λ told. small_page d after rows page range;
  };
}
  where
    closes : (found : Option (List Row)) → v.told (declared_of d) ≡ found → is_some found ≡ true → IfSome found (λ all. rows ≡ first_above after (chunk_of d) all)
        → closed (forest v d) (page_given d after rows) ≡ part_forest (rows_of v d) d (Some (Rows after))
    closes None e h f = absurd (cc h)
    closes (Some all) e h f = closed_page v d after rows all e (rising all e) f fits

-- all rows stand above no key
above_none : (rows : List Row) → filter (λ r. is_above None r.key) rows ≡ rows
above_none [] = refl
above_none (r ∷ rows) = ap (λ (rs : List Row). r ∷ rs) (above_none rows)

-- the name with the hole of all rows is an answer
pub answer_name : (v : TablesView) (d : TableDoc) → IsAnswer v d (Some Name) (name_given (name_of d) (hole_of (Rows None)))
answer_name v d = record {
  list = refl;
  answers = λ h at. record {
    closes = λ told.
        name_closes (forest v d) (name_of d) (hole_of (Rows None)) ∙ ap (λ rs. tree (name_of d) (row_forest (columns_of d) rs) none) (above_none (rows_of v d))
        ∙ ap (part_forest (rows_of v d) d) (sym at);
    progress = name_progress (name_of d) (hole_of (Rows None));
    known = ((refl, tt), tt);
    lighter = subst (λ p. weight_of (weight d) (name_given (name_of d) (hole_of (Rows None))) ≤ part_weight d p) (sym at) (omega arith);
    forward = λ told. refl;
    small = λ told. name_small (name_of d) (hole_of (Rows None)) (short_name d);
  };
}
