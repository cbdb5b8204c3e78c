-- Rows that lie field by field, one after another.
use Rattle.std.proofs.Common.{◌≡◌, ◌∙◌, ◌+◌, ◌*◌, ◌<◌, ◌≤◌, ℕ, zero, suc, List, [], ◌∷◌, ◌++◌, take, drop, length, get_or, min, length-append, refl, sym, ap, arith}
use Rattle.std.specs.Borrow.{Bor}
use Rattle.std.specs.List.{All, flat_map}
use Rattle.std.proofs.lemmas.List.{drop-drop, drop_at, get_or-drop, get_or-take, length-drop, length-take, take_at}
use Rattle.std.proofs.lemmas.List.Elements.{All-head, All-tail}
use Rattle.std.proofs.lemmas.Grind.{flat_map-append}
use Rattle.std.proofs.Math.Nat.{mul-le-mul_right}
use Rattle.mix_base.proofs.Lists.{append_nil}
use Rattle.csv.specs.declared.reader.Reader.{Reader}
use Rattle.csv_wrap.specs.declared.table.Table.{Table}
use Rattle.csv_wrap.specs.Csv.{IsAt, IsRow, without_marks}
use Rattle.csv_wrap.specs.Table.{cut_rows, rows_in, IsFull}

-- a number taken once more than i times is the number, and i times the number
pub suc_mul : (i w : ℕ) → suc i * w ≡ w + i * w
suc_mul i w = grind arith

-- a number taken no times is 0
pub zero_mul : (w : ℕ) → 0 ≡ 0 * w
zero_mul w = omega arith

-- the fields of rows, one after another
abbrev pub flat : List (List (List ℕ)) → List (List ℕ)
flat rows = flat_map (λ r. r) rows

-- the fields of rows of one width are cut into those rows
pub flat_cut : (width : ℕ) (rows : List (List (List ℕ))) → All (IsRow width) rows → cut_rows width (length rows) (flat rows) ≡ rows
flat_cut width [] h = refl
flat_cut width (r ∷ rows) h =
    let long = (All-head (IsRow width) r rows h).0 in
    ap (λ f. f ∷ cut_rows width (length rows) (drop width (r ++ flat rows))) (take_at r (flat rows) width long)
    ∙ ap (λ fs. r ∷ cut_rows width (length rows) fs) (drop_at r (flat rows) width long)
    ∙ ap (λ rs. r ∷ rs) (flat_cut width rows (All-tail (IsRow width) r rows h))

-- rows of one width have as many fields as there are rows, times the width
pub length-flat : (width : ℕ) (rows : List (List (List ℕ))) → All (IsRow width) rows → length (flat rows) ≡ length rows * width
length-flat width [] h = zero_mul width
length-flat width (r ∷ rows) h =
    let long = (All-head (IsRow width) r rows h).0 in
    let more = length-flat width rows (All-tail (IsRow width) r rows h) in
    omega (arith, long, more, length-append r (flat rows), suc_mul (length rows) width)

-- the fields of rows with one row more are theirs and then that row's
pub flat_more : (rows : List (List (List ℕ))) (r : List (List ℕ)) → flat (rows ++ r ∷ []) ≡ flat rows ++ r
flat_more rows r = flat_map-append (λ (x : List (List ℕ)). x) rows (r ∷ []) ∙ ap (λ f. flat rows ++ f) (append_nil r)

-- as many rows are cut as are asked for
pub length-cut : (width count : ℕ) (fields : List (List ℕ)) → length (cut_rows width count fields) ≡ count
length-cut width zero fields = refl
length-cut width (suc count) fields = omega (arith, length-cut width count (drop width fields))

-- the row of an index is as many fields as are wanted, from its place on
pub row_at : (width count i : ℕ) (fields : List (List ℕ)) → i < count → get_or (cut_rows width count fields) i [] ≡ take width (drop (i * width) fields)
row_at width zero i fields h = absurd (omega arith)
row_at width (suc count) zero fields h = ap (λ n. take width (drop n fields)) (zero_mul width)
row_at width (suc count) (suc i) fields h =
    let far : width + i * width ≡ suc i * width = sym (suc_mul i width) in
    row_at width count i (drop width fields) (omega arith) ∙ ap (take width) (drop-drop (i * width) width fields) ∙ ap (λ n. take width (drop n fields)) far

-- a field of a row stands before the end of all fields
pub within : (width count i j : ℕ) → i < count → j < width → i * width + j < count * width
within width count i j h k = omega (arith, k, suc_mul i width, mul-le-mul_right {m = suc i} {n = count} width (omega arith))

-- a field of a row of a full table stands before the end of all fields
pub field_within : (width i j w : ℕ) (t : Table) → IsFull width t → w ≡ width → i < t.rows → j < width → i * w + j < length t.fields
field_within width i j w t full e h k =
    let inside : i * width + j < t.rows * width = within width t.rows i j h k in
    let same : i * w + j ≡ i * width + j = ap (λ n. i * n + j) e in
    omega (arith, full, inside, same)

-- a row of a full table has its width
pub length-row : (width i : ℕ) (t : Table) → IsFull width t → i < t.rows → length (get_or (rows_in width t) i []) ≡ width
length-row width i t full h =
    let fields : List (List ℕ) = t.fields in
    let long = ap length (row_at width t.rows i t.fields h) in
    let end = mul-le-mul_right {m = suc i} {n = t.rows} width (omega arith) in
    least (length (drop (i * width) fields)) width (long ∙ length-take width (drop (i * width) fields)) (omega (arith, full, end, suc_mul i width, length-drop (i * width) fields))
  where
    least : (n w : ℕ) {k : ℕ} → k ≡ min w n → w ≤ n → k ≡ w
    least n w e l = omega (arith, e)

-- the field of a row at a column
pub field_of : (width i j : ℕ) (t : Table) → i < t.rows → j < width → get_or t.fields (i * width + j) [] ≡ get_or (get_or (rows_in width t) i []) j []
field_of width i j t h k =
    let fields : List (List ℕ) = t.fields in
    sym (get_or-drop (i * width) fields j []) ∙ sym (get_or-take width (drop (i * width) fields) j [] k) ∙ ap (λ r. get_or r j []) (sym (row_at width t.rows i t.fields h))

-- a reader has read the header and these rows of a file, and these are their fields
pub record HasRead (bytes : List ℕ) (columns : List (List ℕ)) (reader : Reader (Bor (List ℕ))) (fields : List (List ℕ)) (next : ℕ) : Type 0 where
  pub rows : List (List (List ℕ))
  pub reached : IsAt (without_marks bytes) (columns ∷ rows) reader
  pub fit : All (IsRow (length columns)) rows
  pub fields_are : fields ≡ flat rows
  pub next_is : next ≡ length rows + 1
