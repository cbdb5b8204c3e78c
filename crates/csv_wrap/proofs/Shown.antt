-- Columns and rows given one after another.
use Rattle.std.proofs.Common.{◌≡◌, ◌∙◌, ℕ, suc, ◌+◌, ◌-◌, ◌<◌, ◌≤◌, List, [], ◌∷◌, length, take, drop, get_or, min, ap, arith}
use Rattle.std.proofs.lemmas.List.{drop_all, drop_more, length-drop, take_min}
use Rattle.std.proofs.lemmas.Option.{get_or_from_slice_get}
use Rattle.mix_tree.specs.Forest.{forest_of}
use Rattle.lxp_core.specs.Open.{Open, nil, node, open_followed, without_holes}
use Rattle.csv_wrap.specs.Rows.{cells, row_forest}
use Rattle.csv_wrap.proofs.FieldFacts.{column_at}

-- the columns of a row, from one on
abbrev pub shown_cells : List (List ℕ) → List (List ℕ) → ℕ → Open
shown_cells columns fields i = without_holes (forest_of (cells (drop i columns) (drop i fields)))

-- the columns of a row from one on are that one, with its field below it, and the others
pub cells_step : (columns fields : List (List ℕ)) (i : ℕ) → i < length columns → i < length fields
    → shown_cells columns fields i ≡ node (get_or columns i []) (node (get_or fields i []) nil nil) (shown_cells columns fields (i + 1))
cells_step columns fields i h k =
    ap (λ cs. without_holes (forest_of (cells cs (drop i fields)))) (drop_more columns i [] h)
    ∙ ap (λ fs. without_holes (forest_of (cells (get_or columns i [] ∷ drop (i + 1) columns) fs))) (drop_more fields i [] k)

-- after the last column of a row there is none
pub cells_end : (columns fields : List (List ℕ)) (i : ℕ) → length columns ≤ i → shown_cells columns fields i ≡ nil
cells_end columns fields i h = ap (λ cs. without_holes (forest_of (cells cs (drop i fields)))) (drop_all i columns h)

-- a column that was read, whatever stands for one that is not there
pub column_is : (columns : List (List ℕ)) (i : ℕ) (column : List ℕ) → i < length columns → column ≡ get_or columns i column → get_or columns i [] ≡ column
column_is columns i column h e = get_or_from_slice_get columns i column [] (column_at columns i column h e)

-- the rows from one on and before another, as they stand before a list
abbrev pub shown_rows : List (List ℕ) → List (List (List ℕ)) → ℕ → ℕ → Open → Open
shown_rows columns rows from to o = open_followed (without_holes (row_forest columns (take (to - from) (drop from rows)))) o

-- the rows from one on and before another are that one, with its columns below it, and the others
pub rows_step : (columns : List (List ℕ)) (rows : List (List (List ℕ))) (from to : ℕ) (o : Open) → from < to → to ≤ length rows
    → shown_rows columns rows from to o
    ≡ node (114 ∷ 111 ∷ 119 ∷ []) (without_holes (forest_of (cells columns (get_or rows from [])))) (shown_rows columns rows (from + 1) to o)
rows_step columns rows from to o h k =
    let more : to - from ≡ suc (to - (from + 1)) = omega arith in
    ap (λ rs. open_followed (without_holes (row_forest columns (take (to - from) rs))) o) (drop_more rows from [] (omega arith))
    ∙ ap (λ n. open_followed (without_holes (row_forest columns (take n (get_or rows from [] ∷ drop (from + 1) rows)))) o) more

-- no row is shown from an index on up to one that is no greater
pub rows_end : (columns : List (List ℕ)) (rows : List (List (List ℕ))) (from to : ℕ) (o : Open) → to ≤ from → shown_rows columns rows from to o ≡ o
rows_end columns rows from to o h =
    let none : to - from ≡ 0 = omega arith in
    ap (λ n. open_followed (without_holes (row_forest columns (take n (drop from rows)))) o) none

-- the rows up to the end of a chunk, or of all rows, are the next so many
pub rows_chunk : (columns : List (List ℕ)) (rows : List (List (List ℕ))) (first last chunk : ℕ) (o : Open) → first ≤ length rows → last ≡ min (first + chunk) (length rows)
    → shown_rows columns rows first last o ≡ open_followed (without_holes (row_forest columns (take chunk (drop first rows)))) o
rows_chunk columns rows first last chunk o h e =
    let rest = drop first rows in
    let size : last - first ≡ min chunk (length (drop first rows)) = omega (arith, e, length-drop first rows) in
    ap (λ n. open_followed (without_holes (row_forest columns (take n rest))) o) size
    ∙ ap (λ rs. open_followed (without_holes (row_forest columns rs)) o) (take_min chunk rest)
