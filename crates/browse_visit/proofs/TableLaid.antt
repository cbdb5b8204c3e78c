-- The documents of tables are laid out as their shapes say.
use Rattle.std.proofs.Common.{◌≤◌, inl, inr, ℕ, true, false, List, [], ◌∷◌, refl, arith, length, map}
use Rattle.std.specs.Prelude.{Bool, Option, Some, None}
use Rattle.std.specs.List.{AllByRecursion}
use Rattle.browse_visit.specs.declared.shape.Shape.TheVariants.{Any, Rows}
use Rattle.browse_visit.specs.declared.visit.TableColumn.{TableColumn}
use Rattle.browse_visit.specs.Layouts.{IsLaid, EachTree, value_layout}
use Rattle.browse_visit.specs.Shapes.{row_of, row_label, columns_of}
use Rattle.browse_visit.specs.Tables.{cell_trees, row_trees, rows_trees, IsCell, AreCells, ShapesAreLaid, FilesAreLaid}

-- a cell that has a value where its column always has one is laid out as the column's values are
cell_laid : (has : Bool) (x : Option (List ℕ)) → IsCell has x → IsLaid (value_layout has) (cell_trees x)
cell_laid true None h = cc
cell_laid false None h = inl tt
cell_laid true (Some value) h = (tt, tt)
cell_laid false (Some value) h = inr (tt, tt)

-- the columns of a row with such cells are laid out as the shape's rows are
row_laid : (columns : List TableColumn) (cells : List (Option (List ℕ))) → AreCells columns cells → IsLaid (row_of columns) (row_trees columns cells)
row_laid [] cells h = tt
row_laid (c ∷ cs) [] h = (refl, cell_laid c.has_value None h.0, row_laid cs [] h.1)
row_laid (c ∷ cs) (x ∷ xs) h = (refl, cell_laid c.has_value x h.0, row_laid cs xs h.1)

-- each row with such cells is laid out as the shape's rows are
rows_laid : (columns : List TableColumn) (rows : List (List (Option (List ℕ)))) → AllByRecursion (AreCells columns) rows → EachTree row_label (IsLaid (row_of columns)) (rows_trees columns rows)
rows_laid columns [] h = tt
rows_laid columns (r ∷ rs) h = (refl, row_laid columns r h.0, rows_laid columns rs h.1)

-- a document of rows is laid out as its shape says
pub shapes_laid : ShapesAreLaid
shapes_laid Any rows h = tt
shapes_laid (Rows name columns) rows h = (refl, rows_laid columns.items rows h, tt)

-- fields, one for each column at least, are cells that have values
fields_are : (columns : List TableColumn) (fields : List (List ℕ)) → length columns ≤ length fields → AreCells columns (map (λ (field : List ℕ). Some field) fields)
fields_are [] fields h = tt
fields_are (c ∷ cs) [] h = absurd (omega (arith, h))
fields_are (c ∷ cs) (x ∷ xs) h = (tt, fields_are cs xs (omega (arith, h)))

-- records that have a field for each column are rows of such cells
records_are : (columns : List TableColumn) (records : List (List (List ℕ))) → AllByRecursion (λ fields. length columns ≤ length fields) records
    → AllByRecursion (AreCells columns) (map (λ fields. map (λ (field : List ℕ). Some field) fields) records)
records_are columns [] h = tt
records_are columns (r ∷ rs) h = (fields_are columns r h.0, records_are columns rs h.1)

-- a document of records that have a field for each column is laid out as its shape says
pub files_laid : FilesAreLaid
files_laid shape records h = shapes_laid shape (map (λ fields. map (λ (field : List ℕ). Some field) fields) records) (records_are (columns_of shape) records h)
