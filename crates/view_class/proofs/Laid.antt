-- Rows of files and of tables are laid out as their columns say.
use Rattle.std.proofs.Common.{◌≡◌, inl, inr, ℕ, Bool, true, false, List, [], ◌∷◌, Option, Some, None, IsSome, refl, arith, length, map}
use Rattle.std.specs.List.{All}
use Rattle.std.proofs.lemmas.List.Elements.{All-head, All-tail}
use Rattle.mix_tree.specs.Forest.{LabelledTree, alone, forest_of}
use Rattle.mix_catalog.specs.declared.column.Column.{Column}
use Rattle.csv_wrap.specs.Csv.{IsRow}
use Rattle.csv_wrap.specs.Rows as csv
use Rattle.row_document.specs.Rows.{row_forest, rows_tree}
use Rattle.table_keep.specs.Rows.{Value}
use Rattle.table_wrap.specs.Rows as table
use Rattle.browse_visit.specs.declared.visit.TableColumn.{TableColumn}
use Rattle.browse_visit.specs.Layouts.{EachTree, IsLaid, value_layout}
use Rattle.browse_visit.specs.Shapes.{row_label, row_of}
use Rattle.view_class.specs.Layouts.{declared_column, field_column, rows_layout}
use Rattle.view_class.specs.Laid.{AreValues, FilesAreLaid, TablesAreLaid}

-- a document of rows is laid out as columns say, where the cells of each row are
rows_laid : {R : Type 0} (name : List ℕ) (columns : List TableColumn) (cells : R → List LabelledTree) (Is : R → Type 0)
    → ((r : R) → Is r → IsLaid (row_of columns) (forest_of (cells r))) → (rows : List R) → All Is rows
    → IsLaid (rows_layout name columns) (alone (rows_tree name cells rows))
rows_laid {R} name columns cells Is laid rows h = (refl, each rows h, tt)
  where
    each : (rs : List R) → All Is rs → EachTree row_label (IsLaid (row_of columns)) (row_forest cells rs)
    each [] k = tt
    each (r ∷ rs) k = (refl, laid r (All-head Is r rs k), each rs (All-tail Is r rs k))

-- the fields of a row of a file are laid out as its columns say
fields_laid : (columns fields : List (List ℕ)) → length fields ≡ length columns → IsLaid (row_of (map field_column columns)) (forest_of (csv.cells columns fields))
fields_laid [] fields h = tt
fields_laid (c ∷ cs) [] h = absurd (omega (arith, h))
fields_laid (c ∷ cs) (f ∷ fs) h = (refl, (tt, tt), fields_laid cs fs (omega (arith, h)))

-- the document of a CSV file is laid out as its columns say
pub files_laid : FilesAreLaid
files_laid name columns rows h =
    rows_laid name (map field_column columns) (csv.cells columns) (IsRow (length columns)) (λ fields row. fields_laid columns fields row.0) rows h

-- a value that is there wherever one always is, is laid out as its column says
value_laid : (always : Bool) (label : Option (List ℕ)) → (always ≡ true → IsSome label) → IsLaid (value_layout always) (table.leaf label)
value_laid true None h = absurd (let z : false ≡ true = h refl in cc)
value_laid true (Some label) h = (tt, tt)
value_laid false None h = inl tt
value_laid false (Some label) h = inr (tt, tt)

-- the values of a row of a table are laid out as its columns say
values_laid : (columns : List Column) (values : List Value) → AreValues columns values → IsLaid (row_of (map declared_column columns)) (forest_of (table.cells columns values))
values_laid [] values h = tt
values_laid (c ∷ cs) [] h = absurd h
values_laid (c ∷ cs) (v ∷ vs) h = (refl, value_laid c.never_null (table.label_of v) h.0, values_laid cs vs h.1)

-- the document of a table is laid out as its columns say
pub tables_laid : TablesAreLaid
tables_laid name columns rows h =
    rows_laid name (map declared_column columns) (λ r. table.cells columns r.values) (λ r. AreValues columns r.values) (λ r. values_laid columns r.values) rows h
