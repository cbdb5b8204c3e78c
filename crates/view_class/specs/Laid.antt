-- That documents of CSV files and of tables are laid out as a catalog says.
use Rattle.std.specs.Prelude.{◌≡◌, ℕ, true, IsSome, List, [], ◌∷◌, length, map}
use Rattle.std.specs.List.{All}
use Rattle.mix_tree.specs.Forest.{alone}
use Rattle.mix_catalog.specs.declared.column.Column.{Column}
use Rattle.csv_wrap.specs.Csv.{IsRow}
use Rattle.csv_wrap.specs.Rows.{file_tree}
use Rattle.table_keep.specs.Rows.{Row, Value}
use Rattle.table_wrap.specs.Rows.{label_of, table_tree}
use Rattle.browse_visit.specs.Layouts.{IsLaid}
use Rattle.view_class.specs.Layouts.{rows_layout, field_column, declared_column}

-- there is a value for each column, and one that is not NULL for a column that is never NULL
abbrev pub AreValues : List Column → List Value → Type 0
AreValues [] values = Unit {0}
AreValues (c ∷ cs) [] = ⊥
AreValues (c ∷ cs) (v ∷ vs) = (c.never_null ≡ true → IsSome (label_of v)) × AreValues cs vs

-- each of these rows has a value for each column, and none is NULL where the column is never NULL
abbrev pub AreRows : List Column → List Row → Type 0
AreRows columns rows = All (λ (r : Row). AreValues columns r.values) rows

-- the document of a CSV file is laid out as its columns say
abbrev pub FilesAreLaid : Type 0
FilesAreLaid = (name : List ℕ) (columns : List (List ℕ)) (rows : List (List (List ℕ))) → All (IsRow (length columns)) rows
    → IsLaid (rows_layout name (map field_column columns)) (alone (file_tree name columns rows))

-- the document of a table is laid out as its columns say
abbrev pub TablesAreLaid : Type 0
TablesAreLaid = (name : List ℕ) (columns : List Column) (rows : List Row) → AreRows columns rows
    → IsLaid (rows_layout name (map declared_column columns)) (alone (table_tree name columns rows))
