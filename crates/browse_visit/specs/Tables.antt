-- The documents of tables: rows of cells.
use Rattle.std.specs.Prelude.{◌≡◌, ◌≤◌, ℕ, Bool, false, List, [], ◌∷◌, Option, Some, None, length, map}
use Rattle.std.specs.List.{AllByRecursion}
use Rattle.mix_tree.specs.Forest.{Forest, none, tree}
use Rattle.browse_visit.specs.declared.shape.Shape.{Shape}
use Rattle.browse_visit.specs.declared.visit.TableColumn.{TableColumn}
use Rattle.browse_visit.specs.Layouts.{IsLaid}
use Rattle.browse_visit.specs.Shapes.{row_label, name_of, columns_of, shape_layout}

-- the list of a cell: its value, or nothing
abbrev pub cell_trees : Option (List ℕ) → Forest
cell_trees None = none
cell_trees (Some value) = tree value none none

-- the columns of a row, each with its cell; nothing below those for which there is no cell
abbrev pub row_trees : List TableColumn → List (Option (List ℕ)) → Forest
row_trees [] cells = none
row_trees (c ∷ cs) [] = tree c.label none (row_trees cs [])
row_trees (c ∷ cs) (x ∷ xs) = tree c.label (cell_trees x) (row_trees cs xs)

-- the trees of rows, one for each
abbrev pub rows_trees : List TableColumn → List (List (Option (List ℕ))) → Forest
rows_trees columns [] = none
rows_trees columns (r ∷ rs) = tree row_label (row_trees columns r) (rows_trees columns rs)

-- the document of a table with a name, columns and rows of cells
abbrev pub table_document : List ℕ → List TableColumn → List (List (Option (List ℕ))) → Forest
table_document name columns rows = tree name (rows_trees columns rows) none

-- a column that always has a value has one here
abbrev pub IsCell : Bool → Option (List ℕ) → Type 0
IsCell has None = has ≡ false
IsCell has (Some value) = Unit {0}

-- each cell of a row has a value where its column always has one
abbrev pub AreCells : List TableColumn → List (Option (List ℕ)) → Type 0
AreCells [] cells = Unit {0}
AreCells (c ∷ cs) [] = (c.has_value ≡ false) × AreCells cs []
AreCells (c ∷ cs) (x ∷ xs) = IsCell c.has_value x × AreCells cs xs

-- documents of tables are laid out as their shapes say
abbrev pub ShapesAreLaid : Type 0
ShapesAreLaid = (shape : Shape) (rows : List (List (Option (List ℕ)))) → AllByRecursion (AreCells (columns_of shape)) rows
    → IsLaid (shape_layout shape) (table_document (name_of shape) (columns_of shape) rows)

-- a file has a value in each field, be it the empty text
abbrev pub FilesAreLaid : Type 0
FilesAreLaid = (shape : Shape) (records : List (List (List ℕ))) → AllByRecursion (λ fields. length (columns_of shape) ≤ length fields) records
    → IsLaid (shape_layout shape) (table_document (name_of shape) (columns_of shape) (map (λ fields. map (λ (field : List ℕ). Some field) fields) records))
