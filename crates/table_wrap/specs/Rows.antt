-- The document of a table: the source's name, below it the rows, and below each row its columns, each with its value below it.
use Rattle.std.specs.Prelude.{ℕ, List, [], ◌∷◌, Option, Some, None}
use Rattle.std.specs.Fmt.{signed_decimal}
use Rattle.hex.specs.Hex.{encode_lower}
use Rattle.mix_tree.specs.Forest.{Forest, none, tree, LabelledTree}
use Rattle.mix_catalog.specs.declared.column.Column.{Column}
use Rattle.row_document.specs.Rows as rows
use Rattle.table_keep.specs.Rows.{Value, null, int, text, bytes, Row}

-- the label of a value: a number in decimal digits, a text itself, bytes with two digits each, and none of NULL
abbrev pub label_of : Value → Option (List ℕ)
label_of null = None
label_of (int n) = Some (signed_decimal n)
label_of (text t) = Some t
label_of (bytes b) = Some (encode_lower b)

-- a leaf with a label, where there is one
abbrev pub leaf : Option (List ℕ) → Forest
leaf None = none
leaf (Some label) = tree label none none

-- the tree of a column of a row: its name, and the label of its value below it
abbrev pub cell : Column → Value → LabelledTree
cell column v = record { label = column.name; kids = leaf (label_of v) }

-- the trees of the columns of a table's row
abbrev pub cells : List Column → List Value → List LabelledTree
cells [] values = []
cells (c ∷ cs) [] = []
cells (c ∷ cs) (v ∷ vs) = cell c v ∷ cells cs vs

-- the trees of the columns of a row of a table
abbrev pub row_cells : List Column → Row → List LabelledTree
row_cells columns r = cells columns r.values

-- the trees of a table's rows, one after another
abbrev pub row_forest : List Column → List Row → Forest
row_forest columns all = rows.row_forest (row_cells columns) all

-- the tree of a table: the source's name, and the rows under given columns below it
abbrev pub table_tree : List ℕ → List Column → List Row → LabelledTree
table_tree name columns all = rows.rows_tree name (row_cells columns) all
