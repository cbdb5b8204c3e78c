-- The document of a CSV file: the source's name, below it the rows, and below each row its columns, each with its field below it.
use Rattle.std.specs.Prelude.{ℕ, List, [], ◌∷◌}
use Rattle.mix_tree.specs.Forest.{Forest, none, tree, LabelledTree}
use Rattle.row_document.specs.Rows as rows

-- the tree of a column of a row: its name, and the field below it
abbrev pub cell : List ℕ → List ℕ → LabelledTree
cell column field = record { label = column; kids = tree field none none }

-- the trees of the columns of a CSV file's row
abbrev pub cells : List (List ℕ) → List (List ℕ) → List LabelledTree
cells [] fields = []
cells (c ∷ cs) [] = []
cells (c ∷ cs) (f ∷ fs) = cell c f ∷ cells cs fs

-- the trees of a CSV file's rows, one after another
abbrev pub row_forest : List (List ℕ) → List (List (List ℕ)) → Forest
row_forest columns all = rows.row_forest (cells columns) all

-- the tree of a CSV file: the source's name, and the rows under given columns below it
abbrev pub file_tree : List ℕ → List (List ℕ) → List (List (List ℕ)) → LabelledTree
file_tree name columns all = rows.rows_tree name (cells columns) all
