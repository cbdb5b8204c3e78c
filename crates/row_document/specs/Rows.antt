-- The document of rows: a name, below it the rows, and below each row its cells; and the lists with which its parts are given.
use Rattle.std.specs.Prelude.{ℕ, Bool, cond, List, [], ◌∷◌, map}
use Rattle.mix_tree.specs.Forest.{Forest, LabelledTree, forest_of}
use Rattle.lxp_core.specs.declared.open_tree.HoleId.{HoleId}
use Rattle.lxp_core.specs.Open.{Open, nil, node, hole, open_followed, without_holes}

-- the tree of a row above its cells, which is called "row"
abbrev pub row_tree : List LabelledTree → LabelledTree
row_tree cells = record { label = 114 ∷ 111 ∷ 119 ∷ []; kids = forest_of cells }

-- the trees of rows one after another, by the cells of each
abbrev pub row_forest : {R : Type 0} → (R → List LabelledTree) → List R → Forest
row_forest cells rows = forest_of (map (λ r. row_tree (cells r)) rows)

-- the tree of a document of rows: its name, and the rows below it
abbrev pub rows_tree : {R : Type 0} → List ℕ → (R → List LabelledTree) → List R → LabelledTree
rows_tree name cells rows = record { label = name; kids = row_forest cells rows }

-- the list of a whole document of rows: its name, above a hole for all rows
abbrev pub name_given : List ℕ → HoleId → Open
name_given name all = node name (hole all nil) nil

-- the hole for the rows that are left, where more are to come
abbrev pub rest_given : Bool → HoleId → Open
rest_given more rest = cond more (hole rest nil) nil

-- the list of some rows: each of them whole, and a hole behind them where more are to come
abbrev pub rows_given : {R : Type 0} → (R → List LabelledTree) → List R → Bool → HoleId → Open
rows_given cells rows more rest = open_followed (without_holes (row_forest cells rows)) (rest_given more rest)
