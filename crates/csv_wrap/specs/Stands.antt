-- What a CSV file stands for.
use Rattle.std.specs.Prelude.{◌≡◌, ℕ, List}
use Rattle.mix_tree.specs.Forest.{LabelledTree}
use Rattle.csv_wrap.specs.Csv.{IsFile}
use Rattle.csv_wrap.specs.Rows.{file_tree}

-- a text is a CSV file with given columns, and a tree is that of its rows as a source of a given name
abbrev pub HoldsRows : List ℕ → List (List ℕ) → List ℕ → LabelledTree → Type 0
HoldsRows name columns text t = (rows : List (List (List ℕ))) × IsFile text columns rows × (t ≡ file_tree name columns rows)
