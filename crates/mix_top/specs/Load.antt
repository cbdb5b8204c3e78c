-- What `load` writes: what a visit of many people comes to.
use Rattle.std.specs.Prelude.{◌≡◌, ℕ, ◌+◌, List, ◌++◌, length, codes}
use Rattle.std.specs.Fmt.{decimal}
use Rattle.mix_tree.specs.Forest.{LabelledTree}
use Rattle.mix_tree.specs.Weight.{tree_nodes}
use Rattle.bracket_text.specs.Canonical.{canon}
use Rattle.browse_class.specs.declared.class.Class.{Class}
use Rattle.view_class.specs.Lines.{class_line}
use Rattle.mix_load.specs.Classing.{names_class}
use Rattle.mix_load.specs.Visit.{AreNames}

-- the lines that tell the numbers of rows, commands, nodes and bytes of a visit
abbrev pub visit_lines : (rows commands nodes bytes : ℕ) → List ℕ
visit_lines rows commands nodes bytes =
    codes "rows " ++ decimal rows ++ codes "\ncommands " ++ decimal commands ++ codes "\nnodes " ++ decimal nodes ++ codes "\nbytes " ++ decimal bytes ++ codes "\n"

-- the lines that tell the numbers of a visit, and the line of a class
abbrev pub load_lines : (rows commands nodes bytes : ℕ) → Class → List ℕ
load_lines rows commands nodes bytes class = visit_lines rows commands nodes bytes ++ class_line class

-- what `load` writes: the counts of a visit that walks and prints the finished document of the view of people's names, and the view's class
abbrev pub Loads : ℕ → ℕ → List ℕ → Type 0
Loads count status lines =
    (status ≡ 0) × (t : LabelledTree) × AreNames count t × (lines ≡ load_lines count (count + 3) (tree_nodes t) (length (canon t)) names_class)
