-- Source documents that are given as a list of trees.
use Rattle.std.specs.Prelude.{zero, suc, List, [], ◌∷◌}
use Rattle.mix_tree.specs.Forest.{none, LabelledTree, alone}
use Rattle.mix_tree.specs.Nodes.{Documents}

-- the document of each source is the tree of its number; the others have none
abbrev pub documents_of : List LabelledTree → Documents
documents_of [] s = none
documents_of (t ∷ ts) zero = alone t
documents_of (t ∷ ts) (suc s) = documents_of ts s
