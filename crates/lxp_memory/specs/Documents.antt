-- What is kept for each source in memory.
use Rattle.std.specs.Prelude.{ℕ, zero, suc, List, [], ◌∷◌}
use Rattle.std.specs.List.{AllByRecursion, AllByRecursion-prop}
use Rattle.mix_tree.specs.Forest.{Forest, none, LabelledTree, alone}
use Rattle.lxp_memory.specs.declared.document.DocNode.{DocNode}
use Rattle.lxp_memory.specs.declared.document.Document.{Document}
use Rattle.lxp_memory.specs.DocumentHoles.{document_forest, root_hole}
use Rattle.lxp_memory.specs.Small.{AreSmall, AreSmall-prop}

-- the document of a source among trees: a tree alone, or nothing where there are not so many
abbrev pub document_at : List LabelledTree → ℕ → Forest
document_at [] s = none
document_at (t ∷ ts) zero = alone t
document_at (t ∷ ts) (suc s) = document_at ts s

-- the root of a document in memory
abbrev pub root_of : Document → Forest
root_of d = document_forest d root_hole

-- the nodes of a source
abbrev pub nodes_at : List Document → ℕ → List DocNode
nodes_at [] s = []
nodes_at (d ∷ ds) zero = d.nodes.items
nodes_at (d ∷ ds) (suc s) = nodes_at ds s

-- the list below each node of each document is small enough for a wire
abbrev pub AreAllSmall : List Document → Type 0
AreAllSmall docs = AllByRecursion (λ d. AreSmall d.nodes.items) docs

-- documents have small lists in one way alone
pub AreAllSmall-prop : (docs : List Document) → IsProp (AreAllSmall docs)
AreAllSmall-prop docs = AllByRecursion-prop (λ d. AreSmall d.nodes.items) (λ d. AreSmall-prop d.nodes.items) docs
