-- Whether the text of a file is what it is to be.
use Rattle.std.specs.Prelude.{ℕ, List, Option, Some, None}
use Rattle.mix_place.specs.declared.refusal.FileFault.{FileFault}
use Rattle.mix_tree.specs.Forest.{LabelledTree}

-- a text stands for a tree, where no fault is found, or the fault says why it stands for none
abbrev pub Judges : (List ℕ → LabelledTree → Type 0) → (List ℕ → FileFault → Type 0) → List ℕ → Option FileFault → Type 0
Judges Stands IsNone text None = (t : LabelledTree) × Stands text t
Judges Stands IsNone text (Some fault) = IsNone text fault
