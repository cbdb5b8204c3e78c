-- What a file of bracket text stands for.
use Rattle.std.specs.Prelude.{ℕ, List}
use Rattle.std.specs.Str.{IsUtf8}
use Rattle.mix_tree.specs.Forest.{LabelledTree}
use Rattle.bracket_text.specs.Grammar.{SpellsShallow}

-- a text spells a tree of at most 200 levels
abbrev pub SpellsTree : List ℕ → LabelledTree → Type 0
SpellsTree text t = IsUtf8 text × SpellsShallow text t
