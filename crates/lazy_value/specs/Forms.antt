-- What a test says, and what the root's text is.
use Rattle.std.specs.Prelude.{Bool, true, false, ℕ, List, []}
use Rattle.node_text.specs.Grammar.{Spells}
use Rattle.node_text.specs.Node.{node}

-- a test is true where something holds, and false where it doesn't
abbrev pub Decides : Type 0 → Bool → Type 0
Decides P true = P
Decides P false = P → ⊥

-- a text spells the root
abbrev pub SpellsRoot : List ℕ → Type 0
SpellsRoot text = Spells text (node [] [])
