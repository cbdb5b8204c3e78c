-- What names hold in two ways at once.
use Rattle.std.specs.Prelude.{ℕ, List, Option, Some, None}
use Rattle.mix_script.specs.Names.{NamesOf}

-- both values are there and go together, or neither is there
abbrev pub Both : {V W : Type 0} → (V → W → Type 0) → Option V → Option W → Type 0
Both With None None = Unit {0}
Both With None (Some w) = ⊥
Both With (Some v) None = ⊥
Both With (Some v) (Some w) = With v w

-- each name holds in both ways what goes together
abbrev pub HoldBoth : {V W : Type 0} → (V → W → Type 0) → NamesOf V → NamesOf W → Type 0
HoldBoth With names others = (client name : List ℕ) → Both With (names client name) (others client name)
