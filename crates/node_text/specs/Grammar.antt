-- How identifiers are written.
use Rattle.std.specs.Prelude.{◌≡◌, ℕ, List, [], ◌∷◌, ◌++◌}
use Rattle.std.specs.List.{flat_map}
use Rattle.std.specs.Fmt.{decimal}
use Rattle.node_text.specs.Node.{LevelValue, NodeValue, IsFormed, IsSmall}

-- the texts of a list's members, with a byte between each two
abbrev pub between : {X : Type 0} → ℕ → (X → List ℕ) → List X → List ℕ
between b f [] = []
between b f (x ∷ xs) = f x ++ flat_map (λ y. b ∷ f y) xs

-- a place: its numbers with dots between them
abbrev pub place_text : List ℕ → List ℕ
place_text p = between 46 decimal p

-- the places of a level in parentheses, with commas between them; nothing where there are none
abbrev pub tuple_text : List (List ℕ) → List ℕ
tuple_text [] = []
tuple_text (p ∷ ps) = 40 ∷ between 44 place_text (p ∷ ps) ++ 41 ∷ []

-- a level: the number of its piece, and its places
abbrev pub level_text : LevelValue → List ℕ
level_text l = decimal l.piece ++ tuple_text l.tuple

-- levels with slashes between them
abbrev pub levels_text : List LevelValue → List ℕ
levels_text ls = between 47 level_text ls

-- a colon and the place below; nothing where there is none
abbrev pub inside_text : List ℕ → List ℕ
inside_text [] = []
inside_text (i ∷ p) = 58 ∷ place_text (i ∷ p)

-- the text of levels and a place below; a minus sign where there are no levels
abbrev pub text_of : List LevelValue → List ℕ → List ℕ
text_of [] p = 45 ∷ []
text_of (l ∷ ls) p = levels_text (l ∷ ls) ++ inside_text p

-- the text of an identifier
abbrev pub node_text : NodeValue → List ℕ
node_text n = text_of n.levels n.inside

-- the text spells the identifier
pub record Spells (x : List ℕ) (n : NodeValue) : Type 0 where
  pub formed : IsFormed n
  pub small : IsSmall n
  pub text : node_text n ≡ x
