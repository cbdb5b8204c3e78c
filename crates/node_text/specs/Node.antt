-- What an identifier's text says, apart from how it lies in memory.
use Rattle.std.specs.Prelude.{◌≡◌, ◌<◌, ◌^◌, ℕ, List, [], length}
use Rattle.std.specs.List.{AllByRecursion}
use Rattle.std.specs.Coded.{Coded, code_by, coded×, coded_ℕ, coded_list}
use Rattle.std.proofs.Common.{refl}

-- a level: the number of a piece, and the places by which a member of its list is found
pub record LevelValue : Type 0 where
  pub piece : ℕ
  pub tuple : List (List ℕ)

-- what a text says: the levels, and the place below the node to which they lead
pub record NodeValue : Type 0 where
  pub levels : List LevelValue
  pub inside : List ℕ

-- a level
abbrev pub level : ℕ → List (List ℕ) → LevelValue
level n ps = record { piece = n; tuple = ps }

-- the levels and the place below
abbrev pub node : List LevelValue → List ℕ → NodeValue
node ls p = record { levels = ls; inside = p }

-- a number of 64 bits
abbrev pub IsWord : ℕ → Type 0
IsWord n = n < 2 ^ 64

-- each number of a place has 64 bits
abbrev pub AreWords : List ℕ → Type 0
AreWords p = AllByRecursion IsWord p

-- places that are not empty
abbrev pub ArePlaces : List (List ℕ) → Type 0
ArePlaces ps = AllByRecursion (λ p. 0 < length p) ps

-- where there are no levels there is no place below, and no place of a level is empty
pub record IsFormed (n : NodeValue) : Type 0 where
  pub root : n.levels ≡ [] → n.inside ≡ []
  pub places : AllByRecursion (λ l. ArePlaces l.tuple) n.levels

-- all numbers of a level have 64 bits
pub record IsLevelSmall (l : LevelValue) : Type 0 where
  pub piece : IsWord l.piece
  pub tuple : AllByRecursion AreWords l.tuple

-- all numbers have 64 bits
pub record IsSmall (n : NodeValue) : Type 0 where
  pub levels : AllByRecursion IsLevelSmall n.levels
  pub inside : AreWords n.inside

-- the code of a level, by which a proof tells two of them apart
abbrev pub coded_level : Coded LevelValue
coded_level = code_by (ℕ × List (List ℕ)) (coded× coded_ℕ (coded_list (coded_list coded_ℕ))) (λ l. (l.piece, l.tuple)) (λ p. level p.0 p.1) (λ _. refl)

-- the code of what a text says
abbrev pub coded_node : Coded NodeValue
coded_node = code_by (List LevelValue × List ℕ) (coded× (coded_list coded_level) (coded_list coded_ℕ)) (λ n. (n.levels, n.inside)) (λ p. node p.0 p.1) (λ _. refl)
