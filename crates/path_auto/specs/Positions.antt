-- The positions of a path: before each of its labels, with what is to come after the label.
use Rattle.std.specs.Prelude.{◌≡◌, ◌⊎◌, ℕ, Bool, true, false, ◌&&◌, ◌||◌, IsTrue, List, [], ◌∷◌, ◌++◌, Option, Some, None}
use Rattle.std.specs.Str.{bytes_eq, IsUtf8}
use Rattle.path_expr.specs.Form.{Head, name, any, seq, alt, star, plus, opt, Paths, none, path}
use Rattle.path_expr.specs.Description.{Labels, How, in_turn, one_of, DescribesAs}

-- a position: which label may stand there (None: any), and the paths that follow in turn
pub record Position : Type 0 where
  pub test : Option (List ℕ)
  pub rest : Paths

-- whether a label may stand at a position
abbrev pub passes : Option (List ℕ) → List ℕ → Bool
passes None c = true
passes (Some l) c = bytes_eq l c

-- the label of a test, where it has one, is UTF-8
abbrev pub TestUtf8 : Option (List ℕ) → Type 0
TestUtf8 None = Unit {0}
TestUtf8 (Some l) = IsUtf8 l

-- the position with this test and these paths after it
abbrev pub position : Option (List ℕ) → Paths → Position
position t k = record { test = t; rest = k }

-- the lists of labels that lead from a position to the end
abbrev pub Takes : Position → Labels → Type 0
Takes s x = (c : List ℕ) × (y : Labels) × (c ∷ y ≡ x) × IsTrue (passes s.test c) × DescribesAs s.rest in_turn y

-- the lists of labels that lead to the end from one of these positions
abbrev pub Begins : List Position → Labels → Type 0
Begins [] x = ⊥
Begins (s ∷ ss) x = Takes s x ⊎ Begins ss x

-- whether a head describes the empty list, by whether its members do
abbrev pub nullable_by : Head → (How → Bool) → Bool
nullable_by (name l) n = false
nullable_by any n = false
nullable_by seq n = n in_turn
nullable_by alt n = n one_of
nullable_by star n = true
nullable_by plus n = n one_of
nullable_by opt n = true

-- whether paths describe the empty list
abbrev pub nullable : Paths → How → Bool
nullable none in_turn = true
nullable none one_of = false
nullable (path h m after) in_turn = nullable_by h (nullable m) && nullable after in_turn
nullable (path h m after) one_of = nullable_by h (nullable m) || nullable after one_of

-- the positions of a path at which its first label may stand, by those of its members; k is what comes after the path
abbrev pub starts_by : Head → Paths → (How → Paths → List Position) → Paths → List Position
starts_by (name l) m s k = position (Some l) k ∷ []
starts_by any m s k = position None k ∷ []
starts_by seq m s k = s in_turn k
starts_by alt m s k = s one_of k
starts_by star m s k = s one_of (path star m k)
starts_by plus m s k = s one_of (path star m k)
starts_by opt m s k = s one_of k

-- the given positions where a test holds, else none
abbrev pub positions_if : Bool → List Position → List Position
positions_if true ss = ss
positions_if false ss = []

-- the positions at which the first label of paths may stand
abbrev pub starts : Paths → How → Paths → List Position
starts none w k = []
starts (path h m after) in_turn k = starts_by h m (starts m) (path seq after k) ++ positions_if (nullable_by h (nullable m)) (starts after in_turn k)
starts (path h m after) one_of k = starts_by h m (starts m) k ++ starts after one_of k

-- all positions of a path in the order of its text, by those of its members
abbrev pub listed_by : Head → Paths → (How → Paths → List Position) → Paths → List Position
listed_by (name l) m s k = position (Some l) k ∷ []
listed_by any m s k = position None k ∷ []
listed_by seq m s k = s in_turn k
listed_by alt m s k = s one_of k
listed_by star m s k = s one_of (path star m k)
listed_by plus m s k = s one_of (path star m k)
listed_by opt m s k = s one_of k

-- all positions of paths in the order of their text
abbrev pub listed : Paths → How → Paths → List Position
listed none w k = []
listed (path h m after) in_turn k = listed_by h m (listed m) (path seq after k) ++ listed after in_turn k
listed (path h m after) one_of k = listed_by h m (listed m) k ++ listed after one_of k

-- the tests of these positions, in order
abbrev pub tests : List Position → List (Option (List ℕ))
tests [] = []
tests (s ∷ ss) = s.test ∷ tests ss
