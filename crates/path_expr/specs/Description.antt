-- Which lists of labels a path describes.
use Rattle.std.specs.Prelude.{◌≡◌, ◌⊎◌, ℕ, zero, suc, List, [], ◌∷◌, ◌++◌}
use Rattle.path_expr.specs.Form.{Head, name, any, seq, alt, star, plus, opt, Paths, none, path, Form}

-- a list of labels, each as its bytes
abbrev pub Labels : Type 0
Labels = List (List ℕ)

-- all paths of a list in turn, or one of them
pub data How : Type 0 where
  in_turn : How
  one_of : How

-- a list of the first kind with one of the second after it
abbrev pub Then : (Labels → Type 0) → (Labels → Type 0) → Labels → Type 0
Then P Q x = (y : Labels) × (z : Labels) × (y ++ z ≡ x) × P y × Q z

-- n lists of the kind, one after another
abbrev pub Times : (Labels → Type 0) → ℕ → Labels → Type 0
Times P zero x = x ≡ []
Times P (suc n) x = Then P (Times P n) x

-- any number of lists of the kind, one after another
abbrev pub Many : (Labels → Type 0) → Labels → Type 0
Many P x = (n : ℕ) × Times P n x

-- what a head describes, with what its members do: a label itself alone, _ any one label, a sequence its members in turn, a choice what one
-- of them does, and the marks any number, at least one and at most one
abbrev pub DescribesBy : Head → (How → Labels → Type 0) → Labels → Type 0
DescribesBy (name l) Members x = x ≡ l ∷ []
DescribesBy any Members x = (l : List ℕ) × (x ≡ l ∷ [])
DescribesBy seq Members x = Members in_turn x
DescribesBy alt Members x = Members one_of x
DescribesBy star Members x = Many (Members one_of) x
DescribesBy plus Members x = Then (Members one_of) (Many (Members one_of)) x
DescribesBy opt Members x = (x ≡ []) ⊎ Members one_of x

-- what a list of paths describes, in turn or one of them
abbrev pub DescribesAs : Paths → How → Labels → Type 0
DescribesAs none in_turn x = x ≡ []
DescribesAs none one_of x = ⊥
DescribesAs (path h members after) in_turn x = Then (DescribesBy h (DescribesAs members)) (DescribesAs after in_turn) x
DescribesAs (path h members after) one_of x = DescribesBy h (DescribesAs members) x ⊎ DescribesAs after one_of x

-- the path describes the list of labels
abbrev pub Describes : Form → Labels → Type 0
Describes p x = DescribesBy p.head (DescribesAs p.members) x
