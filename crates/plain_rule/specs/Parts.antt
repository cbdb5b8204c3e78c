-- Lists of labels in parts that a path describes.
use Rattle.std.specs.Prelude.{◌<◌, [], ◌∷◌, length}
use Rattle.path_expr.specs.Form.{Form, paths_of}
use Rattle.path_expr.specs.Description.{Labels, DescribesAs, one_of, Then, Many}

-- a path as the only member of a choice describes the list
abbrev pub DescribesAlone : Form → Labels → Type 0
DescribesAlone p x = DescribesAs (paths_of (p ∷ [])) one_of x

-- a list of the kind that has a label, and any number of the kind after it
abbrev pub Begins : (Labels → Type 0) → Labels → Type 0
Begins P x = Then (λ y. (0 < length y) × P y) (Many P) x
