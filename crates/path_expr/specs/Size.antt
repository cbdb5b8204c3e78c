-- How large paths are.
use Rattle.std.specs.Prelude.{◌≤◌, ◌+◌, ℕ, List, [], ◌∷◌}
use Rattle.std.proofs.Common.{arith}
use denote.Param.Weighed.{most}
use Rattle.path_expr.specs.Form.{Paths, none, path, Form, paths_of}

-- how many paths there are, members included
abbrev pub size_of : Paths → ℕ
size_of none = 0
size_of (path head members after) = 1 + size_of members + size_of after

-- how many paths there are in a path, itself and its members included
abbrev pub form_size : Form → ℕ
form_size p = 1 + size_of p.members

-- no path of a list is larger than the whole list
pub most_le-size_of : (ps : List Form) → most (λ p. form_size p + 1) ps ≤ size_of (paths_of ps) + 1
most_le-size_of [] = omega arith
most_le-size_of (p ∷ ps) = omega (arith, most_le-size_of ps)
