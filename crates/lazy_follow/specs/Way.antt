-- Variables that the code finds one by one.
use Rattle.std.specs.Prelude.{ℕ, Option, Some, None, List, [], ◌∷◌}

-- a variable that was found as a list of one; none where there is none
abbrev pub vars_in : Option ℕ → List ℕ
vars_in None = []
vars_in (Some v) = v ∷ []
