-- How many positions paths have.
use Rattle.std.specs.Prelude.{ℕ, ◌+◌}
use Rattle.path_expr.specs.Form.{Head, name, any, seq, alt, star, plus, opt, Paths, none, path}

-- how many positions a path has, by how many its members have
abbrev pub count_by : Head → ℕ → ℕ
count_by (name l) n = 1
count_by any n = 1
count_by seq n = n
count_by alt n = n
count_by star n = n
count_by plus n = n
count_by opt n = n

-- how many positions paths have
abbrev pub count : Paths → ℕ
count none = 0
count (path h m after) = count_by h (count m) + count after
