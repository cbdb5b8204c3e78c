-- How many levels of elements a template has.
use Rattle.std.specs.Prelude.{ℕ, ◌+◌, max}
use Rattle.xmas_text.specs.Grammar.{Items, nothing, variable, literal, element}

-- the most elements that stand one inside another
abbrev pub levels : Items → ℕ
levels nothing = 0
levels (variable before g k e) = levels before
levels (literal before g ps) = levels before
levels (element before g name inside h close e) = max (levels before) (1 + levels inside)
