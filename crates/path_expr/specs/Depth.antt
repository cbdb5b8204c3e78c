-- How deep the parentheses of a written path go.
use Rattle.std.specs.Prelude.{ℕ, ◌+◌, max, cond, nat_lt, length, Option, Some, None}
use Rattle.path_expr.specs.Grammar.{Spelled, word, quote, group, marked, dot, bar, text_of}

-- the most parentheses that are open at once
abbrev pub nesting : Spelled → ℕ
nesting (word l) = 0
nesting (quote ps) = 0
nesting (group p) = 1 + nesting p
nesting (marked p m) = nesting p
nesting (dot p q) = max (nesting p) (nesting q)
nesting (bar p q) = max (nesting p) (nesting q)

-- the first place, else the second
abbrev pub first_of : Option ℕ → Option ℕ → Option ℕ
first_of None b = b
first_of (Some a) b = Some a

-- a place where more than 100 parentheses are open, else none
abbrev pub deep_here : ℕ → ℕ → Option ℕ
deep_here n at = cond (nat_lt 100 n) (Some at) None

-- the place of the first parenthesis that is open inside 100 others, in a path that begins at a place, inside n of them
abbrev pub deep_from : ℕ → ℕ → Spelled → Option ℕ
deep_from n at (word l) = None
deep_from n at (quote ps) = None
deep_from n at (group p) = cond (nat_lt n 100) (deep_from (n + 1) (at + 1) p) (Some at)
deep_from n at (marked p m) = deep_from n at p
deep_from n at (dot p q) = first_of (deep_from n at p) (deep_from n (at + length (text_of p) + 1) q)
deep_from n at (bar p q) = first_of (deep_from n at p) (deep_from n (at + length (text_of p) + 1) q)

-- the place in a whole path of the first parenthesis that is open inside 100 others
abbrev pub deep_at : Spelled → Option ℕ
deep_at p = deep_from 0 0 p
