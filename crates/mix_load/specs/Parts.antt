-- The bytes of bracket text that stand between a tree and the next one in document order.
use Rattle.std.specs.Prelude.{ℕ, ◌+◌, Bool, false, cond, ◌==◌, ◌||◌, List, [], ◌∷◌}
use Rattle.mix_load.specs.declared.nodes.Stand.{Stand}
use Rattle.mix_load.specs.declared.nodes.Stand.TheVariants.{Outside, Quoted, Escaped}

-- where the byte after a given byte stands: outside of quotes, in them, or escaped
abbrev pub after : Stand → ℕ → Stand
after Outside b = cond (b == 34) Quoted Outside
after Quoted b = cond (b == 34) Outside (cond (b == 92) Escaped Quoted)
after Escaped b = Quoted

-- whether a byte is an opening bracket or a comma outside of quotes
abbrev pub parts_at : Stand → ℕ → Bool
parts_at Outside b = b == 91 || b == 44
parts_at Quoted b = false
parts_at Escaped b = false

-- how many opening brackets and commas outside of quotes a text has
abbrev pub parts : Stand → List ℕ → ℕ
parts s [] = 0
parts s (b ∷ x) = cond (parts_at s b) 1 0 + parts (after s b) x
