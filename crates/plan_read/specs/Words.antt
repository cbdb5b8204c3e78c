-- The words of a plan's line: what stands between single blanks, where quotes and braces keep what they hold together.
use Rattle.std.specs.Prelude.{ℕ, Bool, true, false, cond, ◌&&◌, ◌==◌, List, [], ◌∷◌, ◌++◌}
use Rattle.std.specs.List.{flat_map}
use Rattle.mix_words.specs.Words.{with_first}
use Rattle.plan_read.specs.declared.words.Mode.{Mode}
use Rattle.plan_read.specs.declared.words.Mode.TheVariants.{Plain, Braced, Quoted, Escaped}

-- where a byte stands after one more byte: outside, between braces, between quotes, or after a backslash there
abbrev pub mode_after : Mode → ℕ → Mode
mode_after Plain b = cond (b == 34) Quoted (cond (b == 123) Braced Plain)
mode_after Braced b = cond (b == 125) Plain Braced
mode_after Quoted b = cond (b == 34) Plain (cond (b == 92) Escaped Quoted)
mode_after Escaped b = Quoted

-- whether a byte in this mode stands outside of quotes and braces
abbrev pub is_outside : Mode → Bool
is_outside Plain = true
is_outside Braced = false
is_outside Quoted = false
is_outside Escaped = false

-- the pieces of a text, which a separator parts where it stands outside of quotes and braces
abbrev pub cut : ℕ → Mode → List ℕ → List (List ℕ)
cut separator m [] = [] ∷ []
cut separator m (b ∷ bs) = cond (is_outside m && b == separator) ([] ∷ cut separator Plain bs) (with_first b (cut separator (mode_after m b) bs))

-- the words of a line
abbrev pub words : List ℕ → List (List ℕ)
words line = cut 32 Plain line

-- pieces with a separator between them
abbrev pub between : ℕ → List (List ℕ) → List ℕ
between separator [] = []
between separator (x ∷ xs) = x ++ flat_map (λ y. separator ∷ y) xs
