-- Columns of which no two have one name.
use Rattle.std.proofs.Common.{◌≡◌, ◌≤◌, ◌-◌, ◌∙◌, ℕ, Bool, ◌&&◌, ◌||◌, not, List, [], ◌∷◌, refl, ap, sym, arith, length, map, take, drop, get_or}
use Rattle.std.proofs.lemmas.List.{take_all}
use Rattle.std.specs.List.{list_any}
use Rattle.std.specs.Str.{bytes_eq}
use Rattle.mix_catalog.specs.declared.column.Column.{Column}
use Rattle.mix_catalog.specs.Columns.{are_apart}

-- a test of names is a test of columns
any_named : (p : List ℕ → Bool) (xs : List Column) → list_any p (map (λ (c : Column). c.name) xs) ≡ list_any (λ (c : Column). p c.name) xs
any_named p [] = refl
any_named p (x ∷ xs) = ap (λ t. p x.name || t) (any_named p xs)

-- no two columns have one name exactly where the first differs from those after it, and those differ too
pub named_apart : (xs : List Column) (d : Column) → 1 ≤ length xs
    → are_apart (map (λ (c : Column). c.name) xs)
    ≡ (not (list_any (λ (c : Column). bytes_eq (get_or xs 0 d).name c.name) (take (length xs - 1) (drop 1 xs))) && are_apart (map (λ (c : Column). c.name) (take (length xs - 1) (drop 1 xs))))
named_apart [] d h = absurd (omega arith)
named_apart (x ∷ xs) d h =
    ap (λ t. not t && are_apart (map (λ (c : Column). c.name) xs)) (any_named (bytes_eq x.name) xs)
    ∙ ap (λ (ys : List Column). not (list_any (λ (c : Column). bytes_eq x.name c.name) ys) && are_apart (map (λ (c : Column). c.name) ys)) (sym (take_all (length (x ∷ xs) - 1) xs (omega arith)))
