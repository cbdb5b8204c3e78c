-- Lists of entries, seen field by field.
use Rattle.std.proofs.Common.{◌≡◌, ℕ, zero, suc, ◌<◌, List, [], ◌∷◌, length, get_or, set, map, refl, ap, sym, ◌∙◌, arith}
use Rattle.std.proofs.lemmas.List.{get_or-map}

-- the field of the entry at i is what stands at i in the list of that field
pub column : {X Y : Type 0} (f : X → Y) (xs : List X) (i : ℕ) (x : X) (d : Y) → i < length xs → x ≡ get_or xs i x → get_or (map f xs) i d ≡ f x
column f xs i x d within read = get_or-map f xs i x d within ∙ ap f (sym read)

-- a write that leaves a field of an entry as it was leaves the list of that field
pub map-set_same : {X Y : Type 0} (f : X → Y) (xs : List X) (i : ℕ) (y x : X) → x ≡ get_or xs i x → f y ≡ f x → i < length xs → map f (set xs i y) ≡ map f xs
map-set_same f [] i y x read e within = refl
map-set_same f (z ∷ xs) zero y x read e within = ap (λ u. u ∷ map f xs) (e ∙ ap f read)
map-set_same f (z ∷ xs) (suc i) y x read e within = ap (λ us. f z ∷ us) (map-set_same f xs i y x read e (omega arith))
