-- The variables of words and of keys, one after another.
use Rattle.std.proofs.Common.{◌≡◌, ◌<◌, ◌+◌, ◌∙◌, ℕ, List, [], ◌++◌, sym, ap, length, drop, get_or, append_assoc}
use Rattle.std.specs.List.{flat_map}
use Rattle.std.proofs.lemmas.List.{drop_more}

-- what f makes of one member more goes after what it made before
pub pushed : (f : List ℕ → List (List ℕ)) (xs : List (List ℕ)) (i : ℕ) (prefix more whole : List (List ℕ)) → i < length xs → more ≡ prefix ++ f (get_or xs i [])
    → prefix ++ flat_map f (drop i xs) ≡ whole → more ++ flat_map f (drop (i + 1) xs) ≡ whole
pushed f xs i prefix more whole h m e =
    ap (λ r. r ++ flat_map f (drop (i + 1) xs)) m ∙ append_assoc prefix (f (get_or xs i [])) (flat_map f (drop (i + 1) xs))
    ∙ ap (λ r. prefix ++ r) (sym (ap (flat_map f) (drop_more xs i [] h))) ∙ e
