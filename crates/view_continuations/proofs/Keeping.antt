-- Of a list that is gone through, those that have a property are kept.
use Rattle.std.proofs.Common.{◌≡◌, ◌<◌, ◌+◌, ℕ, Bool, true, false, List, [], ◌∷◌, ◌++◌, sym, subst, take, length, get_or}
use Rattle.std.proofs.lemmas.List.{take_more}
use Rattle.view_continuations.specs.Fits.{Kept, Tells, none, with_last, without_last}

-- of nothing nothing is kept
pub none_kept : {X : Type 0} (P : X → Type 0) (xs ys : List X) → ys ≡ [] → Kept P (take 0 xs) ys
none_kept P xs ys e = subst (Kept P []) (sym e) none

-- one more is kept that has the property
pub kept_next : {X : Type 0} (P : X → Type 0) (xs : List X) (i : ℕ) (d : X) (b : Bool) (ys zs : List X) → i < length xs → Tells (P (get_or xs i d)) b → b ≡ true
    → Kept P (take i xs) ys → zs ≡ ys ++ get_or xs i d ∷ [] → Kept P (take (i + 1) xs) zs
kept_next P xs i d b ys zs lt h e k z =
    subst (λ l. Kept P l zs) (sym (take_more xs i d lt))
    (subst (Kept P (take i xs ++ get_or xs i d ∷ [])) (sym z) (with_last k (subst (Tells (P (get_or xs i d))) e h)))

-- one more is passed over that hasn't the property
pub passed_next : {X : Type 0} (P : X → Type 0) (xs : List X) (i : ℕ) (d : X) (b : Bool) (ys zs : List X) → i < length xs → Tells (P (get_or xs i d)) b → b ≡ false
    → Kept P (take i xs) ys → zs ≡ ys → Kept P (take (i + 1) xs) zs
passed_next P xs i d b ys zs lt h e k z =
    subst (λ l. Kept P l zs) (sym (take_more xs i d lt))
    (subst (Kept P (take i xs ++ get_or xs i d ∷ [])) (sym z) (without_last k (subst (Tells (P (get_or xs i d))) e h)))
