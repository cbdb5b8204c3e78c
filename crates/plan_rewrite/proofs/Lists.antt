-- Laws of lists: members of lists of lists, and filters.
use Rattle.std.proofs.Common.{◌≡◌, Bool, true, false, cond, List, [], ◌∷◌, ◌++◌, refl, ◌∙◌, ap}
use Rattle.std.specs.Prelude.{◌&&◌}
use Rattle.std.specs.List.{filter, flat_map, list_all, AllByRecursion}
use Rattle.std.proofs.lemmas.List.Elements.{filter-append}
use Rattle.xmas_rule.proofs.Members.{each_append}

-- what holds of each member of each list holds of each member of all the lists, one after another
pub each_flat : {X Y : Type 0} (P : Y → Type 0) (f : X → List Y) (xs : List X) → AllByRecursion (λ x. AllByRecursion P (f x)) xs → AllByRecursion P (flat_map f xs)
each_flat P f [] h = tt
each_flat P f (x ∷ xs) h = each_append P (f x) (flat_map f xs) h.0 (each_flat P f xs h.1)

-- filtering lists, one after another, is filtering each of them
pub filter-flat_map : {X Y : Type 0} (p : Y → Bool) (f : X → List Y) (xs : List X) → filter p (flat_map f xs) ≡ flat_map (λ x. filter p (f x)) xs
filter-flat_map p f [] = refl
filter-flat_map {X} {Y} p f (x ∷ xs) = filter-append p (f x) (flat_map f xs) ∙ ap (λ (zs : List Y). filter p (f x) ++ zs) (filter-flat_map p f xs)

-- the joined lists of the members that pass are those of all members, with nothing for one that doesn't
pub flat_map-filter : {X Y : Type 0} (p : X → Bool) (f : X → List Y) (xs : List X) → flat_map f (filter p xs) ≡ flat_map (λ x. cond (p x) (f x) []) xs
flat_map-filter p f [] = refl
flat_map-filter {X} {Y} p f (x ∷ xs) =
    elim (p x) as (λ v. flat_map f (cond v (x ∷ filter p xs) (filter p xs)) ≡ cond v (f x) [] ++ flat_map (λ y. cond (p y) (f y) []) xs)
    [ true ↦ ap (λ (zs : List Y). f x ++ zs) (flat_map-filter p f xs) | false ↦ flat_map-filter p f xs ]

-- a filter whose test answers the same of all members gives all of them or none
pub filter_const : {X : Type 0} (p : X → Bool) (b : Bool) (xs : List X) → AllByRecursion (λ x. p x ≡ b) xs → filter p xs ≡ cond b xs []
filter_const p true [] h = refl
filter_const p false [] h = refl
filter_const {X} p true (x ∷ xs) h = rw h.0 (ap (λ (zs : List X). x ∷ zs) (filter_const p true xs h.1))
filter_const p false (x ∷ xs) h = rw h.0 (filter_const p false xs h.1)

-- one filter after another is the filter of both tests
pub filter_both : {X : Type 0} (p q r : X → Bool) → ((x : X) → r x ≡ (p x && q x)) → (xs : List X) → filter q (filter p xs) ≡ filter r xs
filter_both p q r h [] = refl
filter_both {X} p q r h (x ∷ xs) =
    rw (h x)
    (elim (p x) as (λ v. filter q (cond v (x ∷ filter p xs) (filter p xs)) ≡ cond (v && q x) (x ∷ filter r xs) (filter r xs)) [
      | true ↦ ap (λ (zs : List X). cond (q x) (x ∷ zs) zs) (filter_both p q r h xs)
      | false ↦ filter_both p q r h xs
    ])

-- a test holds of all of a list with one more member where it holds of all of the list and of that one
pub list_all-more : {X : Type 0} (p : X → Bool) (xs : List X) (y : X) → list_all p (xs ++ y ∷ []) ≡ (list_all p xs && p y)
list_all-more p [] y = elim (p y) as (λ v. (v && true) ≡ v) [ true ↦ refl | false ↦ refl ]
list_all-more p (x ∷ xs) y = elim (p x) as (λ v. (v && list_all p (xs ++ y ∷ [])) ≡ ((v && list_all p xs) && p y)) [ true ↦ list_all-more p xs y | false ↦ refl ]
