-- Laws of members of lists, of ascending lists, and of lists of lists.
use Rattle.std.proofs.Common.{◌≡◌, ◌⊎◌, Bool, true, false, cond, List, [], ◌∷◌, ◌++◌, map, refl, ◌∙◌, sym, ap, inl, inr, append_assoc}
use Rattle.std.specs.List.{filter, flat_map, AllByRecursion}
use Rattle.mix_base.proofs.Ascents.{each_among}
use Rattle.mix_base.proofs.Firsts.{each_filter, each_weaker, each_map}
use Rattle.mix_base.specs.Ascents.{Among, Ascending}

-- a member of two lists together is one of the first or of the second
pub among-append : {X : Type 0} (x : X) (xs ys : List X) → Among x (xs ++ ys) → Among x xs ⊎ Among x ys
among-append x [] ys h = inr h
among-append x (y ∷ xs) ys (inl e) = inl (inl e)
among-append x (y ∷ xs) ys (inr e) = elim (among-append x xs ys e) [ inl a ↦ inl (inr a) | inr a ↦ inr a ]

-- a member of the first of two lists is one of both together
pub among_left : {X : Type 0} (x : X) (xs ys : List X) → Among x xs → Among x (xs ++ ys)
among_left x [] ys h = absurd h
among_left x (y ∷ xs) ys (inl e) = inl e
among_left x (y ∷ xs) ys (inr e) = inr (among_left x xs ys e)

-- a member of the second of two lists is one of both together
pub among_right : {X : Type 0} (x : X) (xs ys : List X) → Among x ys → Among x (xs ++ ys)
among_right x [] ys h = h
among_right x (y ∷ xs) ys h = inr (among_right x xs ys h)

-- a member of the images of a list is the image of a member
pub among-map : {X Y : Type 0} (f : X → Y) (y : Y) (xs : List X) → Among y (map f xs) → (x : X) × Among x xs × (y ≡ f x)
among-map f y [] h = absurd h
among-map f y (x ∷ xs) (inl e) = (x, inl refl, e)
among-map f y (x ∷ xs) (inr e) = let r = among-map f y xs e in (r.0, inr r.1, r.2)

-- the image of a member is one of the images
pub among_map : {X Y : Type 0} (f : X → Y) (x : X) (xs : List X) → Among x xs → Among (f x) (map f xs)
among_map f x [] h = absurd h
among_map f x (y ∷ xs) (inl e) = inl (ap f e)
among_map f x (y ∷ xs) (inr e) = inr (among_map f x xs e)

-- a member of the joined lists that f gives for members is one of the list for some member
pub among-flat_map : {X Y : Type 0} (f : X → List Y) (y : Y) (xs : List X) → Among y (flat_map f xs) → (x : X) × Among x xs × Among y (f x)
among-flat_map f y [] h = absurd h
among-flat_map f y (x ∷ xs) h = elim (among-append y (f x) (flat_map f xs) h)
    [ inl a ↦ (x, inl refl, a) | inr a ↦ (let r = among-flat_map f y xs a in (r.0, inr r.1, r.2)) ]

-- a member of the list that f gives for a member is one of the joined lists
pub among_flat_map : {X Y : Type 0} (f : X → List Y) (x : X) (y : Y) (xs : List X) → Among x xs → Among y (f x) → Among y (flat_map f xs)
among_flat_map f x y [] h k = absurd h
among_flat_map f x y (z ∷ xs) (inl e) k = among_left y (f z) (flat_map f xs) (rw e at k)
among_flat_map f x y (z ∷ xs) (inr e) k = among_right y (f z) (flat_map f xs) (among_flat_map f x y xs e k)

-- what holds of each member holds of all
pub among_each : {X : Type 0} (P : X → Type 0) (xs : List X) → ((x : X) → Among x xs → P x) → AllByRecursion P xs
among_each P [] h = tt
among_each P (y ∷ xs) h = (h y (inl refl), among_each P xs (λ x m. h x (inr m)))

-- one ascending list after another ascends, where all of the first stand before all of the second
pub ascending-append : {X : Type 0} (R : X → X → Type 0) (xs ys : List X) → Ascending R xs → Ascending R ys → ((x y : X) → Among x xs → Among y ys → R x y) → Ascending R (xs ++ ys)
ascending-append R [] ys h k c = k
ascending-append R (x ∷ xs) ys h k c = (
  among_each (R x) (xs ++ ys) (λ y m. elim (among-append y xs ys m) [ inl a ↦ each_among (R x) xs h.0 y a | inr a ↦ c x y (inl refl) a ]),
  ascending-append R xs ys h.1 k (λ a b m n. c a b (inr m) n),
)

-- the images of an ascending list ascend, where they keep the order
pub ascending-map : {X Y : Type 0} (R : X → X → Type 0) (S : Y → Y → Type 0) (f : X → Y) → ((x y : X) → R x y → S (f x) (f y)) → (xs : List X) → Ascending R xs → Ascending S (map f xs)
ascending-map R S f g [] h = tt
ascending-map R S f g (x ∷ xs) h = (each_map (S (f x)) f xs (each_weaker (R x) (λ y. S (f x) (f y)) (λ y r. g x y r) xs h.0), ascending-map R S f g xs h.1)

-- the joined lists for the members of an ascending list ascend, where each does and they stand in the members' order
pub ascending-flat_map : {X Y : Type 0} (R : X → X → Type 0) (S : Y → Y → Type 0) (f : X → List Y) → ((x : X) → Ascending S (f x)) → ((x y : X) → R x y → (a b : Y) → Among a (f x) → Among b (f y) → S a b) → (xs : List X) → Ascending R xs → Ascending S (flat_map f xs)
ascending-flat_map R S f own cross [] h = tt
ascending-flat_map R S f own cross (x ∷ xs) h =
    ascending-append S (f x) (flat_map f xs) (own x) (ascending-flat_map R S f own cross xs h.1)
    (λ a b m n. let r = among-flat_map f b xs n in cross x r.0 (each_among (R x) xs h.0 r.0 r.1) a b m r.2)

-- what holds of two lists holds of each
pub each-append : {X : Type 0} (P : X → Type 0) (xs ys : List X) → AllByRecursion P (xs ++ ys) → AllByRecursion P xs × AllByRecursion P ys
each-append P [] ys h = (tt, h)
each-append P (x ∷ xs) ys h = let r = each-append P xs ys h.1 in ((h.0, r.0), r.1)

-- what holds of two lists holds of both
pub each_append : {X : Type 0} (P : X → Type 0) (xs ys : List X) → AllByRecursion P xs → AllByRecursion P ys → AllByRecursion P (xs ++ ys)
each_append P [] ys h k = k
each_append P (x ∷ xs) ys h k = (h.0, each_append P xs ys h.1 k)

-- a list with one member more, before another list, is the list before that member and the other list
pub snoc-append : {X : Type 0} (xs : List X) (x : X) (ys : List X) → (xs ++ x ∷ []) ++ ys ≡ xs ++ x ∷ ys
snoc-append [] x ys = refl
snoc-append {X} (z ∷ xs) x ys = ap (λ (zs : List X). z ∷ zs) (snoc-append xs x ys)

-- the joined lists of images are those of the members, with one function after the other
pub flat_map-map : {X Y Z : Type 0} (f : Y → List Z) (g : X → Y) (xs : List X) → flat_map f (map g xs) ≡ flat_map (λ x. f (g x)) xs
flat_map-map f g [] = refl
flat_map-map {X} {Y} {Z} f g (x ∷ xs) = ap (λ (zs : List Z). f (g x) ++ zs) (flat_map-map f g xs)

-- the images of two lists together are those of the first and those of the second
pub map-append : {X Y : Type 0} (g : X → Y) (xs ys : List X) → map g (xs ++ ys) ≡ map g xs ++ map g ys
map-append g [] ys = refl
map-append {X} {Y} g (x ∷ xs) ys = ap (λ (zs : List Y). g x ∷ zs) (map-append g xs ys)

-- the images of joined lists are the joined lists of images
pub map-flat_map : {X Y Z : Type 0} (g : Y → Z) (f : X → List Y) (xs : List X) → map g (flat_map f xs) ≡ flat_map (λ x. map g (f x)) xs
map-flat_map g f [] = refl
map-flat_map {X} {Y} {Z} g f (x ∷ xs) = map-append g (f x) (flat_map f xs) ∙ ap (λ (zs : List Z). map g (f x) ++ zs) (map-flat_map g f xs)

-- the joined lists of two lists' members are those of the first and those of the second
flat_map-append : {X Y : Type 0} (f : X → List Y) (xs ys : List X) → flat_map f (xs ++ ys) ≡ flat_map f xs ++ flat_map f ys
flat_map-append f [] ys = refl
flat_map-append {X} {Y} f (x ∷ xs) ys = ap (λ (zs : List Y). f x ++ zs) (flat_map-append f xs ys) ∙ sym (append_assoc (f x) (flat_map f xs) (flat_map f ys))

-- the joined lists of joined lists are the joined lists that both functions make of each member
pub flat_map-flat_map : {X Y Z : Type 0} (f : Y → List Z) (g : X → List Y) (xs : List X) → flat_map f (flat_map g xs) ≡ flat_map (λ x. flat_map f (g x)) xs
flat_map-flat_map f g [] = refl
flat_map-flat_map {X} {Y} {Z} f g (x ∷ xs) = flat_map-append f (g x) (flat_map g xs) ∙ ap (λ (zs : List Z). flat_map f (g x) ++ zs) (flat_map-flat_map f g xs)

-- functions that agree on the members give the same list of lists
pub flat_map_same : {X Y : Type 0} (f g : X → List Y) (xs : List X) → AllByRecursion (λ x. f x ≡ g x) xs → flat_map f xs ≡ flat_map g xs
flat_map_same f g [] h = refl
flat_map_same {X} {Y} f g (x ∷ xs) h = rw h.0 (ap (λ (zs : List Y). g x ++ zs) (flat_map_same f g xs h.1))

-- a filter whose test all pass changes nothing
pub filter-true : {X : Type 0} (xs : List X) → filter (λ _. true) xs ≡ xs
filter-true [] = refl
filter-true {X} (x ∷ xs) = ap (λ (zs : List X). x ∷ zs) (filter-true xs)

-- a member that a filter lets through passes its test
pub among-filter : {X : Type 0} (p : X → Bool) (x : X) (xs : List X) → Among x (filter p xs) → Among x xs × (p x ≡ true)
among-filter p x [] h = absurd h
among-filter p x (y ∷ xs) h =
    elim (p y) as (λ w. p y ≡ w → Among x (cond w (y ∷ filter p xs) (filter p xs)) → (((x ≡ y) ⊎ Among x xs) × (p x ≡ true))) [
      | true ↦ λ e m. elim m [ inl q ↦ (inl q, ap p q ∙ e) | inr q ↦ (let r = among-filter p x xs q in (inr r.0, r.1)) ]
      | false ↦ λ e m. (let r = among-filter p x xs m in (inr r.0, r.1))
    ] refl h

-- a member that passes is let through
pub among_filter : {X : Type 0} (p : X → Bool) (x : X) (xs : List X) → Among x xs → p x ≡ true → Among x (filter p xs)
among_filter p x [] h e = absurd h
among_filter p x (y ∷ xs) (inl q) e = rw (sym (ap p q) ∙ e) (inl q)
among_filter p x (y ∷ xs) (inr q) e = elim (p y) as (λ w. Among x (cond w (y ∷ filter p xs) (filter p xs))) [ true ↦ inr (among_filter p x xs q e) | false ↦ among_filter p x xs q e ]

-- what a filter lets through ascends
pub ascending_filter : {X : Type 0} (R : X → X → Type 0) (p : X → Bool) (xs : List X) → Ascending R xs → Ascending R (filter p xs)
ascending_filter R p [] h = tt
ascending_filter R p (x ∷ xs) h = elim (p x) as (λ w. Ascending R (cond w (x ∷ filter p xs) (filter p xs)))
    [ true ↦ (each_filter (R x) p xs h.0, ascending_filter R p xs h.1) | false ↦ ascending_filter R p xs h.1 ]
