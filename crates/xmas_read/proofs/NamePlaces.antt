-- Names and their places: different names have different places, and names that are all different have all places.
use Rattle.std.proofs.Common.{◌≡◌, ◌∙◌, ◌+◌, ◌<◌, ◌≤◌, ◌↔◌, ℕ, zero, suc, Bool, true, false, cond, ◌||◌, ◌==◌, List, [], ◌∷◌, ◌++◌, refl, ap, sym, subst, length, map, arith, bytes_eq}
use Rattle.std.specs.List.{list_any, AllByRecursion}
use Rattle.std.proofs.lemmas.Bool.Decides.{nat_tests}
use Rattle.std.proofs.lemmas.Slice.Eq.{bytes_eq-Decides}
use Rattle.xmas_rule.specs.Conditions.{has}
use Rattle.xmas_read.specs.Value.{place_in}
use Rattle.xmas_read.specs.Refusals.{has_name}
use Rattle.xmas_read.proofs.Naming.{bytes_sym}

-- a disjunction that doesn't hold
pub neither : (a b : Bool) → (a || b) ≡ false → (a ≡ false) × (b ≡ false)
neither true b h = cc
neither false b h = (refl, h)

-- the place of a name that is among names is below how many there are
pub place_small : (names : List (List ℕ)) (n : List ℕ) → has_name names n ≡ true → place_in names n < length names
place_small [] n h = cc
place_small (m ∷ names) n h =
    elim (bytes_eq m n) as (λ w. (w || has_name names n) ≡ true → cond w 0 (suc (place_in names n)) < suc (length names)) [
      | true ↦ λ k. omega arith
      | false ↦ λ k. let s = place_small names n k in omega (arith, s)
    ] h

-- the numbers of one more are the same exactly where the numbers are
suc_same : (a b : ℕ) → (suc a == suc b) ≡ (a == b)
suc_same a b = grind (arith, nat_tests)

-- nothing is no number of one more
zero_apart : (a : ℕ) → (0 == suc a) ≡ false
zero_apart a = grind (arith, nat_tests)

-- one more than a number is not 0
suc_apart : (a : ℕ) → (suc a == 0) ≡ false
suc_apart a = grind (arith, nat_tests)

-- a number is the same as itself
number_itself : (a : ℕ) → (a == a) ≡ true
number_itself a = grind (arith, nat_tests)

-- the places of two names are the same exactly where the names are, if the first is among them
pub place_same : (names : List (List ℕ)) (a b : List ℕ) → has_name names a ≡ true → (place_in names a == place_in names b) ≡ bytes_eq a b
place_same [] a b h = cc
place_same (m ∷ names) a b h =
    elim (bytes_eq m a) as (λ w. bytes_eq m a ≡ w → (w || has_name names a) ≡ true → (cond w 0 (suc (place_in names a)) == cond (bytes_eq m b) 0 (suc (place_in names b))) ≡ bytes_eq a b) [
      | true ↦ λ e k.
          let q : m ≡ a = (bytes_eq-Decides m a).0 e in
          ap (λ c. 0 == cond (bytes_eq c b) 0 (suc (place_in names b))) q
          ∙ elim (bytes_eq a b) as (λ v. (0 == cond v 0 (suc (place_in names b))) ≡ v) [ true ↦ refl | false ↦ zero_apart (place_in names b) ]
      | false ↦ λ e k.
          elim (bytes_eq m b) as (λ v. bytes_eq m b ≡ v → (suc (place_in names a) == cond v 0 (suc (place_in names b))) ≡ bytes_eq a b) [
            | true ↦ λ d. let q : m ≡ b = (bytes_eq-Decides m b).0 d in suc_apart (place_in names a) ∙ sym e ∙ bytes_sym m a ∙ ap (bytes_eq a) q
            | false ↦ λ d. suc_same (place_in names a) (place_in names b) ∙ place_same names a b k
          ] refl
    ] refl h

-- a place is among the places of some names exactly where the name is among them, if all are among names
pub has_place_of : (names some : List (List ℕ)) (n : List ℕ) → AllByRecursion (λ m. has_name names m ≡ true) some → has (map (place_in names) some) (place_in names n) ≡ has_name some n
has_place_of names [] n h = refl
has_place_of names (m ∷ some) n h =
    ap (λ b. b || has (map (place_in names) some) (place_in names n)) (place_same names m n h.0) ∙ ap (λ b. bytes_eq m n || b) (has_place_of names some n h.1)

-- a name is among names with one more
pub name_more : (names : List (List ℕ)) (m n : List ℕ) → has_name (names ++ m ∷ []) n ≡ (has_name names n || bytes_eq m n)
name_more [] m n = elim (bytes_eq m n) as (λ w. (w || false) ≡ w) [ true ↦ refl | false ↦ refl ]
name_more (k ∷ names) m n = ap (λ b. bytes_eq k n || b) (name_more names m n) ∙ assoc (bytes_eq k n) (has_name names n) (bytes_eq m n)
  where
    assoc : (a b c : Bool) → (a || (b || c)) ≡ ((a || b) || c)
    assoc true b c = refl
    assoc false b c = refl

-- what is among names is among more
pub among_more : (names : List (List ℕ)) (m n : List ℕ) → has_name names n ≡ true → has_name (m ∷ names) n ≡ true
among_more names m n h = elim (bytes_eq m n) as (λ w. (w || has_name names n) ≡ true) [ true ↦ refl | false ↦ h ]

-- names that are all among others are so with one more before these
all_more_names : (names : List (List ℕ)) (m : List ℕ) (some : List (List ℕ)) → AllByRecursion (λ n. has_name names n ≡ true) some → AllByRecursion (λ n. has_name (m ∷ names) n ≡ true) some
all_more_names names m [] h = tt
all_more_names names m (n ∷ some) h = (among_more names m n h.0, all_more_names names m some h.1)

-- each name of a list is among the names of that list
pub among_themselves : (names : List (List ℕ)) → AllByRecursion (λ n. has_name names n ≡ true) names
among_themselves [] = tt
among_themselves (m ∷ names) =
    (subst (λ w. (w || has_name names m) ≡ true) (sym ((bytes_eq-Decides m m).1 refl)) refl, all_more_names names m names (among_themselves names))

-- all names are different
abbrev pub AreDifferent : List (List ℕ) → Type 0
AreDifferent [] = Unit {0}
AreDifferent (m ∷ names) = AllByRecursion (λ n. bytes_eq m n ≡ false) names × AreDifferent names

-- the places of names that differ from a first one are one more with that one before the others
places_after : (m : List ℕ) (names some : List (List ℕ)) → AllByRecursion (λ n. bytes_eq m n ≡ false) some → (v : ℕ) → has (map (place_in (m ∷ names)) some) (suc v) ≡ has (map (place_in names) some) v
places_after m names [] h v = refl
places_after m names (n ∷ some) h v =
    ap (λ w. (cond w 0 (suc (place_in names n)) == suc v) || has (map (place_in (m ∷ names)) some) (suc v)) h.0
    ∙ ap (λ w. w || has (map (place_in (m ∷ names)) some) (suc v)) (suc_same (place_in names n) v)
    ∙ ap (λ w. (place_in names n == v) || w) (places_after m names some h.1 v)

-- each number below how many there are is a place of one of the names
pub all_places : (names : List (List ℕ)) → AreDifferent names → (v : ℕ) → v < length names → has (map (place_in names) names) v ≡ true
all_places [] d v h = absurd (omega arith)
all_places (m ∷ names) d zero h =
    subst (λ w. ((cond w 0 (suc (place_in names m)) == 0) || has (map (place_in (m ∷ names)) names) 0) ≡ true) (sym ((bytes_eq-Decides m m).1 refl)) refl
all_places (m ∷ names) d (suc v) h =
    let k : has (map (place_in (m ∷ names)) names) (suc v) ≡ true = places_after m names names d.0 v ∙ all_places names d.1 v (omega arith) in
    elim (place_in (m ∷ names) m == suc v) as (λ w. (w || has (map (place_in (m ∷ names)) names) (suc v)) ≡ true) [ true ↦ refl | false ↦ k ]

-- a place of one of some names that are among names is below how many there are
pub places_small : (names some : List (List ℕ)) → AllByRecursion (λ m. has_name names m ≡ true) some → (v : ℕ) → has (map (place_in names) some) v ≡ true → v < length names
places_small names [] h v k = cc
places_small names (m ∷ some) h v k =
    elim (place_in names m == v) as (λ w. (place_in names m == v) ≡ w → (w || has (map (place_in names) some) v) ≡ true → v < length names) [
      | true ↦ λ e q. let s = place_small names m h.0 in grind (arith, nat_tests)
      | false ↦ λ e q. places_small names some h.1 v q
    ] refl k
