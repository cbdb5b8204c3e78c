-- Names in the order in which they are first said: each stands once, and there are no more of them than names.
use Rattle.std.proofs.Common.{◌≡◌, inl, inr, ◌<◌, ◌≤◌, ◌+◌, ◌∙◌, ◌||◌, ◌++◌, not, ℕ, zero, suc, Bool, true, false, cond, List, [], ◌∷◌, refl, sym, ap, subst, arith, length, filter, get_or}
use Rattle.std.specs.List.{AllByRecursion, list_any, position_or_len}
use Rattle.std.specs.Str.{bytes_eq}
use Rattle.std.proofs.lemmas.List.Folds.{list_any-append}
use Rattle.std.proofs.lemmas.Slice.Eq.{bytes_eq-Decides}
use Rattle.mix_base.specs.Ascents.{Among}
use Rattle.mix_base.proofs.Firsts.{each_snoc}
use Rattle.mix_tree.proofs.SameKeys.{bytes_eq-refl}
use Rattle.plan_read.specs.Variables.{with_new}

-- a text is one of these
abbrev pub is_in : List ℕ → List (List ℕ) → Bool
is_in x xs = list_any (bytes_eq x) xs

-- no text stands twice
abbrev pub AreApart : List (List ℕ) → Type 0
AreApart [] = Unit {0}
AreApart (x ∷ xs) = (is_in x xs ≡ false) × AreApart xs

-- texts with the same bytes are the same
pub same_text : (x y : List ℕ) → bytes_eq x y ≡ true → x ≡ y
same_text x y h = (bytes_eq-Decides x y).0 h

-- texts that differ one way differ the other way round
turned : (x y : List ℕ) → bytes_eq x y ≡ false → bytes_eq y x ≡ false
turned x y h = by_case (bytes_eq y x) refl
  where
    false_true : ◌≡◌ {A = Bool} false true → ⊥
    false_true h = cc

    by_case : (c : Bool) → bytes_eq y x ≡ c → c ≡ false
    by_case false e = refl
    by_case true e = absurd (false_true (sym h ∙ ap (bytes_eq x) (same_text y x e) ∙ bytes_eq-refl x))

-- where a choice of two tests fails, the first fails
left_fails : (a b : Bool) → (a || b) ≡ false → a ≡ false
left_fails true b h = h
left_fails false b h = refl

-- where a choice of two tests fails, the second fails
right_fails : (a b : Bool) → (a || b) ≡ false → b ≡ false
right_fails true b h = cc
right_fails false b h = h

-- where two tests fail, their choice fails
neither : (a b : Bool) → a ≡ false → b ≡ false → (a || b) ≡ false
neither true b h k = h
neither false b h k = k

-- where the second of two tests holds, one of them does
either_holds : (a b : Bool) → b ≡ true → (a || b) ≡ true
either_holds true b h = refl
either_holds false b h = h

-- texts of which none stands twice stay so with one more that is new
apart_more : (xs : List (List ℕ)) (x : List ℕ) → AreApart xs → is_in x xs ≡ false → AreApart (xs ++ x ∷ [])
apart_more [] x a n = (refl, tt)
apart_more (y ∷ xs) x a n = (
  list_any-append (bytes_eq y) xs (x ∷ []) ∙ neither (is_in y xs) (bytes_eq y x || false) a.0 (neither (bytes_eq y x) false (turned x y (left_fails (bytes_eq x y) (is_in x xs) n)) refl),
  apart_more xs x a.1 (right_fails (bytes_eq x y) (is_in x xs) n),
)

-- texts with what is new of others are apart, where they are
pub new_apart : (xs ys : List (List ℕ)) → AreApart xs → AreApart (with_new xs ys)
new_apart xs [] a = a
new_apart xs (y ∷ ys) a = by_case (is_in y xs) refl (new_apart xs ys a) (λ e. new_apart (xs ++ y ∷ []) ys (apart_more xs y a e))
  where
    by_case : (c : Bool) → is_in y xs ≡ c → AreApart (with_new xs ys) → (is_in y xs ≡ false → AreApart (with_new (xs ++ y ∷ []) ys)) → AreApart (with_new (cond c xs (xs ++ y ∷ [])) ys)
    by_case true e old new = old
    by_case false e old new = new e

-- what holds of texts and of others holds of the first with what is new of the others
pub new_each : (P : List ℕ → Type 0) (xs ys : List (List ℕ)) → AllByRecursion P xs → AllByRecursion P ys → AllByRecursion P (with_new xs ys)
new_each P xs [] h k = h
new_each P xs (y ∷ ys) h k = by_case (is_in y xs) (new_each P xs ys h k.1) (new_each P (xs ++ y ∷ []) ys (each_snoc P xs y h k.0) k.1)
  where
    by_case : (c : Bool) → AllByRecursion P (with_new xs ys) → AllByRecursion P (with_new (xs ++ y ∷ []) ys) → AllByRecursion P (with_new (cond c xs (xs ++ y ∷ [])) ys)
    by_case true old new = old
    by_case false old new = new

-- texts stay among more
in_more : (x : List ℕ) (xs : List (List ℕ)) (y : List ℕ) → is_in x xs ≡ true → is_in x (xs ++ y ∷ []) ≡ true
in_more x xs y h = list_any-append (bytes_eq x) xs (y ∷ []) ∙ first (is_in x xs) h
  where
    first : (a : Bool) → a ≡ true → (a || is_in x (y ∷ [])) ≡ true
    first true h = refl
    first false h = cc

-- a text is among texts with what is new, whether the next one is new or not
either_new : (x : List ℕ) (xs : List (List ℕ)) (y : List ℕ) (ys : List (List ℕ)) → is_in x (with_new xs ys) ≡ true → is_in x (with_new (xs ++ y ∷ []) ys) ≡ true → is_in x (with_new xs (y ∷ ys)) ≡ true
either_new x xs y ys old new = by_case (is_in y xs)
  where
    by_case : (c : Bool) → is_in x (with_new (cond c xs (xs ++ y ∷ [])) ys) ≡ true
    by_case true = old
    by_case false = new

-- a text stays among more with what is new
new_keeps : (x : List ℕ) (xs ys : List (List ℕ)) → is_in x xs ≡ true → is_in x (with_new xs ys) ≡ true
new_keeps x xs [] h = h
new_keeps x xs (y ∷ ys) h = either_new x xs y ys (new_keeps x xs ys h) (new_keeps x (xs ++ y ∷ []) ys (in_more x xs y h))

-- each of the others is among texts with what is new of them
pub new_all : (x : List ℕ) (xs ys : List (List ℕ)) → Among x ys → is_in x (with_new xs ys) ≡ true
new_all x xs [] h = absurd h
new_all x xs (y ∷ ys) (inl e) = subst (λ z. is_in z (with_new xs (y ∷ ys)) ≡ true) (sym e) (by_case (is_in y xs) refl)
  where
    last : (xs : List (List ℕ)) → is_in y (xs ++ y ∷ []) ≡ true
    last xs = list_any-append (bytes_eq y) xs (y ∷ []) ∙ either_holds (is_in y xs) (is_in y (y ∷ [])) (ap (λ b. b || false) (bytes_eq-refl y))

    by_case : (c : Bool) → is_in y xs ≡ c → is_in y (with_new (cond c xs (xs ++ y ∷ [])) ys) ≡ true
    by_case true e = new_keeps y xs ys e
    by_case false e = new_keeps y (xs ++ y ∷ []) ys (last xs)
new_all x xs (y ∷ ys) (inr h) = either_new x xs y ys (new_all x xs ys h) (new_all x (xs ++ y ∷ []) ys h)

-- texts without one of them
abbrev without : List ℕ → List (List ℕ) → List (List ℕ)
without x ys = filter (λ y. not (bytes_eq x y)) ys

-- without one of them there are no more texts
without_less : (x : List ℕ) (ys : List (List ℕ)) → length (without x ys) ≤ length ys
without_less x [] = omega arith
without_less x (y ∷ ys) = by_case (bytes_eq x y) (without_less x ys)
  where
    by_case : (c : Bool) → length (without x ys) ≤ length ys → length (cond (not c) (y ∷ without x ys) (without x ys)) ≤ suc (length ys)
    by_case true h = omega (arith, h)
    by_case false h = omega (arith, h)

-- without one that is there, there is one text less
without_one : (x : List ℕ) (ys : List (List ℕ)) → is_in x ys ≡ true → suc (length (without x ys)) ≤ length ys
without_one x [] h = cc
without_one x (y ∷ ys) h = by_case (bytes_eq x y) h (without_one x ys)
  where
    by_case : (c : Bool) → (c || is_in x ys) ≡ true → (is_in x ys ≡ true → suc (length (without x ys)) ≤ length ys)
        → suc (length (cond (not c) (y ∷ without x ys) (without x ys))) ≤ suc (length ys)
    by_case true h more = let l = without_less x ys in omega (arith, l)
    by_case false h more = let l = more h in omega (arith, l)

-- another text stays where one is left out
without_keeps : (x z : List ℕ) (ys : List (List ℕ)) → bytes_eq x z ≡ false → is_in z ys ≡ true → is_in z (without x ys) ≡ true
without_keeps x z [] d h = cc
without_keeps x z (y ∷ ys) d h = by_case (bytes_eq x y) (bytes_eq z y) refl refl h (without_keeps x z ys d)
  where
    false_true : ◌≡◌ {A = Bool} false true → ⊥
    false_true h = cc

    by_case : (c e : Bool) → bytes_eq x y ≡ c → bytes_eq z y ≡ e → (e || is_in z ys) ≡ true → (is_in z ys ≡ true → is_in z (without x ys) ≡ true) → is_in z (cond (not c) (y ∷ without x ys) (without x ys)) ≡ true
    by_case true true p q h more = absurd (false_true (sym d ∙ ap (bytes_eq x) (same_text z y q) ∙ p))
    by_case true false p q h more = more h
    by_case false true p q h more = ap (λ b. b || is_in z (without x ys)) q
    by_case false false p q h more = either_holds (bytes_eq z y) (is_in z (without x ys)) (more h)

-- texts that are apart, each of them one of others, are no more than those
pub apart_few : (xs ys : List (List ℕ)) → AreApart xs → AllByRecursion (λ x. is_in x ys ≡ true) xs → length xs ≤ length ys
apart_few [] ys a h = omega arith
apart_few (x ∷ xs) ys a h =
    let less = without_one x ys h.0 in
    let rest = apart_few xs (without x ys) a.1 (others xs a.0 h.1) in
    omega (arith, less, rest)
  where
    others : (zs : List (List ℕ)) → is_in x zs ≡ false → AllByRecursion (λ z. is_in z ys ≡ true) zs → AllByRecursion (λ z. is_in z (without x ys) ≡ true) zs
    others [] n k = tt
    others (z ∷ zs) n k = (without_keeps x z ys (left_fails (bytes_eq x z) (is_in x zs) n) k.0, others zs (right_fails (bytes_eq x z) (is_in x zs) n) k.1)

-- a text that is one of texts is found
pub found_inside : (x : List ℕ) (xs : List (List ℕ)) → is_in x xs ≡ true → (position_or_len (bytes_eq x) xs < length xs) × (get_or xs (position_or_len (bytes_eq x) xs) [] ≡ x)
found_inside x [] h = cc
found_inside x (y ∷ xs) h = by_case (bytes_eq x y) refl h (found_inside x xs)
  where
    by_case : (c : Bool) → bytes_eq x y ≡ c → (c || is_in x xs) ≡ true → (is_in x xs ≡ true → (position_or_len (bytes_eq x) xs < length xs) × (get_or xs (position_or_len (bytes_eq x) xs) [] ≡ x))
        → (cond (not c) (1 + position_or_len (bytes_eq x) xs) 0 < suc (length xs)) × (get_or (y ∷ xs) (cond (not c) (1 + position_or_len (bytes_eq x) xs) 0) [] ≡ x)
    by_case true e h more = (omega arith, sym (same_text x y e))
    by_case false e h more =
        let found = more h in
        let inside = found.0 in
        (omega (arith, inside), ap (λ i. get_or (y ∷ xs) i []) (one (position_or_len (bytes_eq x) xs)) ∙ found.1)
      where
        one : (i : ℕ) → 1 + i ≡ suc i
        one i = omega arith

-- each of texts that are apart is found at its own place
pub found_at : (xs : List (List ℕ)) (i : ℕ) → i < length xs → AreApart xs → position_or_len (bytes_eq (get_or xs i [])) xs ≡ i
found_at [] i h a = absurd (omega arith)
found_at (x ∷ xs) zero h a = ap (λ b. cond (not b) (1 + position_or_len (bytes_eq x) xs) 0) (bytes_eq-refl x)
found_at (x ∷ xs) (suc i) h a =
    ap (λ b. cond (not b) (1 + position_or_len (bytes_eq (get_or xs i [])) xs) 0) (turned x (get_or xs i []) (apart_at xs i (omega (arith, h)) a.0))
    ∙ ap (λ j. 1 + j) (found_at xs i (omega (arith, h)) a.1) ∙ one i
  where
    one : (i : ℕ) → 1 + i ≡ suc i
    one i = omega arith

    apart_at : (ys : List (List ℕ)) (j : ℕ) → j < length ys → is_in x ys ≡ false → bytes_eq x (get_or ys j []) ≡ false
    apart_at [] j h n = absurd (omega arith)
    apart_at (y ∷ ys) zero h n = left_fails (bytes_eq x y) (is_in x ys) n
    apart_at (y ∷ ys) (suc j) h n = apart_at ys j (omega (arith, h)) (right_fails (bytes_eq x y) (is_in x ys) n)
