-- What the nodes below a place weigh.
use Rattle.std.proofs.Common.{◌≡◌, ℕ, zero, suc, ◌+◌, ◌<◌, ◌≤◌, Bool, true, false, cond, List, [], ◌∷◌, ◌++◌, length, get_or, set, refl, ap, ◌∙◌, arith}
use Rattle.std.specs.Prelude.{nat_le, ◌==◌, ◌&&◌}
use Rattle.std.proofs.lemmas.Bool.{eqb-true}
use Rattle.std.proofs.lemmas.Bool.Decides.{nat_tests}
use Rattle.lxp_core.specs.Open.{Open, nil}
use Rattle.tree_buffer.specs.Weights.{in_from, held}

-- no list weighs more than before
pub held-le : (w w' : Open → ℕ) (p : List ℕ) (k : ℕ) (rs : List (List ℕ)) (os os' : List Open) → length os' ≡ length os → ((i : ℕ) → w' (get_or os' i nil) ≤ w (get_or os i nil)) → held w' p k rs os' ≤ held w p k rs os
held-le w w' p k [] os os' e le = omega arith
held-le w w' p k (r ∷ rs) [] [] e le = omega arith
held-le w w' p k (r ∷ rs) [] (o ∷ os) e le = omega arith
held-le w w' p k (r ∷ rs) (o ∷ os) [] e le = absurd (omega arith)
held-le w w' p k (r ∷ rs) (o ∷ os) (o' ∷ os') e le =
    let rest : held w' p k rs os' ≤ held w p k rs os = held-le w w' p k rs os os' (omega arith) (λ i. le (suc i)) in
    let here : w' o' ≤ w o = le zero in
    let both : cond (in_from p k r) (1 + w' o') 0 ≤ cond (in_from p k r) (1 + w o) 0 = cases (in_from p k r) (w' o') (w o) here in
    omega arith
  where
    cases : (b : Bool) (x y : ℕ) → x ≤ y → cond b (1 + x) 0 ≤ cond b (1 + y) 0
    cases true x y h = omega arith
    cases false x y h = omega arith

-- with one node more, what is held below a place is what was held, and the new one's weight where it is below
pub held-push : (w : Open → ℕ) (p : List ℕ) (k : ℕ) (rs : List (List ℕ)) (os : List Open) (r : List ℕ) (o : Open) → length os ≡ length rs → held w p k (rs ++ r ∷ []) (os ++ o ∷ []) ≡ held w p k rs os + cond (in_from p k r) (1 + w o) 0
held-push w p k [] [] r o e = omega arith
held-push w p k [] (x ∷ os) r o e = absurd (omega arith)
held-push w p k (q ∷ rs) [] r o e = absurd (omega arith)
held-push w p k (q ∷ rs) (x ∷ os) r o e = omega (arith, held-push w p k rs os r o (omega arith))

-- where one list weighs d less, what is held below a place weighs d less where that one is below
pub held-set : (w : Open → ℕ) (p : List ℕ) (k : ℕ) (rs : List (List ℕ)) (os : List Open) (i : ℕ) (o : Open) (d : ℕ) → length os ≡ length rs → i < length os → w o + d ≤ w (get_or os i nil)
    → held w p k rs (set os i o) + cond (in_from p k (get_or rs i [])) d 0 ≤ held w p k rs os
held-set w p k [] os i o d e within le = absurd (omega arith)
held-set w p k (r ∷ rs) [] i o d e within le = absurd (omega arith)
held-set w p k (r ∷ rs) (x ∷ os) zero o d e within le = cases (in_from p k r) (w o) (w x) le
  where
    cases : (b : Bool) (y z : ℕ) → y + d ≤ z → (cond b (1 + y) 0 + held w p k rs os) + cond b d 0 ≤ cond b (1 + z) 0 + held w p k rs os
    cases true y z h = omega arith
    cases false y z h = omega arith
held-set w p k (r ∷ rs) (x ∷ os) (suc i) o d e within le = omega (arith, held-set w p k rs os i o d (omega arith) (omega arith) le)

-- a number is at most itself
nat_le-refl : (k : ℕ) → nat_le k k ≡ true
nat_le-refl k = grind (arith, nat_tests)

-- no number is above itself
nat_le-more : (k : ℕ) → nat_le (k + 1) k ≡ false
nat_le-more k = grind (arith, nat_tests)

-- a number is the same as itself
eq-refl : (k : ℕ) → (k == k) ≡ true
eq-refl k = grind (arith, nat_tests)

-- the children of a place from k on are the one at k, what lies below that one, and those from k + 1 on
pub in_from-child : (p : List ℕ) (k : ℕ) → in_from p k (p ++ k ∷ []) ≡ true
in_from-child [] k = nat_le-refl k
in_from-child (x ∷ p) k = rw (eq-refl x) (in_from-child p k)

-- a child is not below itself
in_from-not_below : (p : List ℕ) (k : ℕ) → in_from (p ++ k ∷ []) 0 (p ++ k ∷ []) ≡ false
in_from-not_below [] k = rw (eq-refl k) refl
in_from-not_below (x ∷ p) k = rw (eq-refl x) (in_from-not_below p k)

-- a child is not a later one
in_from-not_later : (p : List ℕ) (k : ℕ) → in_from p (k + 1) (p ++ k ∷ []) ≡ false
in_from-not_later [] k = nat_le-more k
in_from-not_later (x ∷ p) k = rw (eq-refl x) (in_from-not_later p k)

-- an index is the wanted one, or a later one, or neither
split_tests : (k m : ℕ) (b : Bool) (x : ℕ) → cond ((k == m) && b) x 0 + cond (nat_le (k + 1) m) x 0 ≤ cond (nat_le k m) x 0
split_tests k m b x = first (k == m) refl (nat_le (k + 1) m) refl (nat_le k m) refl
  where
    first : (t : Bool) → (k == m) ≡ t → (u : Bool) → nat_le (k + 1) m ≡ u → (v : Bool) → nat_le k m ≡ v → cond (t && b) x 0 + cond u x 0 ≤ cond v x 0
    first true e true f v g = absurd (grind (arith, nat_tests))
    first true e false f false g = absurd (grind (arith, nat_tests))
    first true e false f true g = elim b as (λ b. cond b x 0 + 0 ≤ x) [ true ↦ omega arith | false ↦ omega arith ]
    first false e true f false g = absurd (grind (arith, nat_tests))
    first false e true f true g = omega arith
    first false e false f v g = omega arith

-- a place is below the child at k, or at or below a later one, or neither
in_from-parts : (p : List ℕ) (k : ℕ) (r : List ℕ) (x : ℕ) → cond (in_from (p ++ k ∷ []) 0 r) x 0 + cond (in_from p (k + 1) r) x 0 ≤ cond (in_from p k r) x 0
in_from-parts [] k [] x = omega arith
in_from-parts [] k (m ∷ r) x = split_tests k m (in_from [] 0 r) x
in_from-parts (y ∷ p) k [] x = omega arith
in_from-parts (y ∷ p) k (m ∷ r) x = cases (y == m) (in_from-parts p k r x)
  where
    cases : (b : Bool) → cond (in_from (p ++ k ∷ []) 0 r) x 0 + cond (in_from p (k + 1) r) x 0 ≤ cond (in_from p k r) x 0
        → cond (b && in_from (p ++ k ∷ []) 0 r) x 0 + cond (b && in_from p (k + 1) r) x 0 ≤ cond (b && in_from p k r) x 0
    cases true h = h
    cases false h = omega arith

-- what is below the child at k and what is at or below later ones are parts of the children from k on
held-parts : (w : Open → ℕ) (p : List ℕ) (k : ℕ) (rs : List (List ℕ)) (os : List Open) → held w (p ++ k ∷ []) 0 rs os + held w p (k + 1) rs os ≤ held w p k rs os
held-parts w p k [] os = omega arith
held-parts w p k (r ∷ rs) [] = omega arith
held-parts w p k (r ∷ rs) (o ∷ os) = omega (arith, held-parts w p k rs os, in_from-parts p k r (1 + w o))

-- the child at k itself is a part of the children from k on, beside what is below it and what is at or below later ones
pub held-child : (w : Open → ℕ) (p : List ℕ) (k : ℕ) (rs : List (List ℕ)) (os : List Open) (c : ℕ) → length os ≡ length rs → c < length rs → get_or rs c [] ≡ p ++ k ∷ []
    → 1 + w (get_or os c nil) + held w (p ++ k ∷ []) 0 rs os + held w p (k + 1) rs os ≤ held w p k rs os
held-child w p k [] os c e within is = absurd (omega arith)
held-child w p k (r ∷ rs) [] c e within is = absurd (omega arith)
held-child w p k (r ∷ rs) (o ∷ os) zero e within is =
    let a : in_from (p ++ k ∷ []) 0 r ≡ false = rw is (in_from-not_below p k) in
    let b : in_from p (k + 1) r ≡ false = rw is (in_from-not_later p k) in
    let d : in_from p k r ≡ true = rw is (in_from-child p k) in
    rw (a, b, d) (omega (arith, held-parts w p k rs os))
held-child w p k (r ∷ rs) (o ∷ os) (suc c) e within is =
    omega (arith, held-child w p k rs os c (omega arith) (omega arith) is, in_from-parts p k r (1 + w o))

-- the document node is below no node
in_from-nil : (p : List ℕ) (k : ℕ) → in_from p k [] ≡ false
in_from-nil [] k = refl
in_from-nil (x ∷ p) k = refl

-- false together with any truth value is false
and_false : (b : Bool) → (b && false) ≡ false
and_false true = refl
and_false false = refl

-- a new child of another place is below a place where that other place is
pub in_from-push : (p q : List ℕ) (k j : ℕ) → (p ≡ q → ⊥) → in_from p k (q ++ j ∷ []) ≡ in_from p k q
in_from-push [] [] k j ne = absurd (ne refl)
in_from-push [] (y ∷ q) k j ne = refl
in_from-push (x ∷ p) [] k j ne = rw (in_from-nil p k) (and_false (x == j))
in_from-push (x ∷ p) (y ∷ q) k j ne = cases (x == y) refl (in_from-push p q k j)
  where
    cases : (b : Bool) → (x == y) ≡ b → ((p ≡ q → ⊥) → in_from p k (q ++ j ∷ []) ≡ in_from p k q) → (b && in_from p k (q ++ j ∷ [])) ≡ (b && in_from p k q)
    cases true e h = h (λ same. ne (ap (λ z. z ∷ p) (eqb-true x y e) ∙ ap (λ r. y ∷ r) same))
    cases false e h = refl

-- a new child of a place itself is among its children from k on where its index is at least k
pub in_from-own : (p : List ℕ) (k j : ℕ) → in_from p k (p ++ j ∷ []) ≡ nat_le k j
in_from-own [] k j = refl
in_from-own (x ∷ p) k j = rw (eq-refl x) (in_from-own p k j)

-- no number is below 0
nat_le-zero : (m : ℕ) → nat_le 0 m ≡ true
nat_le-zero m = grind (arith, nat_tests)

-- a place is not below itself
in_from-not_own : (p : List ℕ) → in_from p 0 p ≡ false
in_from-not_own [] = refl
in_from-not_own (x ∷ p) = rw (eq-refl x) (in_from-not_own p)

-- what is counted where a test passes is at most that
cond-most : (b : Bool) (x : ℕ) → cond b x 0 ≤ x
cond-most true x = omega arith
cond-most false x = omega arith

-- what is below a place is below the document node
in_from-top : (p r : List ℕ) (x : ℕ) → cond (in_from p 0 r) x 0 ≤ cond (in_from [] 0 r) x 0
in_from-top p [] x = rw (in_from-nil p 0) (omega arith)
in_from-top p (m ∷ r) x = rw (nat_le-zero m) (cond-most (in_from p 0 (m ∷ r)) x)

-- what lies below a place weighs at most what lies below the document node
held-below : (w : Open → ℕ) (p : List ℕ) (rs : List (List ℕ)) (os : List Open) → held w p 0 rs os ≤ held w [] 0 rs os
held-below w p [] os = omega arith
held-below w p (r ∷ rs) [] = omega arith
held-below w p (r ∷ rs) (o ∷ os) = omega (arith, held-below w p rs os, in_from-top p r (1 + w o))

-- what is at and below a place weighs at most what lies below the document node
pub held-top : (w : Open → ℕ) (k : ℕ) (p : List ℕ) (rs : List (List ℕ)) (os : List Open) (c : ℕ) → length os ≡ length rs → c < length rs → get_or rs c [] ≡ k ∷ p
    → 1 + w (get_or os c nil) + held w (k ∷ p) 0 rs os ≤ held w [] 0 rs os
held-top w k p [] os c e within is = absurd (omega arith)
held-top w k p (r ∷ rs) [] c e within is = absurd (omega arith)
held-top w k p (r ∷ rs) (o ∷ os) zero e within is =
    let a : in_from (k ∷ p) 0 r ≡ false = rw is (in_from-not_own (k ∷ p)) in
    let d : in_from [] 0 r ≡ true = rw is (nat_le-zero k) in
    rw (a, d) (omega (arith, held-below w (k ∷ p) rs os))
held-top w k p (r ∷ rs) (o ∷ os) (suc c) e within is =
    omega (arith, held-top w k p rs os c (omega arith) (omega arith) is, in_from-top (k ∷ p) r (1 + w o))

-- the children from an index on weigh at most all of them
pub held-from : (w : Open → ℕ) (p : List ℕ) (k : ℕ) (rs : List (List ℕ)) (os : List Open) → held w p k rs os ≤ held w p 0 rs os
held-from w p zero rs os = omega arith
held-from w p (suc k) rs os = let next : k + 1 ≡ suc k = omega arith in
    omega (arith, held-from w p k rs os, held-parts w p k rs os, ap (λ i. held w p i rs os) next)
