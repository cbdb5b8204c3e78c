-- Names that differ in pairs stand each at its own place alone.
use Rattle.std.proofs.Common.{◌≡◌, ◌∙◌, ◌<◌, ℕ, zero, suc, true, false, cond, IsTrue, nat_lt, List, [], ◌∷◌, length, get_or, refl, ap, arith, bytes_eq, Some, None}
use Rattle.std.specs.List.{AllByRecursion, position, position_or_len}
use Rattle.std.proofs.lemmas.Bool.Decides.{nat_tests}
use Rattle.std.proofs.lemmas.List.Sums.{position_or_len_is}
use Rattle.std.proofs.lemmas.Slice.Eq.{bytes_eq-Decides}
use Rattle.mix_words.specs.Words.{is_name}
use Rattle.xmas_read.proofs.NamePlaces.{AreDifferent}
use Rattle.xmas_read.proofs.Naming.{bytes_sym}
use Rattle.plan_read.specs.Writable.{AreNames}

-- what holds of all members holds of the one at a place
at_place : (P : List ℕ → Type 0) (names : List (List ℕ)) (v : ℕ) → v < length names → AllByRecursion P names → P (get_or names v [])
at_place P [] v l h = absurd (omega (arith, l))
at_place P (n ∷ names) zero l h = h.0
at_place P (n ∷ names) (suc v) l h = at_place P names v (omega (arith, l)) h.1

-- a name is not the one at an earlier place
differs : (names : List (List ℕ)) → AreDifferent names → (v k : ℕ) → k < v → v < length names → bytes_eq (get_or names v []) (get_or names k []) ≡ false
differs [] d v k s l = absurd (omega (arith, l))
differs (n ∷ names) d zero k s l = absurd (omega (arith, s))
differs (n ∷ names) d (suc v) zero s l = bytes_sym (get_or names v []) n ∙ at_place (λ m. bytes_eq n m ≡ false) names v (omega (arith, l)) d.0
differs (n ∷ names) d (suc v) (suc k) s l = differs names d.1 v k (omega (arith, s)) (omega (arith, l))

-- the first place of a name is its own
own_place : (names : List (List ℕ)) → AreDifferent names → (v : ℕ) → v < length names → position (bytes_eq (get_or names v [])) names ≡ Some v
own_place names d v l =
    let n : List ℕ = get_or names v [] in
    let e : position_or_len (bytes_eq n) names ≡ v = position_or_len_is (bytes_eq n) names v [] (omega (arith, l)) (λ k s. differs names d v k s l) (λ _. (bytes_eq-Decides n n).1 refl) in
    let t : nat_lt v (length names) ≡ true = grind (arith, nat_tests, l) in
    ap (λ (k : ℕ). cond (nat_lt k (length names)) (Some k) None) e ∙ rw t refl

-- names of variables that differ in pairs are the names of a plan
pub are_names : (names : List (List ℕ)) → AllByRecursion (λ x. IsTrue (is_name x)) names → AreDifferent names → AreNames names
are_names names h d v l = (at_place (λ x. IsTrue (is_name x)) names v l h, own_place names d v l)
