-- Laws of unions.
use Rattle.std.proofs.Common.{◌≡◌, ◌∙◌, ℕ, suc, ◌+◌, ◌^◌, ◌<◌, ◌≤◌, Bool, true, false, cond, ◌||◌, List, [], ◌∷◌, ◌++◌, length, get_or, drop, refl, sym, ap, arith}
use Rattle.std.specs.Int.RustNames.{bit_or}
use Rattle.std.proofs.lemmas.Nat.Bits.{bit_at-zero, bit_at_or, same_from_bits}
use Rattle.std.proofs.Math.Seq.{drop-cons}
use Rattle.std.proofs.lemmas.List.{drop_all}
use Rattle.mix_base.proofs.Lists.{append_nil}
use Rattle.path_expr.specs.Form.{Head, name, any, seq, alt, star, plus, opt, Paths, none, path, Form, paths_of}
use Rattle.path_expr.specs.Description.{How, in_turn, one_of}
use Rattle.path_auto.specs.Positions.{Position, listed_by, listed, tests}
use Rattle.path_auto.specs.Sets.{entry_by, entry, rows_by, rows, tests_by, tests_of, some_by, some, lives_by, lives, set_of}

-- a union with the empty set is the other set
pub or_zero : (a : ℕ) → bit_or a 0 ≡ a
or_zero a = same_from_bits (bit_or a 0) a (λ i. omega (arith, bit_at_or a 0 i, bit_at-zero i))

-- of a union of three sets it does not matter which two are joined first
pub or_assoc : (a b c : ℕ) → bit_or (bit_or a b) c ≡ bit_or a (bit_or b c)
or_assoc a b c = same_from_bits (bit_or (bit_or a b) c) (bit_or a (bit_or b c)) (λ i. omega (arith, bit_at_or (bit_or a b) c i, bit_at_or a b i, bit_at_or a (bit_or b c) i, bit_at_or b c i))

-- the first set of a choice of one path is that of the path
pub entry_only : (p : Form) (b n : ℕ) → entry (paths_of (p ∷ [])) one_of b n ≡ entry_by p.head (entry p.members) b n
entry_only p b n = or_zero (entry_by p.head (entry p.members) b n)

-- a disjunction with what does not hold
or_false : (a : Bool) → (a || false) ≡ a
or_false true = refl
or_false false = refl

-- whether a choice of one path describes any list is whether the path does
pub some_only : (p : Form) → some (paths_of (p ∷ [])) one_of ≡ some_by p.head (some p.members)
some_only p = or_false (some_by p.head (some p.members))

-- the rows of a choice of one path are those of the path
pub rows_only : (p : Form) (b n : ℕ) → rows (paths_of (p ∷ [])) one_of b n ≡ rows_by p.head (rows p.members) (entry p.members) b n
rows_only p b n = append_nil (rows_by p.head (rows p.members) (entry p.members) b n)

-- from where in a choice of one path some list leads on is from where it does in the path
pub lives_only : (p : Form) (o : Bool) → lives (paths_of (p ∷ [])) one_of o ≡ lives_by p.head (lives p.members) o
lives_only p o = append_nil (lives_by p.head (lives p.members) o)

-- the tests of a choice of one path are those of the path
pub tests_only : (p : Form) → tests_of (paths_of (p ∷ [])) ≡ tests_by p.head (tests_of p.members)
tests_only p = append_nil (tests_by p.head (tests_of p.members))

-- the tests of one list of positions after another are those of the first and those of the second
tests_append : (s t : List Position) → tests (s ++ t) ≡ tests s ++ tests t
tests_append [] t = refl
tests_append (a ∷ s) t = ap (λ r. a.test ∷ r) (tests_append s t)

-- the tests of a path's positions are the tests of the path
abbrev Tests : Paths → Type 0
-- the tests of a path's positions are the tests of the path
Tests m = (w : How) (k : Paths) → tests (listed m w k) ≡ tests_of m

-- the tests of a path's positions are the tests of the path, by its head
pub tests_by_are : (h : Head) (m : Paths) → Tests m → (k : Paths) → tests (listed_by h m (listed m) k) ≡ tests_by h (tests_of m)
tests_by_are (name l) m ih k = refl
tests_by_are any m ih k = refl
tests_by_are seq m ih k = ih in_turn k
tests_by_are alt m ih k = ih one_of k
tests_by_are star m ih k = ih one_of (path star m k)
tests_by_are plus m ih k = ih one_of (path star m k)
tests_by_are opt m ih k = ih one_of k

-- two lists, each equal to another, one after the other
two : {A : Type 0} (a b c d : List A) → a ≡ c → b ≡ d → a ++ b ≡ c ++ d
two a b c d e f = ap (λ r. r ++ b) e ∙ ap (λ r. c ++ r) f

-- the tests of all paths' positions are the tests of the paths
pub tests_are : (m : Paths) → Tests m
tests_are none w k = refl
tests_are (path h m after) in_turn k = tests_append (listed_by h m (listed m) (path seq after k)) (listed after in_turn k) ∙ two _ _ _ _ (tests_by_are h m (tests_are m) (path seq after k)) (tests_are after in_turn k)
tests_are (path h m after) one_of k = tests_append (listed_by h m (listed m) k) (listed after one_of k) ∙ two _ _ _ _ (tests_by_are h m (tests_are m) k) (tests_are after one_of k)

-- a list from a place on is the member there and those after it
drop_at : {A : Type 0} (xs : List A) (i : ℕ) (x d : A) → i < length xs → x ≡ get_or xs i d → drop i xs ≡ x ∷ drop (i + 1) xs
drop_at xs i x d h e =
    let next : suc i ≡ i + 1 = omega arith in
    drop-cons xs i d h ∙ ap (λ y. y ∷ drop (suc i) xs) (sym e) ∙ ap (λ k. x ∷ drop k xs) next

-- the set of some positions, with one more where it is given, and the set from the next one on are the set from that one on
pub set_more : (os : List Bool) (i set given : ℕ) → i < length os → given ≡ cond (get_or os i false) (2 ^ i) 0
    → bit_or (bit_or set given) (set_of (drop (i + 1) os) (i + 1)) ≡ bit_or set (set_of (drop i os) i)
set_more os i set given h g =
    or_assoc set given (set_of (drop (i + 1) os) (i + 1))
    ∙ ap (λ v. bit_or set (bit_or v (set_of (drop (i + 1) os) (i + 1)))) g
    ∙ ap (bit_or set) (sym (ap (λ us. set_of us i) (drop_at os i (get_or os i false) false h refl)))

-- after the last position the set that was gathered is whole
pub set_end : (os : List Bool) (i set : ℕ) → length os ≤ i → bit_or set (set_of (drop i os) i) ≡ set
set_end os i set h = ap (λ us. bit_or set (set_of us i)) (drop_all i os h) ∙ or_zero set
