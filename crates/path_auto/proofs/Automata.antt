-- The machine of a path's table is the path's automaton.
use Rattle.std.proofs.Common.{◌≡◌, ◌∙◌, inl, inr, ◌≤◌, ◌<◌, ℕ, zero, suc, ◌+◌, ◌%◌, ◌/◌, ◌^◌, ◌&&◌, length-append, ◌==◌, min, Bool, true, false, IsTrue, List, [], ◌∷◌, ◌++◌, length, Option, refl, sym, ap, subst, arith}
use Rattle.std.specs.Prelude.{not}
use Rattle.std.specs.Int.{bit_at}
use Rattle.std.specs.Int.RustNames.{bit_and, bit_or}
use Rattle.std.proofs.lemmas.Nat.Bits.{bit_at-zero, bit_at_and, bit_at_lowest, bit_at-suc}
use Rattle.std.proofs.lemmas.Bool.{cases_eq}
use Rattle.std.proofs.lemmas.Bool.Decides.{Decides-eqb}
use Rattle.std.specs.Prelude.{◌↔◌ as Iff}
use Rattle.path_expr.specs.Form.{Head, name, any, seq, alt, star, plus, opt, Paths, none, path, Form, head_positions, positions_of, positions_in}
use Rattle.path_expr.specs.Description.{Labels, How, in_turn, one_of, Describes}
use Rattle.path_expr.specs.Labels.{HeadUtf8, AreUtf8}
use Rattle.path_expr.specs.Count.{count_by, count}
use Rattle.path_auto.specs.Positions.{Position, tests}
use Rattle.path_auto.specs.Sets.{entry, rows_by, rows, step_from, end_of, first_set, listed_in, rows_in, step, run, tests_by, tests_of, some, lives_by, lives, lives_in, set_of}
use Rattle.path_auto.specs.Automaton.{Machine, steps, states_after, GoesOn, Follows, IsAutomatonOf, machine_of, table_of}
use Rattle.path_auto.proofs.Unions.{tests_by_are, tests_are}
use Rattle.path_auto.proofs.Entries.{length_by, length_is}
use Rattle.path_auto.proofs.Runs.{accepts_is, run_leads, first_leads}
use Rattle.path_auto.proofs.Steps.{OnAny}
use Rattle.path_auto.proofs.Runs.{on_leads}
use Rattle.path_auto.proofs.Living.{Meet, Lives, live_by, all_live, meet_leads, leads_meet}

-- the tests of a path are those of its positions
tests_in : (p : Form) → tests (listed_in p) ≡ tests_by p.head (tests_of p.members)
tests_in p = tests_by_are p.head p.members (tests_are p.members) none

-- there is a test for each position
tests_length : (s : List Position) → length (tests s) ≡ length s
tests_length [] = refl
tests_length (a ∷ s) = omega (arith, tests_length s)

-- there are as many tests as positions
pub labels_length : (p : Form) → length (tests_by p.head (tests_of p.members)) ≡ end_of p
labels_length p = ap (λ t. length t) (sym (tests_in p)) ∙ tests_length (listed_in p) ∙ length_by p.head p.members (length_is p.members) none

-- a number above 0 has a bit
has_bit : (k n : ℕ) → n ≤ k → 0 < n → (i : ℕ) × (bit_at n i ≡ 1)
has_bit zero n h k = absurd (omega arith)
has_bit (suc k) n h some = elim (cases_eq (n % 2) 1) [
  | inl e ↦ (0, bit_at_lowest n ∙ e)
  | inr d ↦ (let half : n / 2 ≤ k = omega arith in
      let rest : 0 < n / 2 = omega arith in
      let r = has_bit k (n / 2) half rest in
      (suc r.0, bit_at-suc n r.0 ∙ r.1))
]

-- two bits that are both set
both_set : (a b : ℕ) → a < 2 → b < 2 → min a b ≡ 1 → (a ≡ 1) × (b ≡ 1)
both_set a b h k e = (omega arith, omega arith)

-- sets have a member in common where their bits do
pub meets : (n m : ℕ) → IsTrue (not (bit_and n m == 0)) → Meet n m
meets n m h = elim (cases_eq (bit_and n m) 0) [
  | inl e ↦ cc
  | inr d ↦ (let r = has_bit (bit_and n m) (bit_and n m) (omega arith) (omega arith) in
      let q = both_set (bit_at n r.0) (bit_at m r.0) (omega arith) (omega arith) (sym (bit_at_and n m r.0) ∙ r.1) in
      (r.0, q.0, q.1))
]

-- the bits of two sets have one in common where the sets have a member in common
pub meet : (n m : ℕ) → Meet n m → IsTrue (not (bit_and n m == 0))
meet n m (i, h, k) = by_test (bit_and n m == 0) refl
  where
    one : bit_at (bit_and n m) i ≡ 1
    one = omega (arith, bit_at_and n m i, h, k)

    by_test : (t : Bool) → (bit_and n m == 0) ≡ t → IsTrue (not t)
    by_test false e = refl
    by_test true e =
        let none_set : bit_and n m ≡ 0 = (Decides-eqb (bit_and n m) 0).0 e in
        absurd (let f : bit_at (bit_and n m) i ≡ 0 = ap (λ c. bit_at c i) none_set ∙ bit_at-zero i in omega (arith, one, f))

-- the machine of a path's table
abbrev machine_for : Form → Machine
machine_for p = machine_of (table_of p)

-- a run of the machine of a path's table is the run of the path
runs : (p : Form) (n : ℕ) (x : Labels) → steps (machine_for p) n x ≡ run p n x
unfolding machine_of
runs p n [] = refl
runs p n (l ∷ x) =
    let now : ℕ = step_from (tests_by p.head (tests_of p.members)) (rows_in p) 0 n l in
    let same : now ≡ step p n l = ap (λ t. step_from t (rows_in p) 0 n l) (sym (tests_in p)) in
    runs p now x ∙ ap (λ k. run p k x) same

-- the states after a list of labels
after_is : (p : Form) (x : Labels) → states_after (machine_for p) x ≡ run p (first_set p) x
unfolding machine_of
after_is p x = runs p (first_set p) x

-- the machine of a path's table accepts what the path describes
accepts_for : (p : Form) (x : Labels) → Iff (IsTrue ((machine_for p).accepts (states_after (machine_for p) x))) (Describes p x)
unfolding machine_of
accepts_for p x =
    subst (λ n. Iff (IsTrue (bit_at n (length (tests_by p.head (tests_of p.members))) == 1)) (Describes p x)) (sym (after_is p x))
    (subst (λ c. Iff (IsTrue (bit_at (run p (first_set p) x) c == 1)) (Describes p x)) (sym (labels_length p)) (accepts_is p x))

-- the labels of a path are UTF-8
abbrev IsText : Form → Type 0
IsText p = HeadUtf8 p.head × AreUtf8 p.members

-- the list of a table says of each position whether any list leads on
lives_are : (p : Form) → Lives (IsText p) (lives_in p) (listed_in p)
lives_are p = live_by (IsText p) p.head p.members (λ u. u.0) (λ u. u.1) (all_live (IsText p) p.members) none true ((λ u h. ([], tt, refl)), (λ x h. refl))

-- the machine of a path's table goes on only where the path describes a longer list
goes_for : (p : Form) → HeadUtf8 p.head → AreUtf8 p.members → (x : Labels) → IsTrue ((machine_for p).goes_on (states_after (machine_for p) x)) → GoesOn p x
unfolding machine_of
goes_for p u v x h =
    let n : ℕ = run p (first_set p) x in
    let met : Meet n (set_of (lives_in p) 0) = meets n (set_of (lives_in p) 0) (subst (λ k. IsTrue (not (bit_and k (set_of (lives_in p) 0) == 0))) (after_is p x) h) in
    let r = meet_leads (IsText p) (lives_in p) (listed_in p) 0 n (u, v) (lives_are p) met in
    (r.0, r.1, r.2, r.3, (first_leads p (x ++ r.0 ∷ r.1)).0 ((run_leads p x (first_set p) (r.0 ∷ r.1)).0 ((on_leads (listed_in p) n r.0 r.1).0 r.4)))

-- where the path describes a longer list, it goes on
longer_for : (p : Form) (x : Labels) (l : List ℕ) (y : Labels) → Describes p (x ++ l ∷ y)
    → IsTrue ((machine_for p).goes_on (states_after (machine_for p) x))
unfolding machine_of
longer_for p x l y d =
    let n : ℕ = run p (first_set p) x in
    let on : OnAny n 0 (listed_in p) (l ∷ y) = (on_leads (listed_in p) n l y).1 ((run_leads p x (first_set p) (l ∷ y)).1 ((first_leads p (x ++ l ∷ y)).1 d)) in
    subst (λ k. IsTrue (not (bit_and k (set_of (lives_in p) 0) == 0))) (sym (after_is p x))
    (meet n (set_of (lives_in p) 0) (leads_meet (IsText p) (lives_in p) (listed_in p) 0 n (lives_are p) (l ∷ y) on))

-- the machine of a path's table follows the path
pub table_follows : (p : Form) → Follows (machine_of (table_of p)) p
table_follows p = record { accepts = accepts_for p; longer = longer_for p }

-- where its labels are UTF-8, the machine of a path's table is its automaton
pub table_automaton : (p : Form) → HeadUtf8 p.head → AreUtf8 p.members → IsAutomatonOf (machine_of (table_of p)) p
table_automaton p u v = record { follows = table_follows p; goes_on = goes_for p u v }

-- a head has as many positions as labels
few_by : (h : Head) (m : Paths) → count m ≤ positions_of m → count_by h (count m) ≤ head_positions h + positions_of m
few_by (name l) m h = omega arith
few_by any m h = omega arith
few_by seq m h = omega (arith, h)
few_by alt m h = omega (arith, h)
few_by star m h = omega (arith, h)
few_by plus m h = omega (arith, h)
few_by opt m h = omega (arith, h)

-- paths have no more positions than label positions
few : (m : Paths) → count m ≤ positions_of m
few none = omega arith
few (path h m after) = omega (arith, few_by h m (few m), few after)

-- a path has no more positions than label positions
pub few_positions : (p : Form) → end_of p ≤ positions_in p
few_positions p = few_by p.head p.members (few p.members)

-- a table has a set for each position, by the paths under a head
rows_by_length : (h : Head) (m : Paths) → ((w : How) (b n : ℕ) → length (rows m w b n) ≡ count m) → (b n : ℕ)
    → length (rows_by h (rows m) (entry m) b n) ≡ count_by h (count m)
rows_by_length (name l) m ih b n = refl
rows_by_length any m ih b n = refl
rows_by_length seq m ih b n = ih in_turn b n
rows_by_length alt m ih b n = ih one_of b n
rows_by_length star m ih b n = ih one_of b (bit_or n (entry m one_of b n))
rows_by_length plus m ih b n = ih one_of b (bit_or n (entry m one_of b n))
rows_by_length opt m ih b n = ih one_of b n

-- a table has a set for each position of paths
rows_length : (m : Paths) (w : How) (b n : ℕ) → length (rows m w b n) ≡ count m
rows_length none w b n = refl
rows_length (path h m after) in_turn b n =
    let c : ℕ = count_by h (count m) in
    length-append (rows_by h (rows m) (entry m) b (entry after in_turn (b + c) n)) (rows after in_turn (b + c) n)
    ∙ omega (arith, rows_by_length h m (rows_length m) b (entry after in_turn (b + c) n), rows_length after in_turn (b + c) n)
rows_length (path h m after) one_of b n =
    let c : ℕ = count_by h (count m) in
    length-append (rows_by h (rows m) (entry m) b n) (rows after one_of (b + c) n)
    ∙ omega (arith, rows_by_length h m (rows_length m) b n, rows_length after one_of (b + c) n)

-- the list of which positions live has an entry for each position, by the paths under a head
lives_by_length : (h : Head) (m : Paths) → ((w : How) (o : Bool) → length (lives m w o) ≡ count m) → (o : Bool) → length (lives_by h (lives m) o) ≡ count_by h (count m)
lives_by_length (name l) m ih o = refl
lives_by_length any m ih o = refl
lives_by_length seq m ih o = ih in_turn o
lives_by_length alt m ih o = ih one_of o
lives_by_length star m ih o = ih one_of o
lives_by_length plus m ih o = ih one_of o
lives_by_length opt m ih o = ih one_of o

-- the list of which positions live has an entry for each position of paths
lives_length : (m : Paths) (w : How) (o : Bool) → length (lives m w o) ≡ count m
lives_length none w o = refl
lives_length (path h m after) in_turn o =
    length-append (lives_by h (lives m) (some after in_turn && o)) (lives after in_turn o)
    ∙ omega (arith, lives_by_length h m (lives_length m) (some after in_turn && o), lives_length after in_turn o)
lives_length (path h m after) one_of o =
    length-append (lives_by h (lives m) o) (lives after one_of o) ∙ omega (arith, lives_by_length h m (lives_length m) o, lives_length after one_of o)

-- a path's list says so of no more positions than it has label positions
pub few_lives : (p : Form) → length (lives_in p) ≤ positions_in p
few_lives p = let e : length (lives_in p) ≡ end_of p = lives_by_length p.head p.members (lives_length p.members) true in omega (arith, e, few_positions p)

-- a path's table has a label for each position, no more than it has label positions, and as many sets
pub sizes : (ls : List (Option (List ℕ))) (bs : List ℕ) (p : Form) → ls ≡ tests_by p.head (tests_of p.members) → bs ≡ rows_in p
    → (length ls ≤ positions_in p) × (length bs ≡ length ls)
sizes ls bs p e f =
    let labels : length ls ≡ end_of p = ap (λ t. length t) e ∙ labels_length p in
    let sets : length bs ≡ end_of p = ap (λ t. length t) f ∙ rows_by_length p.head p.members (rows_length p.members) 0 (2 ^ end_of p) in
    (omega (arith, labels, few_positions p), sets ∙ sym labels)
