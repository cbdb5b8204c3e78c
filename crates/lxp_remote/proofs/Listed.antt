-- The holes of a list that came.
use Rattle.std.proofs.Common.{◌≡◌, ℕ, zero, suc, ◌<◌, Bool, true, List, [], ◌∷◌, ◌++◌, length, get_or, refl, ap, sym, ◌∙◌, arith}
use Rattle.std.specs.Prelude.{Contains}
use Rattle.lxp_core.specs.declared.open_tree.HoleId.{HoleId}
use Rattle.lxp_core.specs.Open as plain_open
use Rattle.wire_text.specs.Wired.{Wired, nil, node, hole, without_weights, total_of, holes_of}
use Rattle.lxp_remote.proofs.Learnt.{first_in, second_in}

-- each hole of a list passes a test
abbrev AllPass : (HoleId → Bool) → List (HoleId × ℕ) → Type 0
AllPass test [] = Unit {0}
AllPass test (e ∷ es) = (test e.0 ≡ true) × AllPass test es

both_pass : (test : HoleId → Bool) (a b : List (HoleId × ℕ)) → AllPass test a → AllPass test b → AllPass test (a ++ b)
both_pass test [] b p q = q
both_pass test (e ∷ a) b p q = (p.0, both_pass test a b p.1 q)

all_pass : (test : HoleId → Bool) (o : Wired) → plain_open.AllHoles test (without_weights o) → AllPass test (holes_of o)
all_pass test nil p = tt
all_pass test (node l k r) p = both_pass test (holes_of k) (holes_of r) (all_pass test k p.0) (all_pass test r p.1)
all_pass test (hole i w r) p = (p.0, all_pass test r p.1)

passes_at : (test : HoleId → Bool) (es : List (HoleId × ℕ)) (k : ℕ) (i : HoleId) (n : ℕ) → AllPass test es → k < length es → get_or es k (i, n) ≡ (i, n) → test i ≡ true
passes_at test [] k i n p h e = absurd (omega arith)
passes_at test (x ∷ es) zero i n p h e = sym (ap (λ y. test y.0) e) ∙ p.0
passes_at test (x ∷ es) (suc k) i n p h e = passes_at test es k i n p.1 (omega arith) e

-- where each hole of a list passes a test, one that came with a weight does
pub hole_passes : (test : HoleId → Bool) (o : Wired) (i : HoleId) (n : ℕ) → plain_open.AllHoles test (without_weights o) → Contains (holes_of o) (i, n) → test i ≡ true
hole_passes test o i n p c = passes_at test (holes_of o) c.0 i n (all_pass test o p) c.1 c.2

-- where each hole that came with a weight passes a test, each hole of the list does
pub all_holes : (test : HoleId → Bool) (o : Wired) → ((i : HoleId) (n : ℕ) → Contains (holes_of o) (i, n) → test i ≡ true) → plain_open.AllHoles test (without_weights o)
all_holes test nil h = tt
all_holes test (node l k r) h =
    (all_holes test k (λ i n c. h i n (first_in (holes_of k) (holes_of r) (i, n) c)), all_holes test r (λ i n c. h i n (second_in (holes_of k) (holes_of r) (i, n) c)))
all_holes test (hole i w r) h = (h i w (0, omega arith, refl), all_holes test r (λ j n c. h j n (second_in ((i, w) ∷ []) (holes_of r) (j, n) c)))

-- where each hole came with its weight, the list weighs its total
pub weighs_total : (weight : HoleId → ℕ) (o : Wired) → ((i : HoleId) (n : ℕ) → Contains (holes_of o) (i, n) → weight i ≡ n) → plain_open.weight_of weight (without_weights o) ≡ total_of o
weighs_total weight nil h = refl
weighs_total weight (node l k r) h =
    let below = weighs_total weight k (λ i n c. h i n (first_in (holes_of k) (holes_of r) (i, n) c)) in
    let later = weighs_total weight r (λ i n c. h i n (second_in (holes_of k) (holes_of r) (i, n) c)) in
    omega (arith, below, later)
weighs_total weight (hole i w r) h =
    let mine = h i w (0, omega arith, refl) in
    let later = weighs_total weight r (λ j n c. h j n (second_in ((i, w) ∷ []) (holes_of r) (j, n) c)) in
    omega (arith, mine, later)
