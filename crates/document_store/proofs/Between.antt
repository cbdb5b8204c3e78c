-- The trees between two positions.
use Rattle.std.proofs.Common.{◌≡◌, ◌∙◌, ℕ, zero, suc, ◌+◌, ◌-◌, ◌<◌, ◌≤◌, Bool, true, false, cond, nat_lt, List, refl, ap, sym, arith}
use Rattle.std.proofs.lemmas.Bool.Decides.{nat_tests}
use Rattle.mix_tree.specs.Forest.{Forest, none, tree}
use Rattle.document_store.specs.Laid.{LaidNode, node_at, below}
use Rattle.document_store.specs.Between.{before, fits, trees, between}

-- no tree lies between a position and an earlier one
pub fits_none : (ns : List LaidNode) (from to : ℕ) → to ≤ from → fits ns from to ≡ false
fits_none ns from to h = none_below (below ns (to - 1)) (to - from) (omega arith)
  where
    none_below : (b d : ℕ) → d ≡ 0 → nat_lt b d ≡ false
    none_below b d e = grind (arith, nat_tests)

-- a tree that fits between two positions ends, with the nodes below it, after the first of them
pub fits_some : (ns : List LaidNode) (from to : ℕ) → fits ns from to ≡ true → from + below ns (to - 1) < to
fits_some ns from to h = some_below (below ns (to - 1)) from to h
  where
    some_below : (b f t : ℕ) → nat_lt b (t - f) ≡ true → f + b < t
    some_below b f t e = grind (arith, nat_tests)

-- a test that fails chooses nothing
chosen_none : (b : Bool) (f : Forest) → b ≡ false → cond b f none ≡ none
chosen_none true f h = cc
chosen_none false f h = refl

-- a test that holds chooses the trees
chosen_some : (b : Bool) (f : Forest) → b ≡ true → cond b f none ≡ f
chosen_some true f h = refl
chosen_some false f h = cc

-- between a position and an earlier one there is none, whatever the limit
trees_none : (ns : List LaidNode) (most from to : ℕ) → to ≤ from → trees ns most from to ≡ none
trees_none ns zero from to h = refl
trees_none ns (suc most) from to h = chosen_none (fits ns from to) _ (fits_none ns from to h)

-- a limit that is high enough may be another
trees_enough : (ns : List LaidNode) (most more from to : ℕ) → to ≤ most → to ≤ more → trees ns most from to ≡ trees ns more from to
trees_enough ns zero zero from to h k = refl
trees_enough ns zero (suc more) from to h k = sym (trees_none ns (suc more) from to (omega arith))
trees_enough ns (suc most) zero from to h k = trees_none ns (suc most) from to (omega arith)
trees_enough ns (suc most) (suc more) from to h k =
    let i = to - 1 in
    ap (λ f. cond (fits ns from to) (tree (node_at ns (to - 1)).label f (trees ns most from (before ns (to - 1)))) none)
    (trees_enough ns most more (before ns i) i (omega arith) (omega arith))
    ∙ ap (λ f. cond (fits ns from to) (tree (node_at ns (to - 1)).label (trees ns more (before ns (to - 1)) (to - 1)) f) none)
    (trees_enough ns most more from (before ns i) (omega arith) (omega arith))

-- the trees between two positions are the first one and those after it
between_step : (ns : List LaidNode) (from to : ℕ)
    → between ns from to ≡ cond (fits ns from to) (tree (node_at ns (to - 1)).label (between ns (before ns (to - 1)) (to - 1)) (between ns from (before ns (to - 1)))) none
between_step ns from zero = sym (chosen_none (fits ns from 0) _ (fits_none ns from 0 (omega arith)))
between_step ns from (suc most) =
    let to = suc most in
    let i = to - 1 in
    ap (λ f. cond (fits ns from (suc most)) (tree (node_at ns (suc most - 1)).label f (trees ns most from (before ns (suc most - 1)))) none)
    (trees_enough ns most i (before ns i) i (omega arith) (omega arith))
    ∙ ap (λ f. cond (fits ns from (suc most)) (tree (node_at ns (suc most - 1)).label (between ns (before ns (suc most - 1)) (suc most - 1)) f) none)
    (trees_enough ns most (before ns i) from (before ns i) (omega arith) (omega arith))

-- where no tree fits between two positions, there is none between them
pub between_none : (ns : List LaidNode) (from to : ℕ) → fits ns from to ≡ false → between ns from to ≡ none
between_none ns from to h = between_step ns from to ∙ chosen_none (fits ns from to) _ h

-- where a tree fits between two positions, the trees between them are that one and those after it
pub between_some : (ns : List LaidNode) (from to : ℕ) → fits ns from to ≡ true
    → between ns from to ≡ tree (node_at ns (to - 1)).label (between ns (before ns (to - 1)) (to - 1)) (between ns from (before ns (to - 1)))
between_some ns from to h = between_step ns from to ∙ chosen_some (fits ns from to) _ h

-- the trees between two positions are the first one, whose node's position is given, and those after it
pub between_first : (ns : List LaidNode) (from to i : ℕ) → fits ns from to ≡ true → i + 1 ≡ to
    → between ns from to ≡ tree (node_at ns i).label (between ns (before ns i) i) (between ns from (before ns i))
between_first ns from to i h e =
    let at : to - 1 ≡ i = omega arith in
    between_some ns from to h ∙ ap (λ j. tree (node_at ns j).label (between ns (before ns j) j) (between ns from (before ns j))) at
