-- The lists that holes are answered with are small enough for a wire.
use Rattle.std.proofs.Common.{ℕ, zero, suc, ◌+◌, ◌-◌, ◌<◌, ◌≤◌, ◌^◌, Bool, true, false, cond, List, length, arith}
use Rattle.mix_tree.specs.Forest.{Forest, none, tree}
use Rattle.mix_tree.specs.Weight.{nodes_of}
use Rattle.lxp_core.specs.Open.{Open, nil, node, hole, without_holes}
use Rattle.lxp_core.specs.Small.{IsSmall, IsSmallWithin, tops_of}
use Rattle.document_store.specs.Laid.{LaidNode, node_at}
use Rattle.document_store.specs.Between.{before, fits, trees, between}
use Rattle.document_store.specs.Shallow.{levels_of}
use Rattle.document_store.proofs.Between.{fits_some}
use Rattle.document_store.proofs.Nested.{nodes_between}
use Rattle.bracket_wrap.specs.Holes.{rest_hole, all_of, kids_given, given_from, IsGivable}
use Rattle.bracket_wrap.proofs.Given.{by_test}

-- there are no more trees side by side than nodes
tops-nodes : (f : Forest) → tops_of (without_holes f) ≤ nodes_of f
tops-nodes none = omega arith
tops-nodes (tree label kids rest) = omega (arith, tops-nodes rest)

-- these trees are a small list, where they have few levels and few nodes
abbrev pub IsSmallWhere : Forest → ℕ → Type 0
IsSmallWhere f levels = levels_of f ≤ levels → nodes_of f < 2 ^ 32 → IsSmallWithin levels (without_holes f)

-- a first tree and those after it are a small list, where its children and the others are and its label is short
small-first : (levels : ℕ) (here : Bool) (label : List ℕ) (kids rest : Forest) → length label < 2 ^ 32 → ((m : ℕ) → IsSmallWhere kids m) → ((m : ℕ) → IsSmallWhere rest m)
    → IsSmallWhere (cond here (tree label kids rest) none) levels
small-first levels false label kids rest short k r few l = tt
small-first zero true label kids rest short k r few l = absurd (omega (arith, few))
small-first (suc m) true label kids rest short k r few l =
    (short, omega (arith, tops-nodes kids, l), k m (omega (arith, few)) (omega (arith, l)), r (suc m) (omega (arith, few)) (omega (arith, l)))

module _ (ns : List LaidNode) (givable : IsGivable ns) where
  -- the trees between two positions are a small list, where they have few levels and few nodes
  small-trees : (most levels from to : ℕ) → IsSmallWhere (trees ns most from to) levels
  small-trees zero levels from to = λ few l. tt
  small-trees (suc most) levels from to =
      small-first levels (fits ns from to) (node_at ns (to - 1)).label (trees ns most (before ns (to - 1)) (to - 1)) (trees ns most from (before ns (to - 1)))
      (givable.bounded.labels (to - 1)) (λ m. small-trees most m (before ns (to - 1)) (to - 1)) (λ m. small-trees most m from (before ns (to - 1)))

  -- the list below a node is short, and has fewer than 200 levels
  small-kids : (whole : Bool) (i : ℕ) → i + 1 < length ns → (tops_of (kids_given ns whole i) < 2 ^ 32) × IsSmallWithin 199 (kids_given ns whole i)
  small-kids true i h =
      let all = nodes_between ns i i i givable.nested (omega arith) (omega arith) (omega arith) (omega arith) in
      let few : nodes_of (between ns (before ns i) i) < 2 ^ 32 = omega (arith, all, givable.bounded.nodes) in
      (omega (arith, tops-nodes (between ns (before ns i) i), few), small-trees i 199 (before ns i) i (omega (arith, givable.low i h)) few)
  small-kids false i h =
      let Small : Open → Type 0 = λ o. (tops_of o < 2 ^ 32) × IsSmallWithin 199 o in
      by_test Small (fits ns (before ns i) i) (hole (rest_hole (all_of i)) nil) nil (λ k. (omega arith, tt)) (λ k. (omega arith, tt))

  -- a list that is given has no more trees side by side than there are nodes
  tops-given : (whole : Bool) (parent most to : ℕ) → tops_of (given_from ns whole parent most to) ≤ to - before ns parent
  tops-given whole parent zero to =
      let Few : Open → Type 0 = λ o. tops_of o ≤ to - before ns parent in
      by_test Few (fits ns (before ns parent) to) (hole (rest_hole (record { node = parent; to = to })) nil) nil
      (λ h. omega (arith, fits_some ns (before ns parent) to h)) (λ h. omega arith)
  tops-given whole parent (suc most) to =
      let Few : Open → Type 0 = λ o. tops_of o ≤ to - before ns parent in
      let i = to - 1 in
      by_test Few (fits ns (before ns parent) to) (node (node_at ns i).label (kids_given ns whole i) (given_from ns whole parent most (before ns i))) nil
      (λ h. omega (arith, fits_some ns (before ns parent) to h, tops-given whole parent most (before ns i))) (λ h. omega arith)

  -- a list that is given has at most 200 levels, and short labels and lists below its nodes
  small-levels : (whole : Bool) (parent most to : ℕ) → parent < length ns → to ≤ parent → IsSmallWithin 200 (given_from ns whole parent most to)
  small-levels whole parent zero to h k =
      by_test (IsSmallWithin 200) (fits ns (before ns parent) to) (hole (rest_hole (record { node = parent; to = to })) nil) nil (λ p. tt) (λ p. tt)
  small-levels whole parent (suc most) to h k =
      let i = to - 1 in
      by_test (IsSmallWithin 200) (fits ns (before ns parent) to) (node (node_at ns i).label (kids_given ns whole i) (given_from ns whole parent most (before ns i))) nil
      (λ p. let some = fits_some ns (before ns parent) to p in
      let kids = small-kids whole i (omega (arith, some)) in
      (givable.bounded.labels i, kids.0, kids.1, small-levels whole parent most (before ns i) h (omega (arith, some)))) (λ p. tt)

  -- a list that is given is small enough for a wire
  pub small-given : (whole : Bool) (parent most to : ℕ) → parent < length ns → to ≤ parent → IsSmall (given_from ns whole parent most to)
  small-given whole parent most to h k = (omega (arith, tops-given whole parent most to, givable.bounded.nodes), small-levels whole parent most to h k)
