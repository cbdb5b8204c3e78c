-- The lists that holes are answered with keep what a source promises.
use Rattle.std.proofs.Common.{◌≡◌, ◌∙◌, ℕ, zero, suc, ◌+◌, ◌-◌, ◌<◌, ◌≤◌, Bool, true, false, cond, nat_lt, nat_le, ◌&&◌, ◌==◌, List, length, slice_index, refl, ap, sym, arith}
use Rattle.std.proofs.lemmas.Bool.Decides.{nat_tests}
use Rattle.mix_tree.specs.Forest.{tree}
use Rattle.mix_tree.specs.Weight.{nodes_of}
use Rattle.lxp_core.specs.declared.open_tree.HoleId.{HoleId}
use Rattle.lxp_core.specs.Open.{Open, nil, node, hole, closed, weight_of, AllHoles, IsApart, IsProgress, is_nil, has_node, begins_with_hole}
use Rattle.lxp_core.proofs.Opens.{closed-without_holes, AllHoles-without_holes, IsApart-without_holes, nodes_of-closed}
use Rattle.mix_tree.proofs.Forests.{followed-none}
use Rattle.document_store.specs.Laid.{LaidNode}
use Rattle.bracket_wrap.specs.declared.holes.Rest.{Rest}
use Rattle.document_store.specs.Laid.{node_at}
use Rattle.document_store.specs.Between.{before, fits, between}
use Rattle.bracket_wrap.specs.Holes.{rest_hole, all_of, is_known, hole_trees, rest_given, kids_given, given_from}
use Rattle.document_store.proofs.Between.{fits_some, between_none, between_some}

-- what holds of both sides of a choice by a test holds of the choice
pub by_test : (P : Open → Type 0) (b : Bool) (x y : Open) → (b ≡ true → P x) → (b ≡ false → P y) → P (cond b x y)
by_test P true x y h k = h refl
by_test P false x y h k = k refl

module _ (ns : List LaidNode) where
  -- the list below a node closes to its children
  closed-kids : (whole : Bool) (i : ℕ) → closed (hole_trees ns) (kids_given ns whole i) ≡ between ns (before ns i) i
  closed-kids true i = closed-without_holes (hole_trees ns) (between ns (before ns i) i)
  closed-kids false i =
      let Closes : Open → Type 0 = λ o. closed (hole_trees ns) o ≡ between ns (before ns i) i in
      by_test Closes (fits ns (before ns i) i) (hole (rest_hole (all_of i)) nil) nil
      (λ h. followed-none (between ns (before ns i) i))
      (λ h. sym (between_none ns (before ns i) i h))

  -- the list of the last children of a node closes to them
  pub closed-given : (whole : Bool) (parent most to : ℕ) → closed (hole_trees ns) (given_from ns whole parent most to) ≡ between ns (before ns parent) to
  closed-given whole parent zero to =
      let from = before ns parent in
      let Closes : Open → Type 0 = λ o. closed (hole_trees ns) o ≡ between ns (before ns parent) to in
      by_test Closes (fits ns from to) (hole (rest_hole (record { node = parent; to = to })) nil) nil
      (λ h. followed-none (between ns from to))
      (λ h. sym (between_none ns from to h))
  closed-given whole parent (suc most) to =
      let from = before ns parent in
      let i = to - 1 in
      let Closes : Open → Type 0 = λ o. closed (hole_trees ns) o ≡ between ns (before ns parent) to in
      by_test Closes (fits ns from to) (node (node_at ns i).label (kids_given ns whole i) (given_from ns whole parent most (before ns i))) nil
      (λ h. ap (λ f. tree (node_at ns (to - 1)).label f (closed (hole_trees ns) (given_from ns whole parent most (before ns (to - 1))))) (closed-kids whole i)
      ∙ ap (tree (node_at ns (to - 1)).label (between ns (before ns (to - 1)) (to - 1))) (closed-given whole parent most (before ns i))
      ∙ sym (between_some ns from to h))
      (λ h. sym (between_none ns from to h))

  -- below a node no two holes stand side by side
  apart-kids : (whole : Bool) (i : ℕ) → IsApart (kids_given ns whole i)
  apart-kids true i = IsApart-without_holes (between ns (before ns i) i)
  apart-kids false i = by_test IsApart (fits ns (before ns i) i) (hole (rest_hole (all_of i)) nil) nil (λ h. (refl, tt)) (λ h. tt)

  -- in no list that is given two holes stand side by side
  apart-given : (whole : Bool) (parent most to : ℕ) → IsApart (given_from ns whole parent most to)
  apart-given whole parent zero to =
      by_test IsApart (fits ns (before ns parent) to) (hole (rest_hole (record { node = parent; to = to })) nil) nil (λ h. (refl, tt)) (λ h. tt)
  apart-given whole parent (suc most) to =
      let i = to - 1 in
      by_test IsApart (fits ns (before ns parent) to) (node (node_at ns i).label (kids_given ns whole i) (given_from ns whole parent most (before ns i))) nil
      (λ h. (apart-kids whole i, apart-given whole parent most (before ns i))) (λ h. tt)

  -- a list that is not empty begins with a node
  top-given : (whole : Bool) (parent most to : ℕ) → 1 ≤ most → (is_nil (given_from ns whole parent most to) ≡ false → has_node (given_from ns whole parent most to) ≡ true)
      × (begins_with_hole (given_from ns whole parent most to) ≡ false)
  top-given whole parent zero to some = absurd (omega arith)
  top-given whole parent (suc most) to some =
      let Top : Open → Type 0 = λ o. (is_nil o ≡ false → has_node o ≡ true) × (begins_with_hole o ≡ false) in
      let i = to - 1 in
      by_test Top (fits ns (before ns parent) to) (node (node_at ns i).label (kids_given ns whole i) (given_from ns whole parent most (before ns i))) nil
      (λ h. ((λ k. refl), refl)) (λ h. ((λ k. cc), refl))

  -- the list that is given keeps progress
  pub progress-given : (whole : Bool) (parent most to : ℕ) → 1 ≤ most → IsProgress (given_from ns whole parent most to)
  progress-given whole parent most to some = record { top = (top-given whole parent most to some).0; apart = apart-given whole parent most to }

  -- the list that is given begins with no hole
  pub forward-given : (whole : Bool) (parent most to : ℕ) → 1 ≤ most → begins_with_hole (given_from ns whole parent most to) ≡ false
  forward-given whole parent most to some = (top-given whole parent most to some).1

  -- a hole of children that are there is known
  pub known-rest : (i to : ℕ) → i < length ns → before ns i ≤ to → to ≤ i → is_known ns (rest_hole (record { node = i; to = to })) ≡ true
  known-rest i to h k m = tests (before ns i) i to (length ns) h k m
    where
      tests : (b i t n : ℕ) → i < n → b ≤ t → t ≤ i → (0 == 0) && (nat_lt i n && (nat_le b t && nat_le t i)) ≡ true
      tests b i t n p q r = grind (arith, nat_tests)

  -- the holes below a node are known
  known-kids : (whole : Bool) (i : ℕ) → i < length ns → AllHoles (is_known ns) (kids_given ns whole i)
  known-kids true i h = AllHoles-without_holes (is_known ns) (between ns (before ns i) i)
  known-kids false i h =
      by_test (AllHoles (is_known ns)) (fits ns (before ns i) i) (hole (rest_hole (all_of i)) nil) nil (λ k. (known-rest i i h (omega arith) (omega arith), tt)) (λ k. tt)

  -- all holes of the list that is given are known
  pub known-given : (whole : Bool) (parent most to : ℕ) → parent < length ns → before ns parent ≤ to → to ≤ parent → AllHoles (is_known ns) (given_from ns whole parent most to)
  known-given whole parent zero to h k m =
      by_test (AllHoles (is_known ns)) (fits ns (before ns parent) to) (hole (rest_hole (record { node = parent; to = to })) nil) nil
      (λ p. (known-rest parent to h k m, tt)) (λ p. tt)
  known-given whole parent (suc most) to h k m =
      let i = to - 1 in
      by_test (AllHoles (is_known ns)) (fits ns (before ns parent) to) (node (node_at ns i).label (kids_given ns whole i) (given_from ns whole parent most (before ns i))) nil
      (λ p. let some = fits_some ns (before ns parent) to p in
      (known-kids whole i (omega (arith, some)), known-given whole parent most (before ns i) h (omega (arith, some)) (omega (arith, some)))) (λ p. tt)

  -- the list that is given weighs no more than the trees that its hole stands for
  pub lighter-given : (whole : Bool) (parent most to : ℕ) → weight_of (λ h. nodes_of (hole_trees ns h)) (given_from ns whole parent most to) ≤ nodes_of (between ns (before ns parent) to)
  lighter-given whole parent most to =
      let o = given_from ns whole parent most to in
      let same = nodes_of-closed (hole_trees ns) o in
      let equal = ap nodes_of (closed-given whole parent most to) in
      omega (arith, same, equal)

  -- what a known hole names is there
  pub known-parts : (h : HoleId) → is_known ns h ≡ true → (slice_index h.words 0 < length ns) × (before ns (slice_index h.words 0) ≤ slice_index h.words 1) × (slice_index h.words 1 ≤ slice_index h.words 0)
  known-parts h k = parts (slice_index h.words 2) (before ns (slice_index h.words 0)) (slice_index h.words 0) (slice_index h.words 1) (length ns) k
    where
      parts : (w b i t n : ℕ) → (w == 0) && (nat_lt i n && (nat_le b t && nat_le t i)) ≡ true → (i < n) × (b ≤ t) × (t ≤ i)
      parts w b i t n e = (grind (arith, nat_tests), grind (arith, nat_tests), grind (arith, nat_tests))

  -- a test that fails chooses the empty list
  chosen_nil : (b : Bool) (x : Open) → b ≡ false → cond b x nil ≡ nil
  chosen_nil true x h = cc
  chosen_nil false x h = refl

  -- a test that holds chooses the other list
  chosen : (b : Bool) (x : Open) → b ≡ true → cond b x nil ≡ x
  chosen true x h = refl
  chosen false x h = cc

  -- where no children are left, nothing is given
  pub given-none : (whole : Bool) (parent most to : ℕ) → fits ns (before ns parent) to ≡ false → given_from ns whole parent most to ≡ nil
  given-none whole parent zero to h = chosen_nil (fits ns (before ns parent) to) _ h
  given-none whole parent (suc most) to h = chosen_nil (fits ns (before ns parent) to) _ h

  -- the first child is given, and then those after it
  pub given-some : (whole : Bool) (parent most to i : ℕ) → 0 < most → fits ns (before ns parent) to ≡ true → i + 1 ≡ to
      → given_from ns whole parent most to ≡ node (node_at ns i).label (kids_given ns whole i) (given_from ns whole parent (most - 1) (before ns i))
  given-some whole parent zero to i some h e = absurd (omega arith)
  given-some whole parent (suc most) to i some h e =
      let at : to - 1 ≡ i = omega arith in
      let less : most ≡ suc most - 1 = omega arith in
      chosen (fits ns (before ns parent) to) _ h
      ∙ ap (λ j. node (node_at ns j).label (kids_given ns whole j) (given_from ns whole parent most (before ns j))) at
      ∙ ap (λ m. node (node_at ns i).label (kids_given ns whole i) (given_from ns whole parent m (before ns i))) less

  -- where no more is given, a hole stands for the children that are left
  pub given-rest : (whole : Bool) (parent most to : ℕ) → most ≡ 0 → given_from ns whole parent most to ≡ rest_given ns (record { node = parent; to = to })
  given-rest whole parent zero to h = refl
  given-rest whole parent (suc most) to h = absurd (omega arith)

  -- where children are left, a hole is given for them
  pub rest-some : (r : Rest) (from : ℕ) → from ≡ before ns r.node → fits ns from r.to ≡ true → rest_given ns r ≡ hole (rest_hole r) nil
  rest-some r from e h = chosen (fits ns (before ns r.node) r.to) _ (ap (λ f. fits ns f r.to) (sym e) ∙ h)
