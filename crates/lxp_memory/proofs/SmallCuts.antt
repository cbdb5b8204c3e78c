-- The lists with which a document in memory answers are small enough for a wire.
use Rattle.std.proofs.Common.{◌≡◌, ◌∙◌, ℕ, zero, suc, ◌+◌, ◌-◌, ◌<◌, ◌≤◌, ◌^◌, ◌==◌, Bool, true, false, if◌then◌else◌, List, length, refl, ap, subst, arith}
use Rattle.std.proofs.lemmas.Bool.Decides.{nat_tests}
use Rattle.mix_tree.specs.Forest.{Forest, none, tree, followed}
use Rattle.lxp_core.specs.Open.{Open, nil, without_holes}
use Rattle.lxp_core.specs.Small.{IsSmall, IsSmallWithin, tops_of}
use Rattle.lxp_memory.specs.declared.document.DocNode.{DocNode}
use Rattle.lxp_memory.specs.declared.span.Span.{Span}
use Rattle.lxp_memory.specs.declared.choice.Choice.{Choice}
use Rattle.lxp_memory.specs.Nodes.{first_of, count_of, label_of, run, AreWithin}
use Rattle.lxp_memory.specs.Span.{has_span}
use Rattle.lxp_memory.specs.Choice.{wants_hole, choice_of}
use Rattle.lxp_memory.specs.Cut.{hole_if, kids_of, children, shown_from, shown_to, cut}
use Rattle.lxp_memory.specs.Small.{AreSmall, IsSmallBelow}
use Rattle.lxp_memory.proofs.CutLaws.{HasChildren, has_children}
use Rattle.lxp_memory.proofs.MetTrees.{tree_at}
use Rattle.lxp_memory.proofs.NodeLaws.{run-add, run-suc}

-- of two small lists of trees, one after the other, the first is small
front_small : (levels : ℕ) (f g : Forest) → IsSmallWithin levels (without_holes (followed f g)) → IsSmallWithin levels (without_holes f)
front_small levels none g h = tt
front_small zero (tree label kids rest) g h = absurd h
front_small (suc levels) (tree label kids rest) g h = (h.0, h.1, h.2, front_small (suc levels) rest g h.3)

-- of two small lists of trees, one after the other, the second is small
back_small : (levels : ℕ) (f g : Forest) → IsSmallWithin levels (without_holes (followed f g)) → IsSmallWithin levels (without_holes g)
back_small levels none g h = h
back_small zero (tree label kids rest) g h = absurd h
back_small (suc levels) (tree label kids rest) g h = back_small (suc levels) rest g h.3

-- some of the trees of small ones side by side are small
part_small : (levels : ℕ) (ns : List DocNode) (f c m n : ℕ) → m + n ≤ c → IsSmallWithin levels (without_holes (run ns f c)) → IsSmallWithin levels (without_holes (run ns (f + m) n))
part_small levels ns f c m n h small =
    let k = c - (m + n) in
    let whole : run ns f c ≡ followed (run ns f m) (followed (run ns (f + m) n) (run ns (f + m + n) k)) =
    ap (run ns f) (omega arith) ∙ run-add ns f m (n + k) ∙ ap (followed (run ns f m)) (run-add ns (f + m) n k) in
    front_small levels (run ns (f + m) n) (run ns (f + m + n) k)
    (back_small levels (run ns f m) (followed (run ns (f + m) n) (run ns (f + m + n) k)) (subst (λ g. IsSmallWithin levels (without_holes g)) whole small))

-- at most one tree more stands where a hole may be wanted
tops-hole_if : (wanted : Bool) (p : Span) (rest : Open) → tops_of (hole_if wanted p rest) ≤ tops_of rest + 1
tops-hole_if true p rest = omega arith
tops-hole_if false p rest = omega arith

-- a hole that may be wanted before a small list leaves it small
small-hole_if : (levels : ℕ) (wanted : Bool) (p : Span) (rest : Open) → IsSmallWithin (suc levels) rest → IsSmallWithin (suc levels) (hole_if wanted p rest)
small-hole_if levels true p rest h = h
small-hole_if levels false p rest h = h

-- the list below a node is short, where the trees below it are
tops-kids_of : (ns : List DocNode) (choice : Choice) (i : ℕ) → tops_of (without_holes (run ns (first_of ns i) (count_of ns i))) < 2 ^ 32 → tops_of (kids_of ns choice i) < 2 ^ 32
tops-kids_of ns choice i h = go choice.whole
  where
    span : Span
    span = record { node = i; from = 0; to = count_of ns i }

    go : (whole : Bool) → tops_of (if whole then without_holes (run ns (first_of ns i) (count_of ns i)) else hole_if (wants_hole choice (count_of ns i)) (record { node = i; from = 0; to = count_of ns i }) nil) < 2 ^ 32
    go true = h
    go false = omega (arith, tops-hole_if (wants_hole choice (count_of ns i)) (record { node = i; from = 0; to = count_of ns i }) nil)

-- the list below a node is small, where the trees below it are
small-kids_of : (levels : ℕ) (ns : List DocNode) (choice : Choice) (i : ℕ) → IsSmallWithin (suc levels) (without_holes (run ns (first_of ns i) (count_of ns i))) → IsSmallWithin (suc levels) (kids_of ns choice i)
small-kids_of levels ns choice i h = go choice.whole
  where
    go : (whole : Bool)
        → IsSmallWithin (suc levels) (if whole then without_holes (run ns (first_of ns i) (count_of ns i)) else hole_if (wants_hole choice (count_of ns i)) (record { node = i; from = 0; to = count_of ns i }) nil)
    go true = h
    go false = small-hole_if levels (wants_hole choice (count_of ns i)) (record { node = i; from = 0; to = count_of ns i }) nil tt

-- the list of nodes side by side is small before a small list, where their trees are
small-children : (levels : ℕ) (ns : List DocNode) (choice : Choice) (i m : ℕ) (rest : Open) → i + m ≤ length ns → IsSmallWithin (suc (suc levels)) (without_holes (run ns i m))
    → IsSmallWithin (suc (suc levels)) rest → IsSmallWithin (suc (suc levels)) (children ns choice i m rest)
small-children levels ns choice i zero rest fits h small = small
small-children levels ns choice i (suc m) rest fits h small =
    let first = subst (λ f. IsSmallWithin (suc (suc levels)) (without_holes f)) (run-suc ns i m (omega arith)) h in
    (first.0, tops-kids_of ns choice i first.1, small-kids_of levels ns choice i first.2, small-children levels ns choice (suc i) m rest (omega arith) first.3 small)

-- each of some nodes side by side is one tree of a list
tops-children : (ns : List DocNode) (choice : Choice) (i m : ℕ) (rest : Open) → tops_of (children ns choice i m rest) ≡ m + tops_of rest
tops-children ns choice i zero rest = omega arith
tops-children ns choice i (suc m) rest = omega (arith, tops-children ns choice (suc i) m rest)

-- a list that is cut from a document is small, where the lists below its nodes are and few children are shown at a time
pub small_cut : (ns : List DocNode) (choice : Choice) (p : Span) → choice.most ≤ 8 → has_span ns p ≡ true → AreWithin ns 0 → AreSmall ns → IsSmall (cut ns choice p)
small_cut ns choice p few there within small = go (p.from == p.to) refl
  where
    has : HasChildren ns p
    has = has_children ns p there

    first : ℕ
    first = first_of ns p.node

    shown : ℕ
    shown = shown_to choice p - shown_from choice p

    last : Open
    last = hole_if (wants_hole choice (p.to - shown_to choice p)) (record p { from = shown_to choice p }) nil

    full : p.from < p.to → IsSmall (hole_if choice.leads (record p { to = shown_from choice p }) (children ns choice (first + shown_from choice p) shown last))
    full some =
        let begin = shown_from choice p in
        let all : IsSmallBelow (record { label = label_of ns p.node; kids = run ns first (count_of ns p.node) }) = tree_at IsSmallBelow ns p.node has.node small in
        let part = part_small 200 ns first (count_of ns p.node) begin shown (omega (arith, has.count)) all.1 in
        let fits : first + begin + shown ≤ length ns = omega (arith, within p.node has.node, has.count) in (
          omega (
            arith,
            few,
            tops-hole_if choice.leads (record p { to = begin }) (children ns choice (first + begin) shown last),
            tops-children ns choice (first + begin) shown last,
            tops-hole_if (wants_hole choice (p.to - shown_to choice p)) (record p { from = shown_to choice p }) nil,
          ),
          small-hole_if 199 choice.leads (record p { to = begin }) (children ns choice (first + begin) shown last)
              (small-children 198 ns choice (first + begin) shown last fits part (small-hole_if 199 (wants_hole choice (p.to - shown_to choice p)) (record p { from = shown_to choice p }) nil tt)),
        )

    go : (same : Bool) → (p.from == p.to) ≡ same
        → IsSmall (if same then nil else hole_if choice.leads (record p { to = shown_from choice p }) (children ns choice (first_of ns p.node + shown_from choice p) (shown_to choice p - shown_from choice p) (hole_if (wants_hole choice (p.to - shown_to choice p)) (record p { from = shown_to choice p }) nil)))
    go true e = (omega arith, tt)
    go false e = full (grind (arith, nat_tests, has.order))

-- a byte chooses at most eight children
pub few_chosen : (byte : ℕ) (forward : Bool) → (choice_of byte forward).most ≤ 8
few_chosen byte forward = omega arith
