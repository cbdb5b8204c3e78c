-- The lists with which a document in memory answers keep what a source promises.
use Rattle.std.proofs.Common.{◌≡◌, ℕ, zero, suc, ◌+◌, ◌-◌, ◌/◌, ◌%◌, ◌<◌, ◌≤◌, List, length, Bool, true, false, if◌then◌else◌, ◌==◌, ◌||◌, nat_lt, refl, ap, sym, ◌∙◌, arith}
use Rattle.std.proofs.lemmas.Bool.Decides.{nat_tests}
use Rattle.mix_tree.specs.Forest.{Forest, none, tree, followed}
use Rattle.mix_tree.specs.Weight.{nodes_of}
use Rattle.lxp_core.specs.declared.open_tree.HoleId.{HoleId}
use Rattle.lxp_memory.specs.declared.document.DocNode.{DocNode}
use Rattle.lxp_memory.specs.declared.span.Span.{Span}
use Rattle.lxp_memory.specs.declared.choice.Choice.{Choice}
use Rattle.lxp_core.specs.Open.{Open, nil, closed, AllHoles, IsApart, IsProgress, weight_of, begins_with_hole, without_holes}
use Rattle.lxp_memory.specs.Nodes.{first_of, count_of, label_of, run, AreWithin}
use Rattle.lxp_memory.specs.Span.{hole_span, has_span, span_trees}
use Rattle.lxp_memory.specs.Choice.{IsChoice, wants_hole, choice_of}
use Rattle.lxp_memory.specs.Cut.{hole_if, kids_of, children, shown_from, shown_to, cut}
use Rattle.mix_tree.proofs.Forests.{followed-none}
use Rattle.lxp_core.proofs.Opens.{nodes_of-closed, closed-without_holes, AllHoles-without_holes, IsApart-without_holes}
use Rattle.lxp_memory.proofs.NodeLaws.{run-suc, run-add}

-- what holes stand for in a document
abbrev trees_in : List DocNode → HoleId → Forest
trees_in ns h = span_trees ns (hole_span h)

-- whether a document knows a hole
abbrev known_in : List DocNode → HoleId → Bool
known_in ns h = has_span ns (hole_span h)

-- no nodes side by side have no trees
run-zero : (ns : List DocNode) (i : ℕ) → run ns i 0 ≡ none
run-zero ns i = refl

-- a hole that is wanted wherever there are children closes to them
closed-hole_if : (ns : List DocNode) (wanted : Bool) (p : Span) (rest : Open) → (wanted ≡ false → p.to - p.from ≡ 0)
    → closed (trees_in ns) (hole_if wanted p rest) ≡ followed (span_trees ns p) (closed (trees_in ns) rest)
closed-hole_if ns true p rest h = refl
closed-hole_if ns false p rest h = ap (λ m. followed (run ns (first_of ns p.node + p.from) m) (closed (trees_in ns) rest)) (sym (h refl))

-- where no hole is wanted there are no children
no_children : (choice : Choice) (n : ℕ) → wants_hole choice n ≡ false → n ≡ 0
no_children choice n e = go choice.trails e
  where
    go : (trails : Bool) → (trails || nat_lt 0 n) ≡ false → n ≡ 0
    go true h = cc
    go false h = grind (arith, nat_tests)

-- the list below a node closes to the trees below it
closed-kids_of : (ns : List DocNode) (choice : Choice) (i : ℕ) → closed (trees_in ns) (kids_of ns choice i) ≡ run ns (first_of ns i) (count_of ns i)
closed-kids_of ns choice i = go choice.whole
  where
    start : run ns (first_of ns i + 0) (count_of ns i - 0) ≡ run ns (first_of ns i) (count_of ns i)
    start =
        let a : first_of ns i + 0 ≡ first_of ns i = omega arith in
        let b : count_of ns i - 0 ≡ count_of ns i = omega arith in
        ap (λ k. run ns k (count_of ns i - 0)) a ∙ ap (run ns (first_of ns i)) b

    go : (whole : Bool)
        → closed (trees_in ns) (if whole then without_holes (run ns (first_of ns i) (count_of ns i)) else hole_if (wants_hole choice (count_of ns i)) (record { node = i; from = 0; to = count_of ns i }) nil) ≡ run ns (first_of ns i) (count_of ns i)
    go true = closed-without_holes (trees_in ns) (run ns (first_of ns i) (count_of ns i))
    go false =
        closed-hole_if ns (wants_hole choice (count_of ns i)) (record { node = i; from = 0; to = count_of ns i }) nil (λ e. omega (arith, no_children choice (count_of ns i) e))
        ∙ followed-none _
        ∙ start

-- nodes side by side close to their trees
closed-children : (ns : List DocNode) (choice : Choice) (i m : ℕ) (rest : Open) → i + m ≤ length ns → closed (trees_in ns) (children ns choice i m rest) ≡ followed (run ns i m) (closed (trees_in ns) rest)
closed-children ns choice i zero rest h = refl
closed-children ns choice i (suc m) rest h =
    ap (λ f. tree (label_of ns i) f (closed (trees_in ns) (children ns choice (suc i) m rest))) (closed-kids_of ns choice i)
    ∙ ap (tree (label_of ns i) (run ns (first_of ns i) (count_of ns i))) (closed-children ns choice (suc i) m rest (omega arith))
    ∙ ap (λ f. followed f (closed (trees_in ns) rest)) (sym (run-suc ns i m (omega arith)))

-- what a document knows of children that it has
pub record HasChildren (ns : List DocNode) (p : Span) : Type 0 where
  pub node : p.node < length ns
  pub order : p.from ≤ p.to
  pub count : p.to ≤ count_of ns p.node

-- a document that has children of a node has the node, and as many children of it
pub has_children : (ns : List DocNode) (p : Span) → has_span ns p ≡ true → HasChildren ns p
has_children ns p e = record { node = grind (arith, nat_tests); order = grind (arith, nat_tests); count = grind (arith, nat_tests) }

-- where a document has a node and as many children of it, it has those children
has_span-of : (ns : List DocNode) (p : Span) → HasChildren ns p → has_span ns p ≡ true
has_span-of ns p h = let a = h.node in let b = h.order in let c = h.count in grind (arith, nat_tests)

-- three runs, one after another, are one
three_runs : (ns : List DocNode) (f a m e b : ℕ) → a ≤ m → m ≤ e → e ≤ b
    → followed (run ns (f + a) (m - a)) (followed (run ns (f + m) (e - m)) (run ns (f + e) (b - e))) ≡ run ns (f + a) (b - a)
three_runs ns f a m e b am me eb =
    let fe : f + e ≡ f + m + (e - m) = omega arith in
    let fm : f + m ≡ f + a + (m - a) = omega arith in
    let mb : (e - m) + (b - e) ≡ b - m = omega arith in
    let ab : (m - a) + (b - m) ≡ b - a = omega arith in
    ap (λ k. followed (run ns (f + a) (m - a)) (followed (run ns (f + m) (e - m)) (run ns k (b - e)))) fe
    ∙ ap (followed (run ns (f + a) (m - a))) (sym (run-add ns (f + m) (e - m) (b - e)) ∙ ap (run ns (f + m)) mb)
    ∙ ap (λ k. followed (run ns (f + a) (m - a)) (run ns k (b - m))) fm
    ∙ sym (run-add ns (f + a) (m - a) (b - m))
    ∙ ap (run ns (f + a)) ab

-- what a list shows lies within the children, and is not nothing
record Shows (choice : Choice) (p : Span) : Type 0 where
  from : p.from ≤ shown_from choice p
  some : shown_from choice p < shown_to choice p
  to : shown_to choice p ≤ p.to

-- where there are children, a list cut by a choice shows some of them
shows : (choice : Choice) (p : Span) → IsChoice choice → p.from < p.to → Shows choice p
shows choice p is h =
    record { from = omega arith; some = omega (arith, is.some); to = omega arith }

-- where there are children, a list that shows some of them closes to all
closed-shown : (ns : List DocNode) (choice : Choice) (p : Span) → IsChoice choice → HasChildren ns p → AreWithin ns 0 → Shows choice p
    → closed (trees_in ns) (hole_if choice.leads (record p { to = shown_from choice p }) (children ns choice (first_of ns p.node + shown_from choice p) (shown_to choice p - shown_from choice p) (hole_if (wants_hole choice (p.to - shown_to choice p)) (record p { from = shown_to choice p }) nil))) ≡ span_trees ns p
closed-shown ns choice p is has within sh =
    let f = first_of ns p.node in
    let m = shown_from choice p in
    let e = shown_to choice p in
    let last = hole_if (wants_hole choice (p.to - e)) (record p { from = e }) nil in
    let fits : f + m + (e - m) ≤ length ns = omega (arith, within p.node has.node, has.count, sh.some, sh.to) in
    let held : choice.leads ≡ false → m - p.from ≡ 0 = λ no. omega (arith, is.held no) in
    closed-hole_if ns choice.leads (record p { to = m }) (children ns choice (f + m) (e - m) last) held
    ∙ ap (followed (run ns (f + p.from) (m - p.from))) (closed-children ns choice (f + m) (e - m) last fits)
    ∙ ap (λ g. followed (run ns (f + p.from) (m - p.from)) (followed (run ns (f + m) (e - m)) g)) (closed-hole_if ns (wants_hole choice (p.to - e)) (record p { from = e }) nil (no_children choice (p.to - e)) ∙ followed-none (run ns (f + e) (p.to - e)))
    ∙ three_runs ns f p.from m e p.to sh.from (omega (arith, sh.some)) sh.to

-- a hole that a document knows, before holes that it knows
known-hole_if : (ns : List DocNode) (wanted : Bool) (p : Span) (rest : Open) → has_span ns p ≡ true → AllHoles (known_in ns) rest → AllHoles (known_in ns) (hole_if wanted p rest)
known-hole_if ns true p rest h k = (h, k)
known-hole_if ns false p rest h k = k

-- a document knows each hole of the list below one of its nodes
known-kids_of : (ns : List DocNode) (choice : Choice) (i : ℕ) → i < length ns → AllHoles (known_in ns) (kids_of ns choice i)
known-kids_of ns choice i h = go choice.whole
  where
    go : (whole : Bool)
        → AllHoles (known_in ns) (if whole then without_holes (run ns (first_of ns i) (count_of ns i)) else hole_if (wants_hole choice (count_of ns i)) (record { node = i; from = 0; to = count_of ns i }) nil)
    go true = AllHoles-without_holes (known_in ns) (run ns (first_of ns i) (count_of ns i))
    go false =
        known-hole_if ns (wants_hole choice (count_of ns i)) (record { node = i; from = 0; to = count_of ns i }) nil (has_span-of ns (record { node = i; from = 0; to = count_of ns i }) (record { node = h; order = omega arith; count = omega arith })) tt

-- a document knows each hole of the list of some of its nodes, where it knows those after them
known-children : (ns : List DocNode) (choice : Choice) (i m : ℕ) (rest : Open) → i + m ≤ length ns → AllHoles (known_in ns) rest → AllHoles (known_in ns) (children ns choice i m rest)
known-children ns choice i zero rest h k = k
known-children ns choice i (suc m) rest h k = (known-kids_of ns choice i (omega arith), known-children ns choice (suc i) m rest (omega arith) k)

-- a document knows each hole of a list that shows some children that it has
known-shown : (ns : List DocNode) (choice : Choice) (p : Span) → HasChildren ns p → AreWithin ns 0 → Shows choice p
    → AllHoles (known_in ns) (hole_if choice.leads (record p { to = shown_from choice p }) (children ns choice (first_of ns p.node + shown_from choice p) (shown_to choice p - shown_from choice p) (hole_if (wants_hole choice (p.to - shown_to choice p)) (record p { from = shown_to choice p }) nil)))
known-shown ns choice p has within sh =
    let f = first_of ns p.node in
    let m = shown_from choice p in
    let e = shown_to choice p in
    let fits : f + m + (e - m) ≤ length ns = omega (arith, within p.node has.node, has.count, sh.some, sh.to) in
    let first = has_span-of ns (record p { to = m }) (record { node = has.node; order = sh.from; count = omega (arith, has.count, sh.some, sh.to) }) in
    let last = has_span-of ns (record p { from = e }) (record { node = has.node; order = sh.to; count = has.count }) in
    known-hole_if ns choice.leads (record p { to = m }) _ first (known-children ns choice (f + m) (e - m) _ fits (known-hole_if ns (wants_hole choice (p.to - e)) (record p { from = e }) nil last tt))

-- holes stand apart below a node, and in a list of nodes before one hole at most
apart-kids_of : (ns : List DocNode) (choice : Choice) (i : ℕ) → IsApart (kids_of ns choice i)
apart-kids_of ns choice i = go choice.whole (wants_hole choice (count_of ns i))
  where
    go : (whole wanted : Bool)
        → IsApart (if whole then without_holes (run ns (first_of ns i) (count_of ns i)) else hole_if wanted (record { node = i; from = 0; to = count_of ns i }) nil)
    go true wanted = IsApart-without_holes (run ns (first_of ns i) (count_of ns i))
    go false true = (refl, tt)
    go false false = tt

-- holes stand apart in a list of nodes, where they do in what stands after it
apart-children : (ns : List DocNode) (choice : Choice) (i m : ℕ) (rest : Open) → IsApart rest → IsApart (children ns choice i m rest)
apart-children ns choice i zero rest a = a
apart-children ns choice i (suc m) rest a = (apart-kids_of ns choice i, apart-children ns choice (suc i) m rest a)

-- holes stand apart in a list of one hole at most
apart-last : (wanted : Bool) (p : Span) → IsApart (hole_if wanted p nil)
apart-last true p = (refl, tt)
apart-last false p = tt

-- a list that shows a child keeps progress, and begins with a hole only where one leads
progress-shown : (ns : List DocNode) (choice : Choice) (leads : Bool) (p : Span) (i m : ℕ) (rest : Open) → 0 < m → IsApart rest → IsProgress (hole_if leads p (children ns choice i m rest))
progress-shown ns choice leads p i zero rest h a = absurd (omega arith)
progress-shown ns choice true p i (suc m) rest h a = record { top = λ e. refl; apart = (refl, apart-children ns choice i (suc m) rest a) }
progress-shown ns choice false p i (suc m) rest h a = record { top = λ e. refl; apart = apart-children ns choice i (suc m) rest a }

-- a list that shows a child begins with no hole where none leads
forward-shown : (ns : List DocNode) (choice : Choice) (leads : Bool) (p : Span) (i m : ℕ) (rest : Open) → 0 < m → leads ≡ false → begins_with_hole (hole_if leads p (children ns choice i m rest)) ≡ false
forward-shown ns choice leads p i zero rest h e = absurd (omega arith)
forward-shown ns choice true p i (suc m) rest h e = sym (sym e)
forward-shown ns choice false p i (suc m) rest h e = refl

-- an answer of a document to a hole for some children of a node
pub record IsAnswer (ns : List DocNode) (choice : Choice) (p : Span) (o : Open) : Type 0 where
  pub closes : closed (λ h. span_trees ns (hole_span h)) o ≡ span_trees ns p
  pub progress : IsProgress o
  pub known : AllHoles (λ h. has_span ns (hole_span h)) o
  pub lighter : weight_of (λ h. nodes_of (span_trees ns (hole_span h))) o ≤ nodes_of (span_trees ns p)
  pub forward : choice.leads ≡ false → begins_with_hole o ≡ false

-- a list that closes to the children weighs as much as they
lighter-of : (ns : List DocNode) (p : Span) (o : Open) → closed (trees_in ns) o ≡ span_trees ns p → weight_of (λ h. nodes_of (span_trees ns (hole_span h))) o ≤ nodes_of (span_trees ns p)
lighter-of ns p o e = omega (arith, nodes_of-closed (trees_in ns) o, ap nodes_of e)

-- each list that is cut is an answer
pub answer-cut : (ns : List DocNode) (choice : Choice) (p : Span) → IsChoice choice → has_span ns p ≡ true → AreWithin ns 0 → IsAnswer ns choice p (cut ns choice p)
answer-cut ns choice p is h within = go (p.from == p.to) refl
  where
    has : HasChildren ns p
    has = has_children ns p h

    shown : Open
    shown = hole_if choice.leads (record p { to = shown_from choice p }) (children ns choice (first_of ns p.node + shown_from choice p) (shown_to choice p - shown_from choice p) (hole_if (wants_hole choice (p.to - shown_to choice p)) (record p { from = shown_to choice p }) nil))

    empty : (p.from == p.to) ≡ true → IsAnswer ns choice p nil
    empty e =
        let none_left : p.to - p.from ≡ 0 = grind (arith, nat_tests) in
        let closes : none ≡ span_trees ns p = ap (run ns (first_of ns p.node + p.from)) (sym none_left) in
        record {
          closes = closes;
          progress = record { top = λ k. cc; apart = tt };
          known = tt;
          lighter = omega arith;
          forward = λ k. refl;
        }

    full : (p.from == p.to) ≡ false → IsAnswer ns choice p shown
    full e =
        let some : p.from < p.to = grind (arith, nat_tests, has.order) in
        let sh = shows choice p is some in
        let closes = closed-shown ns choice p is has within sh in
        let count : 0 < shown_to choice p - shown_from choice p = omega (arith, sh.some) in
        record {
          closes = closes;
          progress = progress-shown ns choice choice.leads _ _ _ _ count (apart-last (wants_hole choice (p.to - shown_to choice p)) _);
          known = known-shown ns choice p has within sh;
          lighter = lighter-of ns p _ closes;
          forward = forward-shown ns choice choice.leads _ _ _ _ count;
        }

    go : (same : Bool) → (p.from == p.to) ≡ same → IsAnswer ns choice p (if same then nil else shown)
    go true e = empty e
    go false e = full e

-- what is chosen by a byte is a choice, and leads with no hole where the source is forward
pub is_choice : (byte : ℕ) (forward : Bool) → IsChoice (choice_of byte forward)
is_choice byte true = record { some = omega arith; held = λ e. refl }
is_choice byte false = record { some = omega arith; held = go (byte % 2 == 1) }
  where
    go : (leads : Bool) → leads ≡ false → (if leads then byte / 64 else 0) ≡ 0
    go true e = cc
    go false e = refl
