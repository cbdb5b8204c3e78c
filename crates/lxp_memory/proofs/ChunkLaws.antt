-- Each hole of a list in chunks stands for the children of a node from an index on.
use Rattle.std.proofs.Common.{◌≡◌, ℕ, zero, suc, ◌+◌, ◌-◌, ◌<◌, ◌≤◌, List, length, Bool, true, false, if◌then◌else◌, ◌==◌, ◌&&◌, nat_lt, refl, arith}
use Rattle.std.proofs.lemmas.Bool.Decides.{nat_tests}
use Rattle.lxp_core.specs.declared.open_tree.HoleId.{HoleId}
use Rattle.lxp_memory.specs.declared.document.DocNode.{DocNode}
use Rattle.lxp_memory.specs.declared.document.Document.{Document}
use Rattle.lxp_memory.specs.declared.span.Span.{Span}
use Rattle.lxp_memory.specs.declared.choice.Choice.{Choice}
use Rattle.lxp_core.specs.Open.{Open, nil, node, hole, AllHoles}
use Rattle.lxp_memory.specs.Nodes.{first_of, count_of, run}
use Rattle.lxp_memory.specs.Span.{hole_span, has_span, has_rest}
use Rattle.lxp_memory.specs.Choice.{IsChoice, in_chunks}
use Rattle.lxp_memory.specs.Cut.{hole_if, kids_of, children, shown_to, shown_from, cut}
use Rattle.lxp_memory.specs.DocumentHoles.{document_knows, document_list, rest_is_there}
use Rattle.lxp_core.proofs.Opens.{AllHoles-without_holes}
use Rattle.lxp_memory.proofs.CutLaws.{IsAnswer, answer-cut}

-- whether a hole stands for children up to the last
abbrev to_last : List DocNode → HoleId → Bool
to_last ns h = (hole_span h).to == count_of ns (hole_span h).node

-- a hole for children up to the last, or none, before holes for children up to the last
last-hole_if : (ns : List DocNode) (wanted : Bool) (p : Span) (rest : Open) → (p.to == count_of ns p.node) ≡ true → AllHoles (to_last ns) rest → AllHoles (to_last ns) (hole_if wanted p rest)
last-hole_if ns true p rest h k = (h, k)
last-hole_if ns false p rest h k = k

-- a count is equal to itself
same_count : (n : ℕ) → (n == n) ≡ true
same_count n = grind (arith, nat_tests)

-- each hole below a node, in a list in chunks, stands for children up to the last
last-kids_of : (ns : List DocNode) (most : ℕ) (whole : Bool) (i : ℕ) → AllHoles (to_last ns) (kids_of ns (in_chunks most whole) i)
last-kids_of ns most true i = AllHoles-without_holes (to_last ns) (run ns (first_of ns i) (count_of ns i))
last-kids_of ns most false i =
    last-hole_if ns (nat_lt 0 (count_of ns i)) (record { node = i; from = 0; to = count_of ns i }) nil (same_count (count_of ns i)) tt

-- each hole of children in chunks, before holes for children up to the last, stands for children up to the last
last-children : (ns : List DocNode) (most : ℕ) (whole : Bool) (i m : ℕ) (rest : Open) → AllHoles (to_last ns) rest → AllHoles (to_last ns) (children ns (in_chunks most whole) i m rest)
last-children ns most whole i zero rest k = k
last-children ns most whole i (suc m) rest k = (last-kids_of ns most whole i, last-children ns most whole (suc i) m rest k)

-- each hole of a list in chunks of the children up to the last stands for children up to the last
last-cut : (ns : List DocNode) (most : ℕ) (whole : Bool) (p : Span) → (p.to == count_of ns p.node) ≡ true → AllHoles (to_last ns) (cut ns (in_chunks most whole) p)
last-cut ns most whole p h = go (p.from == p.to)
  where
    choice : Choice
    choice = in_chunks most whole

    from : ℕ
    from = shown_from choice p

    to : ℕ
    to = shown_to choice p

    go : (same : Bool) → AllHoles (to_last ns) (if same then nil else children ns choice (first_of ns p.node + from) (to - from) (hole_if (nat_lt 0 (p.to - to)) (record p { from = to }) nil))
    go true = tt
    go false = last-children ns most whole _ _ _ (last-hole_if ns (nat_lt 0 (p.to - to)) (record p { from = to }) nil h tt)

-- two tests that hold hold together
both : (a b : Bool) → a ≡ true → b ≡ true → a && b ≡ true
both true b h k = k
both false b h k = h

-- holes that pass two tests pass both at once
both-pass : (f g : HoleId → Bool) (o : Open) → AllHoles f o → AllHoles g o → AllHoles (λ h. f h && g h) o
both-pass f g nil p q = tt
both-pass f g (node label kids rest) p q = (both-pass f g kids p.0 q.0, both-pass f g rest p.1 q.1)
both-pass f g (hole id rest) p q = (both (f id) (g id) p.0 q.0, both-pass f g rest p.1 q.1)

-- the holes of a list cut from the children from an index on stand for children from an index on
pub rests-cut : (ns : List DocNode) (most : ℕ) (whole : Bool) (p : Span) → has_rest ns p ≡ true → AllHoles (λ h. has_span ns (hole_span h)) (cut ns (in_chunks most whole) p)
    → AllHoles (λ h. has_rest ns (hole_span h)) (cut ns (in_chunks most whole) p)
rests-cut ns most whole p h known =
    both-pass (λ q. has_span ns (hole_span q)) (to_last ns) (cut ns (in_chunks most whole) p) known (last-cut ns most whole p (all (has_span ns p) (p.to == count_of ns p.node) h))
  where
    all : (a b : Bool) → a && b ≡ true → b ≡ true
    all true b k = k
    all false b k = cc

-- lists in chunks are cut by a choice
is_choice-in_chunks : (most : ℕ) (whole : Bool) → 1 ≤ most → IsChoice (in_chunks most whole)
is_choice-in_chunks most whole h = record { some = omega arith; held = λ e. refl }

-- the list of a hole that a document knows is an answer
pub list_is_answer : (d : Document) (most : ℕ) (whole : Bool) (h : HoleId) → 1 ≤ most → document_knows d h ≡ true → IsAnswer d.nodes.items (in_chunks most whole) (hole_span h) (document_list d most whole h)
list_is_answer d most whole h some known = answer-cut d.nodes.items (in_chunks most whole) (hole_span h) (is_choice-in_chunks most whole some) (rest_is_there d.nodes.items (hole_span h) known) d.within

-- children that are there are children of a node that is there
pub node_there : (ns : List DocNode) (p : Span) → has_span ns p ≡ true → p.node < length ns
node_there ns p e = grind (arith, nat_tests)

-- children that are there and reach the last are those from an index on
pub rest_there : (ns : List DocNode) (p : Span) → has_span ns p ≡ true → p.to ≡ count_of ns p.node → has_rest ns p ≡ true
rest_there ns p there last = both (has_span ns p) (p.to == count_of ns p.node) there (grind (arith, nat_tests))

-- children that don't reach the last are not those from an index on
pub no_rest : (ns : List DocNode) (p : Span) → (p.to ≡ count_of ns p.node → ⊥) → has_rest ns p ≡ false
no_rest ns p other = go (has_span ns p) (p.to == count_of ns p.node) (grind (arith, nat_tests))
  where
    go : (a b : Bool) → b ≡ false → a && b ≡ false
    go true b h = h
    go false b h = refl
