-- The lists with which a document in memory answers.
use Rattle.std.specs.Prelude.{ℕ, zero, suc, ◌+◌, ◌-◌, min, Bool, true, false, ◌==◌, if◌then◌else◌, List}
use Rattle.lxp_memory.specs.declared.document.DocNode.{DocNode}
use Rattle.lxp_memory.specs.declared.span.Span.{Span}
use Rattle.lxp_memory.specs.declared.choice.Choice.{Choice}
use Rattle.lxp_memory.specs.Choice.{wants_hole}
use Rattle.lxp_core.specs.Open.{Open, nil, node, hole, without_holes}
use Rattle.lxp_memory.specs.Span.{span_hole}
use Rattle.lxp_memory.specs.Nodes.{first_of, count_of, label_of, run}

-- a hole before a list, where one is wanted
abbrev pub hole_if : Bool → Span → Open → Open
hole_if true span rest = hole (span_hole span) rest
hole_if false span rest = rest

-- the list below a node: the whole of it, or a hole where it has children or the choice wants one
abbrev pub kids_of : List DocNode → Choice → ℕ → Open
kids_of ns choice i =
    if choice.whole then without_holes (run ns (first_of ns i) (count_of ns i)) else hole_if (wants_hole choice (count_of ns i)) (record { node = i; from = 0; to = count_of ns i }) nil

-- the list of so many nodes, side by side from one on, before another list
abbrev pub children : List DocNode → Choice → ℕ → ℕ → Open → Open
children ns choice i zero rest = rest
children ns choice i (suc count) rest = node (label_of ns i) (kids_of ns choice i) (children ns choice (suc i) count rest)

-- the index of the first child that a list shows: one at least is shown
abbrev pub shown_from : Choice → Span → ℕ
shown_from choice span = span.from + min choice.skipped (span.to - span.from - 1)

-- the index after the last child that a list shows
abbrev pub shown_to : Choice → Span → ℕ
shown_to choice span = shown_from choice span + min choice.most (span.to - shown_from choice span)

-- the list of some children of a node: maybe a hole for the first of them, then some children, then a hole for those
-- that are left, or for none of them where the choice wants it; nothing, where there are no children
abbrev pub cut : List DocNode → Choice → Span → Open
cut ns choice span =
    let from = shown_from choice span in
    let to = shown_to choice span in
    if span.from == span.to then nil else hole_if choice.leads (record span { to = from }) (children ns choice (first_of ns span.node + from) (to - from) (hole_if (wants_hole choice (span.to - to)) (record span { from = to }) nil))
