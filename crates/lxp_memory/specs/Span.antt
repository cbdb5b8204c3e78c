-- What the holes of a document in memory stand for.
use Rattle.std.specs.Prelude.{◌+◌, ◌-◌, Bool, ◌&&◌, ◌==◌, nat_lt, nat_le, List, [], ◌∷◌, length, slice_index}
use Rattle.mix_tree.specs.Forest.{Forest}
use Rattle.lxp_core.specs.declared.open_tree.HoleId.{HoleId}
use Rattle.lxp_memory.specs.declared.document.DocNode.{DocNode}
use Rattle.lxp_memory.specs.declared.span.Span.{Span}
use Rattle.lxp_memory.specs.Nodes.{first_of, count_of, run}

-- the root of a document, as a range of one child of the document node
abbrev pub root_span : Span
root_span = record { node = 0; from = 0; to = 1 }

-- the hole that stands for some children of a node
abbrev pub span_hole : Span → HoleId
span_hole p = record { words = p.node ∷ p.from ∷ p.to ∷ [] }

-- the children that a hole stands for
abbrev pub hole_span : HoleId → Span
hole_span h = record { node = slice_index h.words 0; from = slice_index h.words 1; to = slice_index h.words 2 }

-- whether a document has these children
abbrev pub has_span : List DocNode → Span → Bool
has_span ns p = nat_le p.from p.to && (nat_lt p.node (length ns) && nat_le p.to (count_of ns p.node))

-- whether these are the children of a node from an index on
abbrev pub has_rest : List DocNode → Span → Bool
has_rest ns p = has_span ns p && (p.to == count_of ns p.node)

-- the trees of some children of a node
abbrev pub span_trees : List DocNode → Span → Forest
span_trees ns p = run ns (first_of ns p.node + p.from) (p.to - p.from)
