-- What the holes of a document in memory mean.
use Rattle.std.specs.Prelude.{◌≡◌, ℕ, Bool, true, false, ◌==◌, ◌&&◌, List, [], ◌∷◌, refl}
use Rattle.std.proofs.Common.{arith}
use Rattle.std.proofs.lemmas.Bool.Decides.{nat_tests}
use Rattle.mix_tree.specs.Forest.{Forest}
use Rattle.mix_tree.specs.Weight.{nodes_of}
use Rattle.lxp_core.specs.declared.open_tree.HoleId.{HoleId}
use Rattle.lxp_memory.specs.declared.document.DocNode.{DocNode}
use Rattle.lxp_memory.specs.declared.span.Span.{Span}
use Rattle.lxp_memory.specs.declared.document.Document.{Document}
use Rattle.lxp_core.specs.Open.{Open}
use Rattle.lxp_memory.specs.Nodes.{count_of}
use Rattle.lxp_memory.specs.Span.{span_hole, hole_span, root_span, has_span, has_rest, span_trees}
use Rattle.lxp_memory.specs.Choice.{in_chunks}
use Rattle.lxp_memory.specs.Cut.{cut}

-- the hole that stands for the root of a document
abbrev pub root_hole : HoleId
root_hole = span_hole root_span

-- whether a document knows a hole: whether this stands for the children of one of its nodes from an index on
abbrev pub document_knows : Document → HoleId → Bool
document_knows d h = has_rest d.nodes.items (hole_span h)

-- the trees that a hole stands for
abbrev pub document_forest : Document → HoleId → Forest
document_forest d h = span_trees d.nodes.items (hole_span h)

-- a hole weighs the nodes that it stands for
abbrev pub document_weight : Document → HoleId → ℕ
document_weight d h = nodes_of (document_forest d h)

-- the list of a hole: the next children, at most a chunk, each whole or with one hole below it where it has children, and
-- a hole after them exactly where more remain
abbrev pub document_list : Document → ℕ → Bool → HoleId → Open
document_list d chunk whole h = cut d.nodes.items (in_chunks chunk whole) (hole_span h)

-- children of a node from an index on are there
pub rest_is_there : (ns : List DocNode) (p : Span) → has_rest ns p ≡ true → has_span ns p ≡ true
rest_is_there ns p e = go (has_span ns p) (p.to == count_of ns p.node) e
  where
    go : (there all : Bool) → there && all ≡ true → there ≡ true
    go true all h = refl
    go false all h = h

-- a document knows the hole of its root
pub root_hole_known : (d : Document) → document_knows d root_hole ≡ true
root_hole_known d = go d.nodes.items d.rooted
  where
    go : (ns : List DocNode) → count_of ns 0 ≡ 1 → has_rest ns root_span ≡ true
    go [] e = absurd (omega arith)
    go (n ∷ ns) e = grind (arith, nat_tests)
