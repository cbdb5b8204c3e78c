-- What a bracket document and its holes mean.
use Rattle.std.specs.Prelude.{◌≡◌, ℕ, ◌-◌, ◌<◌, Bool, true, ◌&&◌, ◌==◌, nat_lt, nat_le, length, slice_index}
use Rattle.std.proofs.Common.{arith}
use Rattle.std.proofs.lemmas.Bool.Decides.{nat_tests}
use Rattle.mix_tree.specs.Forest.{Forest}
use Rattle.mix_tree.specs.Weight.{nodes_of}
use Rattle.lxp_core.specs.declared.open_tree.HoleId.{HoleId}
use Rattle.lxp_core.specs.Open.{Open}
use Rattle.source_document.specs.Meaning.{IsKept, Meaning, in_memory, in_memory_kept}
use Rattle.bracket_wrap.specs.declared.bracket.BracketDoc.{BracketDoc}
use Rattle.document_store.specs.Laid.{below}
use Rattle.bracket_wrap.specs.Holes.{rest_hole, all_of, is_known, hole_trees, given_from}

-- how many children a list that a bracket document gives has at most
abbrev pub chunk_of : BracketDoc → ℕ
chunk_of d = d.chunk

-- whether a bracket document gives children as whole subtrees
abbrev pub deep_of : BracketDoc → Bool
deep_of d = d.deep

-- whether a bracket document knows a hole
abbrev pub knows : BracketDoc → HoleId → Bool
knows d = is_known d.nodes

-- the trees that a hole of a bracket document stands for
abbrev pub forest : BracketDoc → HoleId → Forest
forest d = hole_trees d.nodes

-- the weight of a hole of a bracket document: the number of nodes that it stands for
abbrev pub weight : BracketDoc → HoleId → ℕ
weight d h = nodes_of (forest d h)

-- the hole of the root of a bracket document: all children of the document node, which is the last one in memory
abbrev pub root_hole : BracketDoc → HoleId
root_hole d = rest_hole (all_of (length d.nodes - 1))

-- the whole document of a bracket text
abbrev pub document : BracketDoc → Forest
document d = forest d (root_hole d)

-- the list that answers a hole's fill: the next children, at most a chunk, whole where the document is deep, and a hole after them where more remain
abbrev pub given : BracketDoc → HoleId → Open
given d h = given_from d.nodes d.deep (slice_index h.words 0) d.chunk (slice_index h.words 1)

-- a bracket document knows the hole of its root
pub root_known : (d : BracketDoc) → knows d (root_hole d) ≡ true
root_known d = there (length d.nodes) (below d.nodes (length d.nodes - 1)) d.rooted
  where
    there : (n b : ℕ) → 0 < n → (0 == 0) && (nat_lt (n - 1) n && (nat_le (n - 1 - b) (n - 1) && nat_le (n - 1) (n - 1))) ≡ true
    there n b h = grind (arith, nat_tests)

-- what a bracket document means as a mounted one: it lies in memory
abbrev pub means : BracketDoc → Meaning
means d = in_memory (root_hole d) (knows d) (weight d) (forest d)

-- a bracket document means the same over all tables
pub means_kept : (d : BracketDoc) → IsKept (means d)
means_kept d = in_memory_kept (root_hole d) (knows d) (weight d) (forest d)
