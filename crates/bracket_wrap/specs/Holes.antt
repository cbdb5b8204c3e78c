-- What the holes of a document mean, and the lists with which it answers.
use Rattle.std.specs.Prelude.{ℕ, zero, suc, ◌-◌, Bool, ◌&&◌, ◌==◌, cond, nat_lt, nat_le, List, [], ◌∷◌, length, slice_index, if◌then◌else◌}
use Rattle.mix_tree.specs.Forest.{Forest}
use Rattle.lxp_core.specs.declared.open_tree.HoleId.{HoleId}
use Rattle.lxp_core.specs.Open.{Open, nil, node, hole, without_holes}
use Rattle.document_store.specs.Laid.{LaidNode}
use Rattle.bracket_wrap.specs.declared.holes.Rest.{Rest}
use Rattle.document_store.specs.Laid.{node_at}
use Rattle.document_store.specs.Between.{before, fits, between}
use Rattle.document_store.specs.Shallow.{IsBounded, IsLow, IsNested}

-- the hole that stands for the last children of a node, those that are laid up to a position
abbrev pub rest_hole : Rest → HoleId
rest_hole r = record { words = r.node ∷ r.to ∷ 0 ∷ [] }

-- the last children of a node that the words of a hole name
abbrev pub hole_rest : HoleId → Rest
hole_rest h = record { node = slice_index h.words 0; to = slice_index h.words 1 }

-- all children of a node, as the last ones of it
abbrev pub all_of : ℕ → Rest
all_of i = record { node = i; to = i }

-- whether a document has a node among whose children a given position lies
abbrev pub is_there : List LaidNode → Rest → Bool
is_there ns r = nat_lt r.node (length ns) && (nat_le (before ns r.node) r.to && nat_le r.to r.node)

-- whether a document has the node and the children that a hole names
abbrev pub is_known : List LaidNode → HoleId → Bool
is_known ns h = (slice_index h.words 2 == 0) && is_there ns (hole_rest h)

-- the trees that a hole stands for
abbrev pub hole_trees : List LaidNode → HoleId → Forest
hole_trees ns h = between ns (before ns (slice_index h.words 0)) (slice_index h.words 1)

-- a hole for the last children of a node, those that are laid up to a position, where there are any
abbrev pub rest_given : List LaidNode → Rest → Open
rest_given ns r = cond (fits ns (before ns r.node) r.to) (hole (rest_hole r) nil) nil

-- the list that is given below a node: all below it, or a hole where it has children
abbrev pub kids_given : List LaidNode → Bool → ℕ → Open
kids_given ns whole i = if whole then without_holes (between ns (before ns i) i) else rest_given ns (all_of i)

-- the children of a node from the one on that is laid up to a position, at most a given number, and a hole after them where more remain
abbrev pub given_from : List LaidNode → Bool → ℕ → ℕ → ℕ → Open
given_from ns whole parent zero to = rest_given ns (record { node = parent; to = to })
given_from ns whole parent (suc most) to =
    cond (fits ns (before ns parent) to) (node (node_at ns (to - 1)).label (kids_given ns whole (to - 1)) (given_from ns whole parent most (before ns (to - 1)))) nil

-- the nodes nest, have few levels below them, and are few and short
pub record IsGivable (ns : List LaidNode) : Type 0 where
  pub nested : IsNested ns
  pub low : IsLow ns
  pub bounded : IsBounded ns
