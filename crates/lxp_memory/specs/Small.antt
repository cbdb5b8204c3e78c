-- Which documents are small enough for a wire.
use Rattle.std.specs.Prelude.{ℕ, zero, suc, ◌^◌, ◌&&◌, Bool, true, false, List, [], length, nat_lt}
use Rattle.std.specs.List.{AllByRecursion, AllByRecursion-prop}
use Rattle.std.proofs.Props.{props}
use Rattle.mix_tree.specs.Forest.{Forest, none, tree, LabelledTree, alone}
use Rattle.lxp_core.specs.Open.{Open, nil, node, hole, without_holes}
use Rattle.lxp_core.specs.Small.{IsSmall, IsSmallWithin, tops_of}
use Rattle.lxp_memory.specs.declared.document.DocNode.{DocNode}
use Rattle.lxp_memory.specs.Nodes.{trees_before}

-- whether a label and the list below it are shorter than 2^32
abbrev pub is_short : List ℕ → Forest → Bool
is_short label kids = nat_lt (length label) (2 ^ 32) && nat_lt (tops_of (without_holes kids)) (2 ^ 32)

-- whether trees have at most so many levels, and each label and each list below a tree is shorter than 2^32
abbrev pub fits_within : ℕ → Forest → Bool
fits_within levels none = true
fits_within zero (tree label kids rest) = false
fits_within (suc levels) (tree label kids rest) = is_short label kids && (fits_within levels kids && fits_within (suc levels) rest)

-- whether a tree has at most 200 levels, and each label and each list in it is shorter than 2^32
abbrev pub fits_wire : LabelledTree → Bool
fits_wire t = fits_within 200 (alone t)

-- the list below a tree is small enough for a wire
abbrev pub IsSmallBelow : LabelledTree → Type 0
IsSmallBelow t = IsSmall (without_holes t.kids)

-- the list below each node is small enough for a wire
abbrev pub AreSmall : List DocNode → Type 0
AreSmall ns = AllByRecursion IsSmallBelow (trees_before ns [])

-- a list has at most so many levels in one way alone
IsSmallWithin-prop : (levels : ℕ) (o : Open) → IsProp (IsSmallWithin levels o)
IsSmallWithin-prop levels nil = hlevel props
IsSmallWithin-prop zero (node label kids rest) = hlevel props
IsSmallWithin-prop zero (hole id rest) = hlevel props
IsSmallWithin-prop (suc levels) (node label kids rest) = hlevel (props, IsSmallWithin-prop levels kids, IsSmallWithin-prop (suc levels) rest)
IsSmallWithin-prop (suc levels) (hole id rest) = IsSmallWithin-prop (suc levels) rest

-- the list below a tree is small in one way alone
IsSmallBelow-prop : (t : LabelledTree) → IsProp (IsSmallBelow t)
IsSmallBelow-prop t = hlevel (props, IsSmallWithin-prop 200 (without_holes t.kids))

-- the list below each node is small in one way alone
pub AreSmall-prop : (ns : List DocNode) → IsProp (AreSmall ns)
AreSmall-prop ns = AllByRecursion-prop IsSmallBelow IsSmallBelow-prop (trees_before ns [])
