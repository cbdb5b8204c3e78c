-- How deep documents are, and how much they have at most.
use Rattle.std.specs.Prelude.{ℕ, ◌+◌, ◌<◌, ◌≤◌, ◌^◌, max, List, length}
use Rattle.mix_tree.specs.Forest.{Forest, none, tree, LabelledTree}
use Rattle.document_store.specs.Laid.{LaidNode, node_at, below, IsDocument}
use Rattle.document_store.specs.Between.{before, between}

-- how many levels a list of trees has
abbrev pub levels_of : Forest → ℕ
levels_of none = 0
levels_of (tree label kids rest) = max (1 + levels_of kids) (levels_of rest)

-- how many levels a tree has; a leaf has one
abbrev pub levels : LabelledTree → ℕ
levels t = 1 + levels_of t.kids

-- the nodes are those of the document of a tree that has at most 200 levels
abbrev pub IsShallow : List LaidNode → Type 0
IsShallow ns = (t : LabelledTree) × IsDocument ns t × (levels t ≤ 200)

-- the trees below each node but the document node have fewer than 200 levels
abbrev pub IsLow : List LaidNode → Type 0
IsLow ns = (i : ℕ) → i + 1 < length ns → levels_of (between ns (before ns i) i) < 200

-- of two nodes one of which is below the other, so are the nodes below it
abbrev pub IsNested : List LaidNode → Type 0
IsNested ns = (i j : ℕ) → i < length ns → before ns i ≤ j → j < i → before ns i + below ns j ≤ j

-- there are fewer than 2^32 nodes, and each label is shorter than 2^32
pub record IsBounded (ns : List LaidNode) : Type 0 where
  pub nodes : length ns < 2 ^ 32
  pub labels : (i : ℕ) → length (node_at ns i).label < 2 ^ 32
