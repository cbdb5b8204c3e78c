-- The trees of a document that lie between two positions.
use Rattle.std.specs.Prelude.{ℕ, zero, suc, ◌-◌, Bool, cond, nat_lt, List}
use Rattle.mix_tree.specs.Forest.{Forest, none, tree}
use Rattle.document_store.specs.Laid.{LaidNode, node_at, below}

-- the position right before a node and those below it
abbrev pub before : List LaidNode → ℕ → ℕ
before ns i = i - below ns i

-- whether the node that ends at a position lies, with those below it, after another position
abbrev pub fits : List LaidNode → ℕ → ℕ → Bool
fits ns from to = nat_lt (below ns (to - 1)) (to - from)

-- the trees between two positions, of which there are at most so many one below or after another
abbrev pub trees : List LaidNode → ℕ → ℕ → ℕ → Forest
trees ns zero from to = none
trees ns (suc most) from to =
    cond (fits ns from to) (tree (node_at ns (to - 1)).label (trees ns most (before ns (to - 1)) (to - 1)) (trees ns most from (before ns (to - 1)))) none

-- the trees between two positions
abbrev pub between : List LaidNode → ℕ → ℕ → Forest
between ns from to = trees ns to from to
