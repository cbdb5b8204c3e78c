-- The plain form of the code's lists of trees with holes.
use Rattle.std.specs.Prelude.{List, [], ◌∷◌}
use Rattle.lxp_core.specs.Open.{Open, nil, node, hole}
use Rattle.lxp_core.specs.declared.open_tree.OpenTree.{OpenTree}
use Rattle.lxp_core.specs.declared.open_tree.OpenTree.TheOpen.{OpenTree-F, Node, Hole}
use Rattle.lxp_core.specs.declared.open_tree.OpenTree.TheFolds.{fold-OpenTree}

-- trees with holes, each given as the function that puts it before a list, put one after another before a list
abbrev pub all_before : List (Open → Open) → Open → Open
all_before [] rest = rest
all_before (put_first ∷ others) rest = put_first (all_before others rest)

-- one tree with holes put before a list, its children given as the functions that put them before a list
abbrev pub put_step : OpenTree-F (Open → Open) → Open → Open
put_step (Node label kids) rest = node label (all_before kids.items nil) rest
put_step (Hole id) rest = hole id rest

-- a tree with holes put before a list of them
abbrev pub put : OpenTree → Open → Open
put = fold-OpenTree (Open → Open) put_step

-- trees with holes put one after another before a list of them
abbrev pub put_all : List OpenTree → Open → Open
put_all [] rest = rest
put_all (t ∷ ts) rest = put t (put_all ts rest)

-- the plain form of a list of trees with holes
abbrev pub plain : List OpenTree → Open
plain ts = put_all ts nil

-- a stack of trees with holes put before a list of them, from the top of the stack, its last tree, on
abbrev pub stacked : List OpenTree → Open → Open
stacked [] rest = rest
stacked (t ∷ ts) rest = stacked ts (put t rest)
