use Rattle.std.proofs.Common.{◌≡◌, drop}
use Rattle.mix_tree.specs.Forest.{forest_of}
use Rattle.lxp_memory.specs.Small.{fits_within}
use Rattle.lxp_memory.proofs.fitting.+fits_within.Given as goal

abbrev pub decreases-fits_within : goal.decreases-fits_within
decreases-fits_within l = l.levels

-- the trees so far fit
abbrev pub invariant-trees : goal.invariant-trees
invariant-trees l = fits_within l.levels (forest_of (drop l.tree-index l.trees)) ≡ fits_within l.levels (forest_of l.trees)
