use Rattle.std.proofs.Common.{◌≡◌, drop}
use Rattle.lxp_core.specs.Plain.{plain}
use Rattle.far_links.specs.Holes.{names_root}
use Rattle.far_links.proofs.holes.+look.Given as goal

-- the trees from the next one on have such a hole exactly where all do
abbrev pub invariant-list_names_root-loop-tree : goal.invariant-list_names_root-loop-tree
invariant-list_names_root-loop-tree l = names_root (plain (drop l.tree-index l.trees)) ≡ names_root (plain l.trees)
