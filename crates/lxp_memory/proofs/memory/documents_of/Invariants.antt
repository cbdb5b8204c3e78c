use Rattle.std.proofs.Common.{◌≡◌, true, map}
use Rattle.std.specs.List.{list_all}
use Rattle.mix_tree.specs.Forest.{alone}
use Rattle.lxp_memory.specs.Documents.{AreAllSmall, root_of}
use Rattle.lxp_memory.specs.Small.{fits_wire}
use Rattle.lxp_memory.proofs.memory.documents_of.Given as goal

abbrev pub invariant-loop-tree : goal.invariant-loop-tree
invariant-loop-tree l = record {
  roots : map root_of l.docs.items ≡ map alone l.yielded;
  small : list_all fits_wire l.yielded ≡ true → AreAllSmall l.docs.items;
}
