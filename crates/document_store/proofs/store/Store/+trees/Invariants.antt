use Rattle.std.proofs.Common.{◌≡◌, ◌≤◌, ◌-◌}
use Rattle.mix_tree.specs.Forest.{forest_of, followed}
use Rattle.document_store.specs.Between.{between}
use Rattle.document_store.proofs.store.Store.+trees.Given as goal

abbrev pub decreases-trees : goal.decreases-trees
decreases-trees l = l.to - l.from

abbrev pub invariant-loop-i : goal.invariant-loop-i
invariant-loop-i l = record {
  within : l.to ≤ l.initial.to;
  list : followed (forest_of l.list.items) (between l.self l.from l.to) ≡ between l.self l.from l.initial.to;
}

abbrev pub decreases-loop-i : goal.decreases-loop-i
decreases-loop-i l = l.to
