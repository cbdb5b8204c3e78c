use Rattle.std.proofs.Common.{◌≡◌, ◌+◌}
use Rattle.mix_tree.specs.Forest.{LabelledTree}
use Rattle.mix_load.specs.Visit.{AreNames, HoldsRoot}
use Rattle.mix_load.proofs.visit.visit_people.Given as goal

abbrev pub invariant-people : goal.invariant-people
invariant-people l = record {
  on : (t : LabelledTree) × AreNames l.count t × HoldsRoot t l.visitor;
  taken : l.visitor.commands ≡ l.counter + 2;
}
