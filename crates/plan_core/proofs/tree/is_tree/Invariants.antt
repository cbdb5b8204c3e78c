use Rattle.std.proofs.Common.{map}
use Rattle.plan_core.specs.PlanMade.{op_of}
use Rattle.plan_core.proofs.Marks.{AreMarked}
use Rattle.plan_core.proofs.tree.is_tree.Given as goal

abbrev pub invariant-ops : goal.invariant-ops
invariant-ops l = AreMarked (map op_of l.ops) l.op-index l.marks.items
