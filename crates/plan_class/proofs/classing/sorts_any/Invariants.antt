use Rattle.std.proofs.Common.{◌≡◌, drop, map}
use Rattle.plan_core.specs.PlanMade.{op_of}
use Rattle.browse_class.specs.Classes.{sorts_any}
use Rattle.plan_class.proofs.classing.sorts_any.Given as goal

abbrev pub invariant-ops : goal.invariant-ops
invariant-ops l = sorts_any (map op_of (drop l.op-index l.ops)) ≡ sorts_any (map op_of l.ops)
