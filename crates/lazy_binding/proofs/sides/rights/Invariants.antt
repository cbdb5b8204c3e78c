use Rattle.std.proofs.Common.{◌≡◌, map, length}
use Rattle.plan_core.specs.PlanMade.{op_of}
use Rattle.lazy_binding.specs.Sides.{AreRights}
use Rattle.lazy_binding.proofs.sides.rights.Given as goal

abbrev pub invariant-loop-n : goal.invariant-loop-n
invariant-loop-n l = record { length : length l.rights.items ≡ l.n; vars : AreRights (map op_of l.ops) l.rights.items }
