use Rattle.std.proofs.Common.{◌≡◌, ◌++◌, map, drop}
use Rattle.plan_core.specs.PlanMade.{op_of}
use Rattle.plan_core.specs.Valid.{kinds}
use Rattle.lazy_binding.specs.Sides as sides
use Rattle.lazy_binding.proofs.sides.others.Given as goal

abbrev pub invariant-loop-op : goal.invariant-loop-op
invariant-loop-op l = l.vars.items ++ sides.others (kinds (map op_of l.ops) l.side) (map op_of (drop l.op-index l.among)) ≡ sides.others (kinds (map op_of l.ops) l.side) (map op_of l.fn.among)
