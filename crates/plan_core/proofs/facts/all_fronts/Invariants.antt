use Rattle.std.proofs.Common.{◌≡◌, map}
use Rattle.plan_core.specs.FrontsKept.{AreKept}
use Rattle.plan_core.specs.PlanMade.{op_of}
use Rattle.plan_core.proofs.facts.all_fronts.Given as goal

abbrev pub invariant-ops : goal.invariant-ops
invariant-ops l = record { kept : AreKept (map op_of l.ops) l.op-index l.fronts; moving : l.fronts.moving ≡ l.fn.fronts.moving }
