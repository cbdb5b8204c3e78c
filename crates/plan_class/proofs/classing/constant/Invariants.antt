use Rattle.std.proofs.Common.{◌≡◌, ◌≤◌, drop, map, length}
use Rattle.plan_core.specs.PlanMade.{op_of}
use Rattle.browse_class.specs.Classes.{all_bounds}
use Rattle.plan_class.specs.Agree.{lists_of}
use Rattle.plan_class.specs.VarDomains.{domain_in}
use Rattle.plan_class.proofs.classing.constant.Given as goal

abbrev pub invariant-ops : goal.invariant-ops
invariant-ops l = (l.found ≡ all_bounds (map op_of (drop l.at l.ops)) (λ i. lists_of (domain_in l.domains))) × (l.at ≤ length l.ops)

abbrev pub decreases-ops : goal.decreases-ops
decreases-ops l = l.at
