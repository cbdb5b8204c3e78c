use Rattle.plan_core.specs.PlanMade.{plan_value}
use Rattle.plan_class.specs.Agree.{known_below}
use Rattle.unsatisfiable_paths.specs.NodeDomains.{AreNodeDomains}
use Rattle.unsatisfiable_paths.proofs.path.all_domains.Given as goal

abbrev pub invariant-ops : goal.invariant-ops
invariant-ops l = AreNodeDomains l.domains (known_below l.shapes (plan_value l.plan).ops l.op-index)
