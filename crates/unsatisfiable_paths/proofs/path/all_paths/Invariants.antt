use Rattle.std.proofs.Common.{◌≡◌, map}
use Rattle.plan_core.specs.PlanMade.{op_of}
use Rattle.unsatisfiable_paths.specs.NodeDomains.{nodes_in}
use Rattle.unsatisfiable_paths.specs.Unsatisfiable.{of_each, found_nothing}
use Rattle.unsatisfiable_paths.proofs.path.all_paths.Given as goal

abbrev pub invariant-ops : goal.invariant-ops
invariant-ops l = l.paths.items ≡ of_each (found_nothing (nodes_in l.domains)) (map op_of l.ops) l.number
