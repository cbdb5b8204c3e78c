use Rattle.std.proofs.Common.{◌≡◌, map, take}
use Rattle.plan_core.specs.PlanMade.{op_of}
use Rattle.plan_forms.specs.Links.{op_links}
use Rattle.plan_forms.proofs.link.links.Given as goal

abbrev pub invariant-loop-op : goal.invariant-loop-op
invariant-loop-op l = map (λ of. of.items) l.links.items ≡ map (op_links (map op_of l.ops)) (map op_of (take l.op-index l.ops))
