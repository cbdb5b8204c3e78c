use Rattle.std.proofs.Common.{◌≡◌, map, take}
use Rattle.plan_core.specs.Fronts.{op_stops, op_apart}
use Rattle.plan_core.specs.PlanMade.{op_of}
use Rattle.plan_core.proofs.facts.facts_after.Given as goal

abbrev pub invariant-ops : goal.invariant-ops
invariant-ops l = record {
  stops : l.facts.stops.items ≡ map (op_stops (map op_of l.ops)) (map op_of (take l.op-index l.ops));
  apart : l.facts.apart.items ≡ map (op_apart (map op_of l.ops)) (map op_of (take l.op-index l.ops));
}
