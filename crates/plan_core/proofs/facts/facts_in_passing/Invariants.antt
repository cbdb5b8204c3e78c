use Rattle.std.proofs.Common.{◌≡◌, true, map, take}
use Rattle.plan_core.specs.Fronts.{op_stops, op_apart}
use Rattle.plan_core.specs.FrontsKept.{AreKept}
use Rattle.plan_core.specs.PlanMade.{op_of}
use Rattle.plan_core.proofs.facts.facts_in_passing.Given as goal

abbrev pub invariant-ops : goal.invariant-ops
invariant-ops l = record {
  kept : AreKept (map op_of l.ops) l.op-index l.fronts;
  moving : l.fronts.moving ≡ true;
  stops : l.facts.stops.items ≡ map (op_stops (map op_of l.ops)) (map op_of (take l.op-index l.ops));
  apart : l.facts.apart.items ≡ map (op_apart (map op_of l.ops)) (map op_of (take l.op-index l.ops));
}
