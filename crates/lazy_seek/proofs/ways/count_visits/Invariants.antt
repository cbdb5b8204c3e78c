use Rattle.std.proofs.Common.{◌≡◌, ◌≤◌, ℕ, length, map}
use Rattle.plan_core.specs.PlanMade.{op_of}
use Rattle.lazy_seek.specs.Given.{vars_below}
use Rattle.lazy_seek.specs.Ways.{IsWay}
use Rattle.lazy_seek.proofs.ways.count_visits.Given as goal

abbrev pub invariant-loop-i : goal.invariant-loop-i
invariant-loop-i l = record {
  few : l.count ≤ l.i;
  counted : (n : ℕ) → IsWay (map op_of l.ops) n l.way → l.count ≡ length (vars_below (map op_of l.ops) n l.i);
}
