use Rattle.std.proofs.Common.{◌≡◌, map}
use Rattle.plan_core.specs.FrontsKept.{AreKept}
use Rattle.plan_core.specs.PlanMade.{plan_value}
use Rattle.plan_class.specs.Agree.{known_below}
use Rattle.plan_class.specs.Known.{Known}
use Rattle.plan_class.specs.Slots.{IsSoFar}
use Rattle.plan_class.proofs.profiles.all_profiles.Given as goal

abbrev pub invariant-ops : goal.invariant-ops
invariant-ops l = record {
  known : IsSoFar l.shapes (plan_value l.plan).ops l.op-index l.so_far;
  fronts : AreKept (plan_value l.plan).ops l.op-index l.fronts;
  events : l.events.items ≡ map (λ (k : Known). k.profile) (known_below l.shapes (plan_value l.plan).ops l.op-index);
}
