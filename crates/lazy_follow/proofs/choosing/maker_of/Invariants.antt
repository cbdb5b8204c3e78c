use Rattle.plan_core.specs.PlanMade.{plan_value}
use Rattle.lazy_follow.specs.Choosing.{NoneMakes}
use Rattle.lazy_follow.proofs.choosing.maker_of.Given as goal

abbrev pub invariant-loop-i : goal.invariant-loop-i
invariant-loop-i l = NoneMakes (plan_value l.plan).ops l.i l.v
