use Rattle.std.proofs.Common.{◌≡◌, ◌<◌, ℕ, false}
use Rattle.plan_core.specs.ByNumber.{op_at}
use Rattle.plan_core.specs.PlanMade.{plan_value}
use Rattle.lazy_follow.specs.Ends.{makes_element_of}
use Rattle.lazy_follow.proofs.outer.outer_maker.Given as goal

abbrev pub invariant-loop-i : goal.invariant-loop-i
invariant-loop-i l = (j : ℕ) → j < l.i → makes_element_of (op_at (plan_value l.plan).ops j) l.v ≡ false
