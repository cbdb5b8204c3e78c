use Rattle.lazy_steps.specs.Chains.{IsLifted}
use Rattle.lazy_steps.proofs.chain.lift.Given as goal

-- the position so far is passed on by as many operators as were gone through
abbrev pub invariant-levels : goal.invariant-levels
invariant-levels l = IsLifted l.counter l.fn.found.value l.at.value
