use Rattle.std.proofs.Common.{◌≡◌, ◌+◌, ℕ, suc, arith, subst}
use Rattle.lazy_steps.specs.Chains.{IsLifted}
use Rattle.lazy_steps.proofs.chain.lift.Goals as goal

pub levels-preserved : goal.levels-preserved
levels-preserved c =
    let more : suc c.levels.counter ≡ c.levels.counter + 1 = omega arith in
    subst (λ (k : ℕ). IsLifted k c.args.found.value c.in_ok-at.at.value) more (c.levels.at.value, record { ptr = c.levels.at.ptr; value = tt }, c.levels.invariant, c.in_ok-at.ensures.ok)
