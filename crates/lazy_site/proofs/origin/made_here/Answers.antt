use Rattle.std.proofs.Common.{ℕ, sym, subst}
use Rattle.lxp_core.specs.View.{View}
use Rattle.lazy_plan.specs.Bench.{state_of, plan_of, IsBenchOf, IsCursor}
use Rattle.lazy_site.specs.Origins.{IsOriginOf, IsMadeHere}
use Rattle.lazy_site.specs.Ways.{foot_op, foot_at}
use Rattle.lazy_site.proofs.Along.{at_foot, of_foot}
use Rattle.lazy_site.proofs.Heads.{if_ok}
use Rattle.lazy_site.proofs.origin.made_here.Goals as goal

pub made_at-requires-clause-bench : goal.made_at-requires-clause-bench
made_at-requires-clause-bench c =
    let b = c.requires.bench in
    (b.0, b.1, at_foot (IsCursor (state_of b.0 c.args.bench.now)) c.args.way.now c.foot-op.result.0 c.foot-op.result.1.now c.foot-op.ensures.op c.foot-op.ensures.at b.2)

pub made_at-requires-clause-here : goal.made_at-requires-clause-here
made_at-requires-clause-here c = subst (λ (n : ℕ). IsMadeHere (plan_of c.args.bench.now) n c.args.v) (sym c.foot-op.ensures.op) c.requires.here

pub returns : goal.returns
returns c =
    if_ok c.made_at.result _ (λ r. (view : View) → IsBenchOf view c.args.bench.now → IsCursor (state_of view c.args.bench.now) (foot_op c.args.way.now) (foot_at c.args.way.now) → IsOriginOf (state_of view c.args.bench.now) (foot_op c.args.way.now) (foot_at c.args.way.now) c.args.v r)
    (λ r k view h i.
    let st = state_of view c.args.bench.now in
    of_foot (λ n d. IsOriginOf st n d c.args.v r) c.args.way.now c.foot-op.result.0 c.foot-op.result.1.now c.foot-op.ensures.op c.foot-op.ensures.at
    (k view h (at_foot (IsCursor st) c.args.way.now c.foot-op.result.0 c.foot-op.result.1.now c.foot-op.ensures.op c.foot-op.ensures.at i)))
    c.made_at.ensures
