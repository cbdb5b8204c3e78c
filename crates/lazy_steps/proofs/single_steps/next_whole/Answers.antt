use Rattle.plan_core.specs.Shapes.{one_group, passes_on}
use Rattle.lazy_binding.specs.Parts.{operators, world_of}
use Rattle.lazy_steps.proofs.Refused.{for_memory, none_given}
use Rattle.lazy_steps.proofs.Goes.{ran_nothing, led, led_at, in_shape}
use Rattle.lazy_steps.proofs.Singles.{whole_at, whole_over}
use Rattle.lazy_steps.proofs.single_steps.next_whole.Goals as goal

pub returns-in_ok-put-in-Start : goal.returns-in_ok-put-in-Start
returns-in_ok-put-in-Start g c =
    led_at c.args.at.now _ c.in-Start.is (passes_on c.requires.is.0 (one_group c.requires.is.1 c.requires.is.2)) c.requires.is.3 (record {
      ran = ran_nothing g.met.S.Sources.same c.args.walk.op _ c.args.s.now c.args.growing.now c.requires.can.bench;
      cause = tt;
      answer = rw c.in_ok-put-in-Start.ensures.ok (whole_at (operators c.args.walk.fixed.now) c.requires.can.fixed.typed c.args.walk.op c.requires.can.op c.requires.is.0 c.requires.is.1 c.requires.is.2 c.requires.is.3 (world_of (g.S.Sources.view c.args.s.now) c.args.growing.now));
    })

pub returns-in_default : goal.returns-in_default
returns-in_default g c = led c.args.at.now (passes_on c.requires.is.0 (one_group c.requires.is.1 c.requires.is.2)) c.requires.is.3 (record {
  ran = ran_nothing g.met.S.Sources.same c.args.walk.op _ c.args.s.now c.args.growing.now c.requires.can.bench;
  cause = tt;
  answer = λ u. whole_over (operators c.args.walk.fixed.now) c.requires.can.fixed.typed c.args.walk.op c.requires.can.op c.requires.is.0 c.requires.is.1 c.requires.is.2 c.requires.is.3 (world_of (g.S.Sources.view c.args.s.now) c.args.growing.now) c.args.at.now (in_shape c.requires.can (passes_on c.requires.is.0 (one_group c.requires.is.1 c.requires.is.2)) c.requires.is.3) (λ e. c.in_default.not-Start e);
})

pub returns-in_err-put-in-Start : goal.returns-in_err-put-in-Start
returns-in_err-put-in-Start g c = record { ran = ran_nothing g.met.S.Sources.same c.args.walk.op _ c.args.s.now c.args.growing.now c.requires.can.bench; cause = for_memory _ (g.S.Sources.view c.args.s.now) (g.S.Sources.view c.args.s.now) _ _ c.from_residual.ensures c.in_err-put-in-Start.ensures.err; answer = none_given _ _ c.from_residual.ensures.0 }
