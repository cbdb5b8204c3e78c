use Rattle.std.proofs.Common.{rules}
use Rattle.plan_core.specs.Shapes.{one_source}
use Rattle.lazy_binding.specs.Parts.{operators, world_of}
use Rattle.lazy_steps.proofs.Refused.{for_memory, none_given}
use Rattle.lazy_steps.proofs.Goes.{ran_nothing, led, led_at, in_shape}
use Rattle.lazy_steps.proofs.Singles.{top_at, top_over, source_within, top_known, top_place}
use Rattle.lazy_steps.proofs.single_steps.DocumentScan.next.Goals as goal

pub index-requires : goal.index-requires
index-requires g c =
    let h = source_within (operators c.args.self.now.walk.fixed.now) c.requires.can.fixed.typed c.args.self.now.walk.op c.requires.can.op c.args.self.now.source c.requires.is.0 c.requires.is.1 (world_of (g.S.Sources.view c.args.s.now) c.args.growing.now) c.requires.can.bench in
    search rules

pub returns-in_ok-put-in-Start : goal.returns-in_ok-put-in-Start
returns-in_ok-put-in-Start g c =
    let h = source_within (operators c.args.self.now.walk.fixed.now) c.requires.can.fixed.typed c.args.self.now.walk.op c.requires.can.op c.args.self.now.source c.requires.is.0 c.requires.is.1 (world_of (g.S.Sources.view c.args.s.now) c.args.growing.now) c.requires.can.bench in
    let known = top_known (world_of (g.S.Sources.view c.args.s.now) c.args.growing.now) c.args.self.now.source c.index.result.now c.top-top.result h c.index.ensures c.top-top.ensures.spot in
    let place = top_place (world_of (g.S.Sources.view c.args.s.now) c.args.growing.now) c.args.self.now.source c.index.result.now c.top-top.result h c.index.ensures c.top-top.ensures.place in
    led_at c.args.at.now _ c.in-Start.is (one_source c.args.self.now.source c.requires.is.0) c.requires.is.1 (record {
      ran = ran_nothing g.met.S.Sources.same c.args.self.now.walk.op _ c.args.s.now c.args.growing.now c.requires.can.bench;
      cause = tt;
      answer = rw c.in_ok-put-in-Start.ensures.ok (top_at (operators c.args.self.now.walk.fixed.now) c.requires.can.fixed.typed c.args.self.now.walk.op c.requires.can.op c.args.self.now.source c.requires.is.0 c.requires.is.1 (world_of (g.S.Sources.view c.args.s.now) c.args.growing.now) c.top-top.result known place);
    })

pub returns-in_default : goal.returns-in_default
returns-in_default g c = led c.args.at.now (one_source c.args.self.now.source c.requires.is.0) c.requires.is.1 (record {
  ran = ran_nothing g.met.S.Sources.same c.args.self.now.walk.op _ c.args.s.now c.args.growing.now c.requires.can.bench;
  cause = tt;
  answer = λ u. top_over (operators c.args.self.now.walk.fixed.now) c.requires.can.fixed.typed c.args.self.now.walk.op c.requires.can.op c.args.self.now.source c.requires.is.0 c.requires.is.1 (world_of (g.S.Sources.view c.args.s.now) c.args.growing.now) c.args.at.now (in_shape c.requires.can (one_source c.args.self.now.source c.requires.is.0) c.requires.is.1) (λ e. c.in_default.not-Start e);
})

pub returns-in_err-put-in-Start : goal.returns-in_err-put-in-Start
returns-in_err-put-in-Start g c = record { ran = ran_nothing g.met.S.Sources.same c.args.self.now.walk.op _ c.args.s.now c.args.growing.now c.requires.can.bench; cause = for_memory _ (g.S.Sources.view c.args.s.now) (g.S.Sources.view c.args.s.now) _ _ c.from_residual.ensures c.in_err-put-in-Start.ensures.err; answer = none_given _ _ c.from_residual.ensures.0 }
