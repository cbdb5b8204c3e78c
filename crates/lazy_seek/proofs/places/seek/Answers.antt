use Rattle.std.proofs.Common.{rules, arith, ◌+◌, take, get_or}
use Rattle.lazy_plan.specs.Bench.{state_of}
use Rattle.lazy_seek.specs.Reach.{reach}
use Rattle.lazy_seek.proofs.Walks.{sought_then, fault_after, reach_next, reach_within, place_none, place_next, place_there}
use Rattle.lazy_seek.proofs.places.seek.Goals as goal

pub returns-in_err-next-clause-sought : goal.returns-in_err-next-clause-sought
returns-in_err-next-clause-sought g c =
    sought_then g.met.S.Sources.after (reach (take c.loop-index.index-index c.args.steps.now)) (get_or c.args.steps.now c.loop-index.index-index 0 + 1) (reach c.args.steps.now) c.args.s.now c.loop-index.s
    c.child_at.new.s c.args.bench.now c.loop-index.bench c.child_at.new.bench c.loop-index.invariant.sought c.child_at.ensures.sought.ran c.child_at.ensures.sought.asks
    (reach_within c.args.steps.now c.loop-index.index-index c.loop-index-test.true)

pub returns-in_err-next-clause-cause : goal.returns-in_err-next-clause-cause
returns-in_err-next-clause-cause g c =
    fault_after (state_of (g.S.Sources.view c.args.s.now) c.args.bench.now) (state_of (g.S.Sources.view c.loop-index.s) c.loop-index.bench) (g.S.Sources.view c.child_at.new.s)
    c.loop-index.invariant.sought.ran.kept c.from_residual.result (search rules)

pub returns-in_default-clause-sought : goal.returns-in_default-clause-sought
returns-in_default-clause-sought g c =
    sought_then g.met.S.Sources.after (reach (take c.loop-index.index-index c.args.steps.now)) (get_or c.args.steps.now c.loop-index.index-index 0 + 1) (reach c.args.steps.now) c.args.s.now c.loop-index.s
    c.child_at.new.s c.args.bench.now c.loop-index.bench c.child_at.new.bench c.loop-index.invariant.sought c.child_at.ensures.sought.ran c.child_at.ensures.sought.asks
    (reach_within c.args.steps.now c.loop-index.index-index c.loop-index-test.true)

pub returns-in_default-clause-answer : goal.returns-in_default-clause-answer
returns-in_default-clause-answer g c =
    place_none (state_of (g.S.Sources.view c.args.s.now) c.args.bench.now) (state_of (g.S.Sources.view c.loop-index.s) c.loop-index.bench) (state_of (g.S.Sources.view c.child_at.new.s) c.child_at.new.bench)
    c.args.top.now.source c.loop-index.spot c.args.steps.now c.loop-index.index-index c.loop-index-test.true c.loop-index.invariant.sought.ran.kept c.loop-index.invariant.place_is
    (rw c.in_default.is at c.in_ok-next.ensures.answer)

pub loop-index-preserved : goal.loop-index-preserved
loop-index-preserved g c =
    let h = rw c.in-Some.is at c.in_ok-next.ensures.answer in
    let e = reach_next c.args.steps.now c.loop-index.index-index c.loop-index-test.true in
    record {
      sought =
          sought_then g.met.S.Sources.after (reach (take c.loop-index.index-index c.args.steps.now)) (get_or c.args.steps.now c.loop-index.index-index 0 + 1)
          (reach (take (c.loop-index.index-index + 1) c.args.steps.now)) c.args.s.now c.loop-index.s c.child_at.new.s c.args.bench.now c.loop-index.bench c.child_at.new.bench
          c.loop-index.invariant.sought c.child_at.ensures.sought.ran c.child_at.ensures.sought.asks (omega (arith, e));
      spot = h.spot;
      place_is =
          place_next (state_of (g.S.Sources.view c.loop-index.s) c.loop-index.bench) (state_of (g.S.Sources.view c.child_at.new.s) c.child_at.new.bench) c.args.top.now.source c.loop-index.spot c.in-Some.next
          c.args.steps.now c.loop-index.index-index c.loop-index-test.true c.loop-index.invariant.place_is h;
      there =
          place_there (state_of (g.S.Sources.view c.args.s.now) c.args.bench.now) (state_of (g.S.Sources.view c.loop-index.s) c.loop-index.bench)
          (state_of (g.S.Sources.view c.child_at.new.s) c.child_at.new.bench) c.args.top.now.source c.loop-index.spot c.in-Some.next c.args.steps.now c.loop-index.index-index c.loop-index-test.true
          c.loop-index.invariant.sought.ran.kept c.loop-index.invariant.place_is h;
    }
