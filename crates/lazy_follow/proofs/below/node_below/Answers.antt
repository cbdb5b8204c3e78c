use Rattle.std.proofs.Common.{rules, arith, ◌≡◌, ◌∙◌, ◌+◌, ◌++◌, List, ℕ, sym, ap, subst, take, get_or}
use Rattle.std.proofs.lemmas.List.{take_all}
use Rattle.mix_base.proofs.Lists.{append_nil}
use Rattle.lazy_binding.specs.World.{place_in}
use Rattle.lazy_plan.specs.Bench.{state_of}
use Rattle.lazy_seek.specs.Reach.{reach}
use Rattle.lazy_seek.proofs.Matching.{IsOnWay, way_next, way_there}
use Rattle.lazy_seek.proofs.Walks.{sought_none, sought_then, fault_after, reach_next, reach_within}
use Rattle.lazy_follow.proofs.StepsBelow.{below_there, below_broken}
use Rattle.lazy_follow.proofs.below.node_below.Goals as goal

pub loop-index-init : goal.loop-index-init
loop-index-init g c = record {
  sought = sought_none g.met.S.Sources.same c.args.s.now c.args.bench.now c.requires.bench;
  spot = c.requires.spot;
  place_is = sym (append_nil (place_in (state_of (g.S.Sources.view c.args.s.now) c.args.bench.now).world c.args.from.now.source c.args.from.now.spot));
  there = λ t l. absurd (omega (arith, l));
}

pub child_at-requires-clause-bench : goal.child_at-requires-clause-bench
child_at-requires-clause-bench g c = c.loop-index.invariant.sought.ran.bench

pub child_at-requires-clause-spot : goal.child_at-requires-clause-spot
child_at-requires-clause-spot g c = c.loop-index.invariant.spot

pub returns-in_err-next-clause-sought : goal.returns-in_err-next-clause-sought
returns-in_err-next-clause-sought g c =
    sought_then g.met.S.Sources.after (reach (take c.loop-index.index-index c.args.steps.now)) (get_or c.args.steps.now c.loop-index.index-index 0 + 1) (reach c.args.steps.now) c.args.s.now c.loop-index.s
    c.child_at.new.s c.args.bench.now c.loop-index.bench c.child_at.new.bench c.loop-index.invariant.sought c.child_at.ensures.sought.ran c.child_at.ensures.sought.asks
    (reach_within c.args.steps.now c.loop-index.index-index c.loop-index-test.true)

pub returns-in_err-next-clause-cause : goal.returns-in_err-next-clause-cause
returns-in_err-next-clause-cause g c =
    fault_after (state_of (g.S.Sources.view c.args.s.now) c.args.bench.now) (state_of (g.S.Sources.view c.loop-index.s) c.loop-index.bench) (g.S.Sources.view c.child_at.new.s)
    c.loop-index.invariant.sought.ran.kept c.from_residual.result (search rules)

pub returns-in_default-clause-sought : goal.returns-in_default-clause-sought
returns-in_default-clause-sought g c =
    sought_then g.met.S.Sources.after (reach (take c.loop-index.index-index c.args.steps.now)) (get_or c.args.steps.now c.loop-index.index-index 0 + 1) (reach c.args.steps.now) c.args.s.now c.loop-index.s
    c.child_at.new.s c.args.bench.now c.loop-index.bench c.child_at.new.bench c.loop-index.invariant.sought c.child_at.ensures.sought.ran c.child_at.ensures.sought.asks
    (reach_within c.args.steps.now c.loop-index.index-index c.loop-index-test.true)

pub returns-in_default-clause-answer : goal.returns-in_default-clause-answer
returns-in_default-clause-answer g c =
    below_broken (state_of (g.S.Sources.view c.args.s.now) c.args.bench.now) (state_of (g.S.Sources.view c.loop-index.s) c.loop-index.bench) (state_of (g.S.Sources.view c.child_at.new.s) c.child_at.new.bench)
    c.loop-index.invariant.sought.ran.kept c.args.from.now c.loop-index.spot c.args.steps.now c.loop-index.index-index c.loop-index-test.true c.loop-index.invariant.place_is
    (rw c.in_default.is at c.in_ok-next.ensures.answer)

pub loop-index-preserved : goal.loop-index-preserved
loop-index-preserved g c =
    let h = rw c.in-Some.is at c.in_ok-next.ensures.answer in
    let a = state_of (g.S.Sources.view c.args.s.now) c.args.bench.now in
    let b = state_of (g.S.Sources.view c.loop-index.s) c.loop-index.bench in
    let d = state_of (g.S.Sources.view c.child_at.new.s) c.child_at.new.bench in
    let k = c.loop-index.invariant.sought.ran.kept in
    let k' = c.child_at.ensures.sought.ran.kept in
    let q = place_in a.world c.args.from.now.source c.args.from.now.spot in
    let e = reach_next c.args.steps.now c.loop-index.index-index c.loop-index-test.true in
    record {
      sought =
          sought_then g.met.S.Sources.after (reach (take c.loop-index.index-index c.args.steps.now)) (get_or c.args.steps.now c.loop-index.index-index 0 + 1)
          (reach (take (c.loop-index.index-index + 1) c.args.steps.now)) c.args.s.now c.loop-index.s c.child_at.new.s c.args.bench.now c.loop-index.bench c.child_at.new.bench
          c.loop-index.invariant.sought c.child_at.ensures.sought.ran c.child_at.ensures.sought.asks (omega (arith, e));
      spot = h.spot;
      place_is = way_next a b d k k' c.args.from.now.source c.loop-index.spot c.in-Some.next q c.args.steps.now c.loop-index.index-index c.loop-index-test.true c.loop-index.invariant.place_is h;
      there = way_there a b d k k' c.args.from.now.source c.loop-index.spot c.in-Some.next q c.args.steps.now c.loop-index.index-index c.loop-index-test.true c.loop-index.invariant.place_is h;
    }

pub returns-clause-answer : goal.returns-clause-answer
returns-clause-answer g c =
    let a = state_of (g.S.Sources.view c.args.s.now) c.args.bench.now in
    let q = place_in a.world c.args.from.now.source c.args.from.now.spot in
    let all : take c.loop-index.index-index c.args.steps.now ≡ c.args.steps.now = search (rules, take_all) in
    record {
      spot = c.loop-index.invariant.spot;
      place_is = c.loop-index.invariant.place_is ∙ ap (λ (r : List ℕ). q ++ r) all;
      there = below_there a c.args.from.now c.args.steps.now (subst (IsOnWay a c.args.from.now.source q) all c.loop-index.invariant.there);
    }
