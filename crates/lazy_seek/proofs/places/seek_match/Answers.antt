use Rattle.std.proofs.Common.{rules, arith, ◌≡◌, ◌∙◌, ◌+◌, sym, ap, subst, take, get_or}
use Rattle.std.proofs.lemmas.List.{take_all}
use Rattle.mix_base.proofs.Lists.{append_nil}
use Rattle.path_auto.specs.Automaton.{Table, machine_of, table_of}
use Rattle.lazy_binding.specs.World.{place_in}
use Rattle.lazy_plan.specs.Bench.{state_of}
use Rattle.lazy_plan.proofs.Benches.{keeps_on}
use Rattle.lazy_seek.specs.Reach.{reach}
use Rattle.lazy_seek.proofs.Matching.{IsOnWay, IsAtStates, visit_on, way_next, way_there, way_states, way_broken, way_accepted, way_refused}
use Rattle.lazy_seek.proofs.Walks.{sought_none, sought_then, fault_after, reach_next, reach_within}
use Rattle.lazy_seek.proofs.places.seek_match.Goals as goal

pub loop-index-init : goal.loop-index-init
loop-index-init g c = record {
  sought = sought_none g.met.S.Sources.same c.args.s.now c.args.bench.now c.requires.bench;
  spot = c.requires.spot;
  place_is = sym (append_nil (place_in (state_of (g.S.Sources.view c.args.s.now) c.args.bench.now).world c.args.start.now.source c.args.start.now.spot));
  there = λ t l. absurd (omega (arith, l));
  states = λ path v t. c.start-states.ensures ∙ ap (λ (a : Table). (machine_of a).start) (c.automaton.ensures path v);
}

pub child_at-requires-clause-bench : goal.child_at-requires-clause-bench
child_at-requires-clause-bench g c = c.loop-index.invariant.sought.ran.bench

pub child_at-requires-clause-spot : goal.child_at-requires-clause-spot
child_at-requires-clause-spot g c = c.loop-index.invariant.spot

pub returns-in_err-next-clause-sought : goal.returns-in_err-next-clause-sought
returns-in_err-next-clause-sought g c =
    sought_then g.met.S.Sources.after (reach (take c.loop-index.index-index c.args.way.now.steps.now)) (get_or c.args.way.now.steps.now c.loop-index.index-index 0 + 1) (reach c.args.way.now.steps.now) c.args.s.now c.loop-index.s
    c.child_at.new.s c.args.bench.now c.loop-index.bench c.child_at.new.bench c.loop-index.invariant.sought c.child_at.ensures.sought.ran c.child_at.ensures.sought.asks
    (reach_within c.args.way.now.steps.now c.loop-index.index-index c.loop-index-test.true)

pub returns-in_err-next-clause-cause : goal.returns-in_err-next-clause-cause
returns-in_err-next-clause-cause g c =
    fault_after (state_of (g.S.Sources.view c.args.s.now) c.args.bench.now) (state_of (g.S.Sources.view c.loop-index.s) c.loop-index.bench) (g.S.Sources.view c.child_at.new.s)
    c.loop-index.invariant.sought.ran.kept c.from_residual.result (search rules)

pub returns-in_default-clause-sought : goal.returns-in_default-clause-sought
returns-in_default-clause-sought g c =
    sought_then g.met.S.Sources.after (reach (take c.loop-index.index-index c.args.way.now.steps.now)) (get_or c.args.way.now.steps.now c.loop-index.index-index 0 + 1) (reach c.args.way.now.steps.now) c.args.s.now c.loop-index.s
    c.child_at.new.s c.args.bench.now c.loop-index.bench c.child_at.new.bench c.loop-index.invariant.sought c.child_at.ensures.sought.ran c.child_at.ensures.sought.asks
    (reach_within c.args.way.now.steps.now c.loop-index.index-index c.loop-index-test.true)

pub returns-in_default-clause-answer : goal.returns-in_default-clause-answer
returns-in_default-clause-answer g c = λ path v t l.
    way_broken (state_of (g.S.Sources.view c.args.s.now) c.args.bench.now) (state_of (g.S.Sources.view c.loop-index.s) c.loop-index.bench) (state_of (g.S.Sources.view c.child_at.new.s) c.child_at.new.bench)
    c.loop-index.invariant.sought.ran.kept path c.args.start.now.source c.loop-index.spot (place_in (state_of (g.S.Sources.view c.args.s.now) c.args.bench.now).world c.args.start.now.source c.args.start.now.spot) c.args.way.now.steps.now
    c.loop-index.index-index c.loop-index-test.true c.loop-index.invariant.place_is (rw c.in_default.is at c.in_ok-next.ensures.answer) t l

pub loop-index-preserved : goal.loop-index-preserved
loop-index-preserved g c =
    let h = rw c.in-Some.is at c.in_ok-next.ensures.answer in
    let a = state_of (g.S.Sources.view c.args.s.now) c.args.bench.now in
    let b = state_of (g.S.Sources.view c.loop-index.s) c.loop-index.bench in
    let d = state_of (g.S.Sources.view c.child_at.new.s) c.child_at.new.bench in
    let k = c.loop-index.invariant.sought.ran.kept in
    let k' = c.child_at.ensures.sought.ran.kept in
    let q = place_in a.world c.args.start.now.source c.args.start.now.spot in
    let e = reach_next c.args.way.now.steps.now c.loop-index.index-index c.loop-index-test.true in
    record {
      sought =
          sought_then g.met.S.Sources.after (reach (take c.loop-index.index-index c.args.way.now.steps.now)) (get_or c.args.way.now.steps.now c.loop-index.index-index 0 + 1)
          (reach (take (c.loop-index.index-index + 1) c.args.way.now.steps.now)) c.args.s.now c.loop-index.s c.child_at.new.s c.args.bench.now c.loop-index.bench c.child_at.new.bench
          c.loop-index.invariant.sought c.child_at.ensures.sought.ran c.child_at.ensures.sought.asks (omega (arith, e));
      spot = h.spot;
      place_is = way_next a b d k k' c.args.start.now.source c.loop-index.spot c.in-Some.next q c.args.way.now.steps.now c.loop-index.index-index c.loop-index-test.true c.loop-index.invariant.place_is h;
      there = way_there a b d k k' c.args.start.now.source c.loop-index.spot c.in-Some.next q c.args.way.now.steps.now c.loop-index.index-index c.loop-index-test.true c.loop-index.invariant.place_is h;
      states = λ path v.
          subst (IsAtStates a c.args.start.now.source q (take (c.loop-index.index-index + 1) c.args.way.now.steps.now) (table_of path))
          (sym (c.step-states.ensures ∙ ap (λ (m : Table). (machine_of m).step c.loop-index.states c.label-label.result.now) (c.automaton-in-loop-index.ensures path (visit_on a d (keeps_on.twice a b d k k') c.args.way.now.op path v))))
          (way_states a b d k k' c.args.start.now.source c.loop-index.spot c.in-Some.next q c.args.way.now.steps.now c.loop-index.index-index c.loop-index-test.true c.loop-index.invariant.place_is h
          (table_of path) c.loop-index.states c.label-label.result.now (c.loop-index.invariant.states path v) (λ t. c.label-label.ensures (g.S.Sources.view c.child_at.new.s) c.child_at.ensures.sought.ran.bench h.spot t));
    }

pub returns-then-accepts-clause-answer : goal.returns-then-accepts-clause-answer
returns-then-accepts-clause-answer g c = λ path v t.
    let a = state_of (g.S.Sources.view c.args.s.now) c.args.bench.now in
    let q = place_in a.world c.args.start.now.source c.args.start.now.spot in
    let all : take c.loop-index.index-index c.args.way.now.steps.now ≡ c.args.way.now.steps.now = search (rules, take_all) in
    way_accepted a path c.args.start.now.source c.loop-index.states q c.args.way.now.steps.now c.requires.some (subst (IsOnWay a c.args.start.now.source q) all c.loop-index.invariant.there)
    (subst (λ p. IsAtStates a c.args.start.now.source q p (table_of path) c.loop-index.states) all (c.loop-index.invariant.states path v)) (sym (ap (λ (m : Table). (machine_of m).accepts c.loop-index.states)
    (c.automaton-2.ensures path (visit_on a (state_of (g.S.Sources.view c.loop-index.s) c.loop-index.bench) c.loop-index.invariant.sought.ran.kept c.args.way.now.op path v))) ∙ sym c.accepts.ensures ∙ c.if-accepts.true) t

pub returns-else-accepts-clause-answer : goal.returns-else-accepts-clause-answer
returns-else-accepts-clause-answer g c = λ path v t l.
    let a = state_of (g.S.Sources.view c.args.s.now) c.args.bench.now in
    let q = place_in a.world c.args.start.now.source c.args.start.now.spot in
    let all : take c.loop-index.index-index c.args.way.now.steps.now ≡ c.args.way.now.steps.now = search (rules, take_all) in
    way_refused a path c.args.start.now.source c.loop-index.states q c.args.way.now.steps.now
    (subst (λ p. IsAtStates a c.args.start.now.source q p (table_of path) c.loop-index.states) all (c.loop-index.invariant.states path v)) (sym (ap (λ (m : Table). (machine_of m).accepts c.loop-index.states)
    (c.automaton-2.ensures path (visit_on a (state_of (g.S.Sources.view c.loop-index.s) c.loop-index.bench) c.loop-index.invariant.sought.ran.kept c.args.way.now.op path v))) ∙ sym c.accepts.ensures ∙ c.if-accepts.false) t l
