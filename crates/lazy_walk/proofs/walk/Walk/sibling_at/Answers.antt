use Rattle.std.proofs.Common.{rules, arith, ◌≡◌, ◌<◌, ◌+◌, ◌++◌, ◌∷◌, [], ℕ, Some, None, ◌∙◌, subst}
use Rattle.lazy_seek.proofs.Walks.{fault_after}
use Rattle.plan_core.specs.PlanMade.{plan_value}
use Rattle.lazy_walk.specs.Walks.{state_of, plan_of}
use Rattle.lazy_walk.specs.Places.{IsAt}
use Rattle.lazy_walk.proofs.OnWay.{plan_there, way_start, way_asked, way_asks, way_further, way_left, way_next}
use Rattle.lazy_walk.proofs.Walking.{walked_none, walked_twice}
use Rattle.lazy_walk.proofs.walk.Walk.sibling_at.Goals as goal

pub loop-step-init : goal.loop-step-init
loop-step-init g c =
    let old = state_of (g.S.Sources.view c.args.s.now) c.args.self.now in
    record {
      walked = walked_none g.met.S.Sources.same c.args.s.now c.args.self.now c.requires.walk;
      node = c.requires.node;
      height = omega arith;
      way = λ tells q i at has. (way_start old c.args.first q i c.args.more at, omega arith);
    }

pub returns-in_err-right : goal.returns-in_err-right
returns-in_err-right g c =
    let old = state_of (g.S.Sources.view c.args.s.now) c.args.self.now in
    let now = state_of (g.S.Sources.view c.loop-step.s) c.loop-step.self in
    let new = state_of (g.S.Sources.view c.right.new.s) c.right.new.self in
    let h = c.loop-step.invariant in
    let more : c.loop-step._step < c.args.more = search rules in
    record {
      walked = walked_twice g.met.S.Sources.after c.args.s.now c.loop-step.s c.right.new.s c.args.self.now c.loop-step.self c.right.new.self h.walked c.right.ensures.walked;
      cause = fault_after old now (g.S.Sources.view c.right.new.s) h.walked.kept c.from_residual.result (search rules);
      found = (
        search rules,
        λ tells q i at has.
            (let on = h.way tells q i at has in
            let left = way_left old now h.walked.kept c.loop-step.node q i c.args.more on.0 (λ e. (let z = on.1 in omega (arith, z, e, more))) in
            (way_asks old now h.walked.kept c.loop-step.node q i c.args.more on.0 new (c.right.ensures.lazy (q ++ on.0.index ∷ []) on.0.at) left.0 left.1, search rules)),
      );
    }

pub returns-in-None : goal.returns-in-None
returns-in-None g c =
    let old = state_of (g.S.Sources.view c.args.s.now) c.args.self.now in
    let now = state_of (g.S.Sources.view c.loop-step.s) c.loop-step.self in
    let new = state_of (g.S.Sources.view c.right.new.s) c.right.new.self in
    let h = c.loop-step.invariant in
    let more : c.loop-step._step < c.args.more = search rules in
    let known = h.walked.walk in
    record {
      walked = walked_twice g.met.S.Sources.after c.args.s.now c.loop-step.s c.right.new.s c.args.self.now c.loop-step.self c.right.new.self h.walked c.right.ensures.walked;
      cause = tt;
      found = (
        (tt, tt),
        λ tells q i at has.
            (let on = h.way tells q i at has in
            let left = way_left old now h.walked.kept c.loop-step.node q i c.args.more on.0 (λ e. (let z = on.1 in omega (arith, z, e, more))) in
            let place = rw c.in-None.is at (c.in_ok-right.ensures.place (q ++ on.0.index ∷ []) on.0.at) in
            absurd
            (way_next old now h.walked.kept c.loop-step.node q i c.args.more on.0 (plan_there now known.valid known.fixed.typed (c.tolled_is_document.ensures (plan_value (plan_of c.loop-step.self)))) (h.walked.kept.told ∙ tells) has left.0 left.1 new None place)),
      );
    }

pub loop-step-preserved : goal.loop-step-preserved
loop-step-preserved g c =
    let old = state_of (g.S.Sources.view c.args.s.now) c.args.self.now in
    let now = state_of (g.S.Sources.view c.loop-step.s) c.loop-step.self in
    let new = state_of (g.S.Sources.view c.right.new.s) c.right.new.self in
    let h = c.loop-step.invariant in
    let more : c.loop-step._step < c.args.more = search rules in
    let known = h.walked.walk in
    let node = rw c.in-Some.is at c.in_ok-right.ensures.node in
    let height = rw c.in-Some.is at c.in_ok-right.ensures.height in
    let below = h.height in
    record {
      walked = walked_twice g.met.S.Sources.after c.args.s.now c.loop-step.s c.right.new.s c.args.self.now c.loop-step.self c.right.new.self h.walked c.right.ensures.walked;
      node = node;
      height = omega (arith, height, below);
      way = λ tells q i at has.
          (let on = h.way tells q i at has in
          let z = on.1 in
          let left = way_left old now h.walked.kept c.loop-step.node q i c.args.more on.0 (λ e. omega (arith, z, e, more)) in
          let place = rw c.in-Some.is at (c.in_ok-right.ensures.place (q ++ on.0.index ∷ []) on.0.at) in
          let there =
          way_next old now h.walked.kept c.loop-step.node q i c.args.more on.0 (plan_there now known.valid known.fixed.typed (c.tolled_is_document.ensures (plan_value (plan_of c.loop-step.self)))) (h.walked.kept.told ∙ tells) has left.0 left.1 new (Some c.in-Some.next) place in
          let step = c.right.ensures.lazy (q ++ on.0.index ∷ []) on.0.at in
          let further = way_further old now h.walked.kept c.loop-step.node q i c.args.more on.0 new step left.0 left.1 c.in-Some.next there in
          let one = further.1 in
          (further.0, omega (arith, z, one)));
    }

pub returns : goal.returns
returns g c =
    let old = state_of (g.S.Sources.view c.args.s.now) c.args.self.now in
    let now = state_of (g.S.Sources.view c.loop-step.s) c.loop-step.self in
    let h = c.loop-step.invariant in
    let end : c.loop-step._step ≡ c.args.more = search rules in
    record {
      walked = h.walked;
      cause = tt;
      found = (
        (h.node, h.height),
        λ tells q i at has.
            (let on = h.way tells q i at has in
            let z = on.1 in
            let same : on.0.index ≡ i + c.args.more = omega (arith, z, end) in
            (way_asked old now h.walked.kept c.loop-step.node q i c.args.more on.0, subst (λ (k : ℕ). IsAt now c.loop-step.node (q ++ k ∷ [])) same on.0.at)),
      );
    }
