use Rattle.std.proofs.Common.{rules, ◌∙◌}
use Rattle.plan_core.specs.PlanMade.{plan_value}
use Rattle.lazy_walk.specs.Walks.{state_of, plan_of}
use Rattle.lazy_walk.proofs.Searching.{led_lower, down_asked, down_none, down_found}
use Rattle.lazy_walk.proofs.Walking.{steps_after, members_on}
use Rattle.lazy_walk.proofs.walk.Walk.child_led.Goals as goal

pub sibling_led-requires-clause-members : goal.sibling_led-requires-clause-members
sibling_led-requires-clause-members g c =
    let old = state_of (g.S.Sources.view c.args.s.now) c.args.self.now in
    let now = state_of (g.S.Sources.view c.down.new.s) c.down.new.self in
    members_on old now c.down.ensures.walked.kept c.args.ahead.now.levels.now c.args.ahead.now.members.now c.requires.members

pub returns-in_err-down : goal.returns-in_err-down
returns-in_err-down g c =
    let old = state_of (g.S.Sources.view c.args.s.now) c.args.self.now in
    let now = state_of (g.S.Sources.view c.down.new.s) c.down.new.self in
    record {
      walked = c.down.ensures.walked;
      cause = search rules;
      found = (search rules, λ tells. down_asked old now c.down.ensures.walked.kept c.args.n.now c.args.ahead.now c.down.ensures.lazy c.from_residual.result (λ q j at has x. search rules));
    }

pub returns-in-None : goal.returns-in-None
returns-in-None g c =
    let old = state_of (g.S.Sources.view c.args.s.now) c.args.self.now in
    let now = state_of (g.S.Sources.view c.down.new.s) c.down.new.self in
    let known = c.requires.walk in
    record {
      walked = c.down.ensures.walked;
      cause = tt;
      found = (
        (tt, tt),
        λ tells.
            down_none old now c.down.ensures.walked.kept c.args.n.now c.args.ahead.now c.down.ensures.lazy known.valid known.fixed.typed (c.tolled_is_document.ensures (plan_value (plan_of c.args.self.now))) tells c.in_ok-down.field-0
            c.in_ok-down.ensures.place c.in-None.is,
      );
    }

pub returns-in-Some : goal.returns-in-Some
returns-in-Some g c =
    let old = state_of (g.S.Sources.view c.args.s.now) c.args.self.now in
    let now = state_of (g.S.Sources.view c.down.new.s) c.down.new.self in
    let new = state_of (g.S.Sources.view c.sibling_led.new.s) c.sibling_led.new.self in
    let kept = c.down.ensures.walked.kept in
    let known = c.requires.walk in
    let height = rw c.in-Some.is at c.in_ok-down.ensures.height in
    steps_after g.met.S.Sources.after c.args.s.now c.down.new.s c.sibling_led.new.s c.args.self.now c.down.new.self c.sibling_led.new.self c.sibling_led.result c.down.ensures.walked c.sibling_led.ensures
    (λ found. (
      led_lower new _ _ _ height c.sibling_led.result found.0,
      λ tells.
          down_found old now kept c.args.n.now c.args.ahead.now c.down.ensures.lazy known.valid known.fixed.typed (c.tolled_is_document.ensures (plan_value (plan_of c.args.self.now))) tells c.in_ok-down.field-0
          c.in_ok-down.ensures.place c.in-Some.first c.in-Some.is new c.sibling_led.result (found.1 (kept.told ∙ tells)),
    ))
