use Rattle.std.proofs.Common.{rules, arith, ◌∙◌}
use Rattle.plan_core.specs.PlanMade.{plan_value}
use Rattle.lazy_seek.proofs.Walks.{fault_after}
use Rattle.lazy_walk.specs.Walks.{state_of, plan_of}
use Rattle.lazy_walk.proofs.Searching.{right_start, right_found, right_asked, right_none, right_more}
use Rattle.lazy_walk.proofs.Walking.{walked_none, walked_twice, members_on}
use Rattle.lazy_walk.proofs.walk.Walk.sibling_led.Goals as goal

pub siblings-init : goal.siblings-init
siblings-init g c =
    let old = state_of (g.S.Sources.view c.args.s.now) c.args.self.now in
    record {
      walked = walked_none g.met.S.Sources.same c.args.s.now c.args.self.now c.requires.walk;
      node = c.requires.node;
      height = omega arith;
      way = λ tells. right_start old c.args.first c.args.ahead.now;
    }

pub levels_led_to-requires : goal.levels_led_to-requires
levels_led_to-requires g c =
    let old = state_of (g.S.Sources.view c.args.s.now) c.args.self.now in
    let now = state_of (g.S.Sources.view c.siblings.s) c.siblings.self in
    let h = c.siblings.invariant in
    record { walk = (g.S.Sources.view c.siblings.s, h.walked.walk, (h.node, members_on old now h.walked.kept c.args.ahead.now.levels.now c.args.ahead.now.members.now c.requires.members)) }

pub returns-in-Some : goal.returns-in-Some
returns-in-Some g c =
    let old = state_of (g.S.Sources.view c.args.s.now) c.args.self.now in
    let now = state_of (g.S.Sources.view c.siblings.s) c.siblings.self in
    let h = c.siblings.invariant in
    let members = members_on old now h.walked.kept c.args.ahead.now.levels.now c.args.ahead.now.members.now c.requires.members in
    let within = c.in-Some.ensures.within in
    record {
      walked = h.walked;
      cause = tt;
      found = (
        ((h.node, within.0, within.1), h.height),
        λ tells. right_found old now h.walked.kept c.args.first c.siblings.node c.args.ahead.now (h.way tells) c.in-Some.count (c.in-Some.ensures.leads (g.S.Sources.view c.siblings.s) h.walked.walk members (h.walked.kept.told ∙ tells)),
      );
    }

pub returns-in_err-right-in-None : goal.returns-in_err-right-in-None
returns-in_err-right-in-None g c =
    let old = state_of (g.S.Sources.view c.args.s.now) c.args.self.now in
    let now = state_of (g.S.Sources.view c.siblings.s) c.siblings.self in
    let new = state_of (g.S.Sources.view c.right.new.s) c.right.new.self in
    let h = c.siblings.invariant in
    let members = members_on old now h.walked.kept c.args.ahead.now.levels.now c.args.ahead.now.members.now c.requires.members in
    record {
      walked = walked_twice g.met.S.Sources.after c.args.s.now c.siblings.s c.right.new.s c.args.self.now c.siblings.self c.right.new.self h.walked c.right.ensures.walked;
      cause = fault_after old now (g.S.Sources.view c.right.new.s) h.walked.kept c.from_residual.result (search rules);
      found = (
        search rules,
        λ tells.
            right_asked old now h.walked.kept c.args.first c.siblings.node c.args.ahead.now (h.way tells) (c.in-None.ensures.leads (g.S.Sources.view c.siblings.s) h.walked.walk members (h.walked.kept.told ∙ tells)) new c.right.ensures.lazy
            c.from_residual.result (λ q i more at has x. search rules),
      );
    }

pub returns-in-None-2 : goal.returns-in-None-2
returns-in-None-2 g c =
    let old = state_of (g.S.Sources.view c.args.s.now) c.args.self.now in
    let now = state_of (g.S.Sources.view c.siblings.s) c.siblings.self in
    let new = state_of (g.S.Sources.view c.right.new.s) c.right.new.self in
    let h = c.siblings.invariant in
    let known = h.walked.walk in
    let members = members_on old now h.walked.kept c.args.ahead.now.levels.now c.args.ahead.now.members.now c.requires.members in
    record {
      walked = walked_twice g.met.S.Sources.after c.args.s.now c.siblings.s c.right.new.s c.args.self.now c.siblings.self c.right.new.self h.walked c.right.ensures.walked;
      cause = tt;
      found = (
        (tt, tt),
        λ tells.
            right_none old now h.walked.kept c.args.first c.siblings.node c.args.ahead.now (h.way tells) (c.in-None.ensures.leads (g.S.Sources.view c.siblings.s) known members (h.walked.kept.told ∙ tells)) new c.right.ensures.lazy
            known.valid known.fixed.typed (c.tolled_is_document.ensures (plan_value (plan_of c.siblings.self))) (h.walked.kept.told ∙ tells) c.in_ok-right-in-None.field-0 c.in_ok-right-in-None.ensures.place c.in-None-2.is,
      );
    }

pub siblings-preserved : goal.siblings-preserved
siblings-preserved g c =
    let old = state_of (g.S.Sources.view c.args.s.now) c.args.self.now in
    let now = state_of (g.S.Sources.view c.siblings.s) c.siblings.self in
    let new = state_of (g.S.Sources.view c.right.new.s) c.right.new.self in
    let h = c.siblings.invariant in
    let known = h.walked.walk in
    let members = members_on old now h.walked.kept c.args.ahead.now.levels.now c.args.ahead.now.members.now c.requires.members in
    let node = rw c.in-Some-2.is at c.in_ok-right-in-None.ensures.node in
    let height = rw c.in-Some-2.is at c.in_ok-right-in-None.ensures.height in
    let below = h.height in
    record {
      walked = walked_twice g.met.S.Sources.after c.args.s.now c.siblings.s c.right.new.s c.args.self.now c.siblings.self c.right.new.self h.walked c.right.ensures.walked;
      node = node;
      height = omega (arith, height, below);
      way = λ tells.
          right_more old now h.walked.kept c.args.first c.siblings.node c.args.ahead.now (h.way tells) (c.in-None.ensures.leads (g.S.Sources.view c.siblings.s) known members (h.walked.kept.told ∙ tells)) new c.right.ensures.lazy
          known.valid known.fixed.typed (c.tolled_is_document.ensures (plan_value (plan_of c.siblings.self))) (h.walked.kept.told ∙ tells) c.in_ok-right-in-None.field-0 c.in_ok-right-in-None.ensures.place c.in-Some-2.next c.in-Some-2.is;
    }
