use Rattle.std.proofs.Common.{[], Some, None}
use Rattle.plan_core.specs.PlanMade.{plan_value}
use Rattle.lazy_walk.specs.Walks.{state_of, plan_of}
use Rattle.lazy_walk.proofs.OnWay.{plan_there}
use Rattle.lazy_walk.proofs.Walking.{steps_after, child_there}
use Rattle.lazy_walk.proofs.Childing.{below_first}
use Rattle.lazy_walk.proofs.walk.Walk.child_at.Goals as goal

pub returns-in-None : goal.returns-in-None
returns-in-None g c =
    let old = state_of (g.S.Sources.view c.args.s.now) c.args.self.now in
    let new = state_of (g.S.Sources.view c.down.new.s) c.down.new.self in
    let known = c.requires.walk in
    record {
      walked = c.down.ensures.walked;
      cause = tt;
      found = (
        (tt, tt),
        λ tells q at has.
            (let place = rw c.in-None.is at (c.in_ok-down.ensures.place q at) in
            absurd (child_there old new (plan_there old known.valid known.fixed.typed (c.tolled_is_document.ensures (plan_value (plan_of c.args.self.now)))) tells q [] c.args.index has None place)),
      );
    }

pub returns-in-Some : goal.returns-in-Some
returns-in-Some g c =
    let old = state_of (g.S.Sources.view c.args.s.now) c.args.self.now in
    let now = state_of (g.S.Sources.view c.down.new.s) c.down.new.self in
    let new = state_of (g.S.Sources.view c.sibling_at.new.s) c.sibling_at.new.self in
    let kept = c.down.ensures.walked.kept in
    let known = c.requires.walk in
    let height = rw c.in-Some.is at c.in_ok-down.ensures.height in
    steps_after g.met.S.Sources.after c.args.s.now c.down.new.s c.sibling_at.new.s c.args.self.now c.down.new.self c.sibling_at.new.self c.sibling_at.result c.down.ensures.walked c.sibling_at.ensures
    (λ found. below_first old now new kept c.args.n.now c.in-Some.first c.args.index c.sibling_at.result height
    (λ tells q at has. (let place = rw c.in-Some.is at (c.in_ok-down.ensures.place q at) in
    (c.down.ensures.lazy q at, child_there old now (plan_there old known.valid known.fixed.typed (c.tolled_is_document.ensures (plan_value (plan_of c.args.self.now)))) tells q [] c.args.index has (Some c.in-Some.first) place))) found)
