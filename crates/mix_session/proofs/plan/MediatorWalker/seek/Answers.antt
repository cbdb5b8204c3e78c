use Rattle.mix_session.specs.Refusals.{of_walk}
use Rattle.mix_session.proofs.Sources.{if_ok}
use Rattle.mix_session.proofs.Plans.{plan_stays, plan_down, plan_right, told_toll}
use Rattle.lazy_plan.specs.Bench.{documents, ops_of}
use Rattle.lazy_walk.specs.Places.{down_toll, right_toll}
use Rattle.lazy_value.specs.Named.{state_of}
use Rattle.mix_session.proofs.plan.MediatorWalker.seek.Goals as goal

pub returns-in-Down-clause-stays : goal.returns-in-Down-clause-stays
returns-in-Down-clause-stays g c =
    let walked = c.down.ensures.walked in
    plan_stays (g.S.Sources.view c.args.s.now) (g.S.Sources.view c.down.new.s) c.args.self.now c.down.new.self walked.mediator walked.kept walked.stay walked.owed

pub returns-in-Right-clause-stays : goal.returns-in-Right-clause-stays
returns-in-Right-clause-stays g c =
    let walked = c.right.ensures.walked in
    plan_stays (g.S.Sources.view c.args.s.now) (g.S.Sources.view c.right.new.s) c.args.self.now c.right.new.self walked.mediator walked.kept walked.stay walked.owed

pub returns-in-Down-clause-found : goal.returns-in-Down-clause-found
returns-in-Down-clause-found g c =
    let v = g.S.Sources.view c.args.s.now in
    let v' = g.S.Sources.view c.down.new.s in
    let m = c.args.self.now in
    let m' = c.down.new.self in
    let down = c.down.ensures in
    rw c.in-Down.is (if_ok c.found_in.result (of_walk c.down.result) _
    (λ r is. plan_down v v' m m' c.down.result r is down.cause c.args.n.now down.node down.place down.below down.paid) c.found_in.ensures)

pub returns-in-Right-clause-found : goal.returns-in-Right-clause-found
returns-in-Right-clause-found g c =
    let v = g.S.Sources.view c.args.s.now in
    let v' = g.S.Sources.view c.right.new.s in
    let m = c.args.self.now in
    let m' = c.right.new.self in
    let right = c.right.ensures in
    rw c.in-Right.is (if_ok c.found_in-in-Right.result (of_walk c.right.result) _
    (λ r is. plan_right v v' m m' c.right.result r is right.cause c.args.n.now right.node right.place right.right right.paid) c.found_in-in-Right.ensures)

pub returns-in-Down-clause-toll : goal.returns-in-Down-clause-toll
returns-in-Down-clause-toll g c =
    let v = g.S.Sources.view c.args.s.now in
    let v' = g.S.Sources.view c.down.new.s in
    let m = c.args.self.now in
    let st = state_of v m in
    rw c.in-Down.is (λ x told tolls. told_toll st m c.args.n.now x v.fills v'.fills (down_toll (documents st) (ops_of st) x) told.0 (c.down.ensures.lazy x told.1 tolls.0 tolls.1))

pub returns-in-Down-clause-cost : goal.returns-in-Down-clause-cost
returns-in-Down-clause-cost g c = rw c.in-Down.is (λ tolls p at. c.down.ensures.lazy p at tolls.0 tolls.1)

pub returns-in-Right-clause-toll : goal.returns-in-Right-clause-toll
returns-in-Right-clause-toll g c =
    let v = g.S.Sources.view c.args.s.now in
    let v' = g.S.Sources.view c.right.new.s in
    let m = c.args.self.now in
    let st = state_of v m in
    rw c.in-Right.is (λ x told tolls. told_toll st m c.args.n.now x v.fills v'.fills (right_toll (documents st) (ops_of st) x) told.0 (c.right.ensures.lazy x told.1 tolls.0 tolls.1))

pub returns-in-Right-clause-cost : goal.returns-in-Right-clause-cost
returns-in-Right-clause-cost g c = rw c.in-Right.is (λ tolls p at. c.right.ensures.lazy p at tolls.0 tolls.1)
