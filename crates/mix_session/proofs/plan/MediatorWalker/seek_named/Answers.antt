use Rattle.mix_session.specs.Refusals.{of_walk}
use Rattle.mix_session.proofs.Sources.{if_ok}
use Rattle.mix_session.proofs.Plans.{plan_stays, plan_followed}
use Rattle.mix_session.proofs.plan.MediatorWalker.seek_named.Goals as goal

pub returns-clause-stays : goal.returns-clause-stays
returns-clause-stays g c =
    let walked = c.at.ensures.walked in
    plan_stays (g.S.Sources.view c.args.s.now) (g.S.Sources.view c.at.new.s) c.args.self.now c.at.new.self walked.mediator walked.kept walked.stay walked.owed

pub returns-clause-found : goal.returns-clause-found
returns-clause-found g c =
    let v = g.S.Sources.view c.args.s.now in
    let v' = g.S.Sources.view c.at.new.s in
    let m = c.args.self.now in
    let m' = c.at.new.self in
    let at = c.at.ensures in
    if_ok c.found_in.result (of_walk c.at.result) _ (λ r is. plan_followed v v' m m' c.at.result r is at.cause c.args.node.now at.answer) c.found_in.ensures
