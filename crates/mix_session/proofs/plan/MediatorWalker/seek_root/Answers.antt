use Rattle.mix_session.proofs.Plans.{plan_root}
use Rattle.mix_session.proofs.plan.MediatorWalker.seek_root.Goals as goal

pub returns-clause-found : goal.returns-clause-found
returns-clause-found g c =
    let v = g.S.Sources.view c.args.arg3.now in
    plan_root v c.args.self.now c.root.result c.root.ensures.walked (c.root.ensures.place v c.requires)
