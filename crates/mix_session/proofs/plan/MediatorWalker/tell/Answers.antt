use Rattle.mix_session.proofs.Plans.{plan_said}
use Rattle.mix_session.proofs.plan.MediatorWalker.tell.Goals as goal

pub returns : goal.returns
returns c = λ v ready tells. plan_said v c.args.self.now c.args.n.now c.node_data.result c.node_data.ensures.formed (c.node_data.ensures.names v ready)
