use Rattle.plan_core.specs.PlanMade.{plan_value}
use Rattle.lazy_plan.specs.Bench.{documents}
use Rattle.lazy_walk.specs.Walks.{state_of, plan_of}
use Rattle.lazy_walk.proofs.Placing.{label_there}
use Rattle.lazy_walk.proofs.walk.Walk.fetch.Goals as goal

pub returns : goal.returns
returns c = λ view h p i y. label_there (state_of view c.args.self.now)
    (c.tolled_is_document.ensures (plan_value (plan_of c.args.self.now)) h.valid (documents (state_of view c.args.self.now))) c.args.n.now p i y _ (c.label_of.ensures view h i.node.site y)
