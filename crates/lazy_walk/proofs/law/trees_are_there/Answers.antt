use Rattle.plan_core.specs.PlanMade.{plan_value}
use Rattle.lazy_plan.specs.Bench.{documents}
use Rattle.lazy_walk.proofs.Placing.{trees_there}
use Rattle.lazy_walk.proofs.law.trees_are_there.Goals as goal

pub returns : goal.returns
returns c = λ st valid y t e n p h. trees_there st (c.tolled_is_document.ensures (plan_value st.plan) valid (documents st)) n p h y t e
