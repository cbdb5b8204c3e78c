use Rattle.plan_core.specs.PlanMade.{plan_value}
use Rattle.lazy_site.proofs.Having.{label_of_root}
use Rattle.lazy_site.proofs.fetching.root_label.Goals as goal

pub returns : goal.returns
returns c = λ docs i. label_of_root docs (plan_value c.args.plan.now).ops (c.valid_plans_are_typed.ensures (plan_value c.args.plan.now) c.requires) c.last-input.result.0 c.last-input.result.1 c.last-input.ensures c.made_label.result.now c.made_label.ensures i

pub made_label-requires-clause-typed : goal.made_label-requires-clause-typed
made_label-requires-clause-typed c = c.valid_plans_are_typed.ensures (plan_value c.args.plan.now) c.requires
