use Rattle.list_costs.proofs.Within.{lists_within}
use Rattle.list_costs.proofs.law.lists_cost_as_told.Goals as goal

pub returns : goal.returns
returns c = lists_within c.valid_plans_are_typed.ensures c.events_are_as_known.ensures
