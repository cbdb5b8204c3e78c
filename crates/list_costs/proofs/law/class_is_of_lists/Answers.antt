use Rattle.list_costs.proofs.Greatest.{class_of_lists}
use Rattle.list_costs.proofs.law.class_is_of_lists.Goals as goal

pub returns : goal.returns
returns c = class_of_lists
