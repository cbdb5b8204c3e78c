use Rattle.plan_evidence.proofs.EachNamed.{each_named}
use Rattle.plan_evidence.proofs.law.each_node_is_named.Goals as goal

pub returns : goal.returns
returns c = each_named c.tolled_is_document.ensures
