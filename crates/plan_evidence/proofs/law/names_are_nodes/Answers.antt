use Rattle.plan_evidence.proofs.NamedNodes.{names_nodes}
use Rattle.plan_evidence.proofs.law.names_are_nodes.Goals as goal

pub returns : goal.returns
returns c = names_nodes c.tolled_is_document.ensures
