use Rattle.mix_run.proofs.Finishing.{plans_finished}
use Rattle.mix_run.proofs.law.plans_are_finished.Goals as goal

pub returns : goal.returns
returns c = plans_finished (λ p valid docs. c.valid_plans_have_documents.ensures p valid docs) c.texts_have_senses.ensures c.each_node_is_named.ensures c.names_are_nodes.ensures
