use Rattle.lxp_memory.proofs.DocumentLaws.{documents_at}
use Rattle.lxp_memory.proofs.memory.MemSources.new.Goals as goal

pub returns-clause-documents : goal.returns-clause-documents
returns-clause-documents c = documents_at c.in_ok-documents_of.field-0.items c.args.docs.items c.in_ok-documents_of.ensures.roots
