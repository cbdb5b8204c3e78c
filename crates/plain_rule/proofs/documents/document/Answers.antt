use Rattle.std.proofs.Common.{sym}
use Rattle.plain_rule.proofs.Standing.{document_there, document_missing}
use Rattle.plain_rule.proofs.documents.document.Goals as goal

pub returns-then-at-docs : goal.returns-then-at-docs
returns-then-at-docs c = document_there c.args.docs.now c.args.source c.if-at-docs.true

pub returns-else-at-docs : goal.returns-else-at-docs
returns-else-at-docs c = sym (document_missing c.args.docs.now c.args.source c.if-at-docs.false)
