use Rattle.catalog_draft.proofs.Read.{header_is_read}
use Rattle.catalog_draft.proofs.law.headers_are_read.Goals as goal

pub returns : goal.returns
returns c = header_is_read
