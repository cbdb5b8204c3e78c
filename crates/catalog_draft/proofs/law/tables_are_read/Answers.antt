use Rattle.catalog_draft.proofs.Read.{tables_are_catalogs}
use Rattle.catalog_draft.proofs.law.tables_are_read.Goals as goal

pub returns : goal.returns
returns c = tables_are_catalogs
