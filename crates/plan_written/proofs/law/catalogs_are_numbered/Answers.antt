use Rattle.plan_written.proofs.Catalogs.{catalog_numbered}
use Rattle.plan_written.proofs.law.catalogs_are_numbered.Goals as goal

pub returns : goal.returns
returns c = catalog_numbered
