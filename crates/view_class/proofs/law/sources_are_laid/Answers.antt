use Rattle.view_class.proofs.Laid.{files_laid, tables_laid}
use Rattle.view_class.proofs.law.sources_are_laid.Goals as goal

pub returns-clause-files : goal.returns-clause-files
returns-clause-files c = files_laid

pub returns-clause-tables : goal.returns-clause-tables
returns-clause-tables c = tables_laid
