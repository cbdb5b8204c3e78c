use Rattle.browse_visit.proofs.TableLaid.{shapes_laid, files_laid}
use Rattle.browse_visit.proofs.law.tables_are_laid.Goals as goal

pub returns : goal.returns
returns c = record { tables = shapes_laid; files = files_laid }
