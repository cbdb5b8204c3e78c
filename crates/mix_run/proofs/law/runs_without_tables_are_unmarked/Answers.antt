use Rattle.mix_run.proofs.WithoutTables.{without_tables}
use Rattle.mix_run.proofs.law.runs_without_tables_are_unmarked.Goals as goal

pub returns : goal.returns
returns c = without_tables
