use Rattle.std.proofs.Common.{refl}
use Rattle.csv_wrap.specs.Rows.{file_tree}
use Rattle.source_checks.proofs.texts.csv_fault.Goals as goal

pub returns : goal.returns
returns c = let a = c.in-Ok.ensures.document in (file_tree c.args.name.now c.args.columns.now a.0, (a.0, a.1, refl))
