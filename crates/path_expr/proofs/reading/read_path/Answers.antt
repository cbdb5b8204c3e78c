use Rattle.path_expr.proofs.Verdicts.{answers_path}
use Rattle.path_expr.proofs.reading.read_path.Goals as goal

pub returns-in-Ok-clause-only : goal.returns-in-Ok-clause-only
returns-in-Ok-clause-only c = λ v. answers_path c.args.text.now c.read.result v c.read.ensures
