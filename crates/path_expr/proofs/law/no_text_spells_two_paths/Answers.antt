use Rattle.path_expr.proofs.Verdicts.{one_value}
use Rattle.path_expr.proofs.law.no_text_spells_two_paths.Goals as goal

pub returns : goal.returns
returns c = one_value
