use Rattle.xmas_rule.proofs.Bindings.{tuples_bind}
use Rattle.xmas_rule.proofs.law.tuples_are_bindings.Goals as goal

pub returns : goal.returns
returns c = tuples_bind
