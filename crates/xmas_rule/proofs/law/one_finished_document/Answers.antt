use Rattle.xmas_rule.proofs.Unique.{one_finished}
use Rattle.xmas_rule.proofs.law.one_finished_document.Goals as goal

pub returns : goal.returns
returns c = one_finished
