use Rattle.plain_rule.proofs.Splits.{single}
use Rattle.plain_rule.proofs.describing.is_single.Goals as goal

pub returns : goal.returns
returns c = single c.args.labels.now
