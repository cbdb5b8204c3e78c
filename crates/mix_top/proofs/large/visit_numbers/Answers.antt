use Rattle.std.proofs.Common.{rules, append_assoc}
use Rattle.mix_top.proofs.large.visit_numbers.Goals as goal

pub returns : goal.returns
returns c = search (rules, append_assoc)
